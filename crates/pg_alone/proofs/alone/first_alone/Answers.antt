use Rattle.std.proofs.Common.{rules, arith, ◌≡◌, ◌∙◌, sym, ℕ, []}
use Rattle.std.proofs.lemmas.List.{length-map}
use Rattle.pg_list.specs.Flat.{flat}
use Rattle.pg_rules.specs.Floats.{float_numbers, sizes_of}
use Rattle.pg_alone.specs.Alone.{IsPlain}
use Rattle.pg_alone.proofs.Finding.{no_slot, one_more}
use Rattle.pg_alone.proofs.alone.first_alone.Goals as goal

pub loop-slot-preserved : goal.loop-slot-preserved
loop-slot-preserved c = one_more (λ (slot : ℕ). (number : ℕ) → IsPlain c.args.galley.now c.args.style.now slot number)
    c.loop-slot.slot c.loop-slot.invariant c.in-None.ensures

pub returns : goal.returns
returns c =
    let all : c.loop-slot.slot ≡ c.slots_of-slots.result = search rules in
    no_slot c.args.galley.now c.args.style.now c.slots_of-slots.result
    (c.slots_of-slots.ensures.value ∙ sym (length-map (float_numbers c.args.style.now)
    (λ (number : ℕ). sizes_of number (flat c.args.galley.now.blocks []))))
    (λ slot less. c.loop-slot.invariant slot (omega (arith, less, all)))
