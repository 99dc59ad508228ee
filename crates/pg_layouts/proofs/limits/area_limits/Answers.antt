use Rattle.std.proofs.Common.{rules, ◌≡◌, ◌-◌, ◌∙◌, ap, [], length, map, ℕ}
use Rattle.std.specs.Prelude.{if◌then◌else◌}
use Rattle.std.specs.List.{range_with_len}
use Rattle.pg_rules.specs.Floats.{entry, float_numbers}
use Rattle.pg_floats.specs.Spots.{takes_of, takes_slot}
use Rattle.pg_layouts.proofs.OneMore.{map_next}
use Rattle.pg_layouts.proofs.limits.area_limits.Goals as goal

pub loop-slot-preserved : goal.loop-slot-preserved
loop-slot-preserved c = map_next (λ (slot : ℕ). if takes_slot c.args.style.now (takes_of c.args.spot) slot
    then entry c.args.ceiling.now slot - entry c.args.before.now slot else 0) [] c.loop-slot.counts
    c.push.new.self c.loop-slot.slot c.limit_of.result c.loop-slot.invariant (search rules) c.limit_of.ensures

pub returns : goal.returns
returns c = c.loop-slot.invariant
    ∙ ap (λ (n : ℕ). map (λ (slot : ℕ). if takes_slot c.args.style.now (takes_of c.args.spot) slot
    then entry c.args.ceiling.now slot - entry c.args.before.now slot else 0) (range_with_len 0 n))
    (let e : c.loop-slot.slot ≡ length (float_numbers c.args.style.now) = search rules in e)
