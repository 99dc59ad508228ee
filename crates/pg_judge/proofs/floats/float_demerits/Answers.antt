use Rattle.std.proofs.Common.{rules, arith, sym, ap, ◌∙◌, ◌≡◌, ◌<◌, ◌^◌, Some, None}
use Rattle.std.specs.Prelude.{reverse}
use Rattle.pg_judge.specs.Bases.{doc_of}
use Rattle.pg_judge.specs.Waits.{prices_below, slot_price}
use Rattle.pg_judge.proofs.Prices.{next_price, no_price}
use Rattle.pg_judge.proofs.floats.float_demerits.Goals as goal

pub returns-in_err-price-clause-price : goal.returns-in_err-price-clause-price
returns-in_err-price-clause-price c =
    let out : c.from_residual.result ≡ None = search rules in
    let none : c.price_in_slot.result ≡ None = search rules in
    let there : c.loop-slot.slot < c.args.slots = search rules in
    out ∙ sym (no_price (slot_price (doc_of c.args.basis.now) (reverse c.args.turns.now)
    c.args.placed.now c.args.after.now) c.args.slots c.loop-slot.slot there (sym c.price_in_slot.ensures.price ∙ none))

pub loop-slot-preserved : goal.loop-slot-preserved
loop-slot-preserved c =
    let some : Some c.in_ok-price.price ≡ c.price_in_slot.result = search rules in
    let few : c.in_ok-price.price < 2 ^ 48 = search rules in
    record {
      price = next_price (slot_price (doc_of c.args.basis.now) (reverse c.args.turns.now)
          c.args.placed.now c.args.after.now) c.loop-slot.slot c.loop-slot.sum c.in_ok-price.price
          c.loop-slot.invariant.price (some ∙ c.price_in_slot.ensures.price);
      few = omega (arith, few, c.loop-slot.invariant.few);
    }

pub returns-clause-price : goal.returns-clause-price
returns-clause-price c =
    let all : c.loop-slot.slot ≡ c.args.slots = search rules in
    c.loop-slot.invariant.price ∙ ap (prices_below (slot_price (doc_of c.args.basis.now)
    (reverse c.args.turns.now) c.args.placed.now c.args.after.now)) all
