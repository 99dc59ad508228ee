use Rattle.std.proofs.Common.{rules, arith, refl, sym, ap, subst, ◌∙◌, ◌≡◌, ◌+◌, ◌-◌, ◌<◌, ◌^◌, ℕ, Option, Some, None}
use Rattle.std.specs.Prelude.{reverse, IfSome}
use Rattle.pg_rules.specs.Floats.{entry}
use Rattle.pg_judge.specs.Bases.{doc_of}
use Rattle.pg_judge.specs.Waits.{price_of, prices_below}
use Rattle.pg_judge.proofs.Prices.{next_price, no_price}
use Rattle.pg_judge.proofs.floats.price_in_slot.Goals as goal

pub returns-in_err-price-clause-price : goal.returns-in_err-price-clause-price
returns-in_err-price-clause-price c =
    let out : c.from_residual.result ≡ None = c.from_residual.ensures in
    let none : c.float_price.result ≡ None = c.in_err-price.was in
    let count : c.saturating_sub-count.result ≡ entry c.args.after.now c.args.slot - entry c.args.placed.now c.args.slot =
    search rules in
    let there = c.loop-number-test.true in
    let float : c.from.result + c.from-in-loop-number.result ≡ entry c.args.placed.now c.args.slot + c.loop-number.number =
    search rules in
    let price = ap (λ (n : ℕ). price_of (doc_of c.args.basis.now) (reverse c.args.turns.now)
    (c.args.slot, n)) (sym float) ∙ (sym c.float_price.ensures ∙ none) in
    out ∙ sym (no_price (λ (n : ℕ). price_of (doc_of c.args.basis.now) (reverse c.args.turns.now)
    (c.args.slot, entry c.args.placed.now c.args.slot + n))
    (entry c.args.after.now c.args.slot - entry c.args.placed.now c.args.slot) c.loop-number.number
    (omega (arith, there, count)) price)

pub loop-number-preserved : goal.loop-number-preserved
loop-number-preserved c =
    let float : c.from.result + c.from-in-loop-number.result ≡ entry c.args.placed.now c.args.slot + c.loop-number.number =
    search rules in
    let some : Some c.in_ok-price.price ≡ c.float_price.result = sym c.in_ok-price.was in
    let wide = c.from-sum.ensures in
    let few : c.in_ok-price.price < 4294967296 = search rules in
    let price = some ∙ (c.float_price.ensures ∙ ap (λ (n : ℕ). price_of (doc_of c.args.basis.now)
    (reverse c.args.turns.now) (c.args.slot, n)) float) in
    record {
      price = ap (λ (n : ℕ). Some (c.loop-number.sum + n)) wide
          ∙ next_price (λ (n : ℕ). price_of (doc_of c.args.basis.now) (reverse c.args.turns.now)
          (c.args.slot, entry c.args.placed.now c.args.slot + n)) c.loop-number.number c.loop-number.sum
          c.in_ok-price.price c.loop-number.invariant.price price;
      few = omega (arith, wide, few, c.loop-number.invariant.few);
    }

pub returns-clause-price : goal.returns-clause-price
returns-clause-price c =
    let count : c.loop-number.number ≡ entry c.args.after.now c.args.slot - entry c.args.placed.now c.args.slot =
    search rules in
    c.loop-number.invariant.price ∙ ap (prices_below (λ (n : ℕ). price_of (doc_of c.args.basis.now)
    (reverse c.args.turns.now) (c.args.slot, entry c.args.placed.now c.args.slot + n))) count

pub loop-number-init : goal.loop-number-init
loop-number-init c = record { price = refl; few = omega arith }

pub overflow_add-from : goal.overflow_add-from
overflow_add-from c = record {
  fits = omega (
    arith,
    c.from.ensures,
    c.entry-first.type_inv,
    c.from-in-loop-number.ensures,
    c.loop-number-test.true,
    c.saturating_sub-count.type_inv,
  );
}

pub float_price-requires : goal.float_price-requires
float_price-requires c = c.requires

pub returns-in_err-price-clause-few : goal.returns-in_err-price-clause-few
returns-in_err-price-clause-few c =
    subst (λ (price : Option ℕ). IfSome price (λ n. n < 2 ^ 48)) (sym c.from_residual.ensures) tt

pub loop-number-smaller : goal.loop-number-smaller
loop-number-smaller c = omega (arith, c.loop-number-test.true)

pub returns-clause-few : goal.returns-clause-few
returns-clause-few c =
    omega (arith, c.loop-number.invariant.few, c.loop-number.auto.number-end, c.saturating_sub-count.type_inv)
