use Rattle.std.proofs.Common.{◌≡◌, ◌∙◌, sym, subst, rules, List, ℕ, ℤ, Bor, false, true, w64, to_z, of_z}
use Rattle.std.specs.Prelude.{◌==◌, Result}
use Rattle.std.specs.Str.Parse.{digits_value}
use Rattle.std.proofs.lemmas.Int.{to_z-of_z}
use Rattle.pg_showbox.specs.declared.kinds.ListKind.{ListKind}
use Rattle.pg_showbox.specs.Parts.{Answers}
use Rattle.pg_showbox.proofs.Capped.{below_cap, digits_said, no_digits}
use Rattle.pg_showbox.proofs.numbers.digits.Goals as goal

pub returns-then-is_empty-clause-value : goal.returns-then-is_empty-clause-value
returns-then-is_empty-clause-value c = no_digits c.args.low c.args.high c.args.minus c.args.bytes.now
    (subst (λ (n : ℕ). (n == 0) ≡ true) c.split_digits.ensures.count (sym c.is_empty.ensures ∙ c.if-is_empty.true))

pub capped_value-requires : goal.capped_value-requires
capped_value-requires c = c.split_digits.ensures.each

pub signed-requires : goal.signed-requires
signed-requires c = below_cap (digits_value 10 c.split_digits.result.0.now) c.capped_value.result
    c.capped_value.ensures

pub returns-clause-value : goal.returns-clause-value
returns-clause-value c =
    let fit : to_z w64 (of_z w64 c.signed.result) ≡ c.signed.result = search rules in
    let some = subst (λ (n : ℕ). (n == 0) ≡ false) c.split_digits.ensures.count
    (sym c.is_empty.ensures ∙ c.if-is_empty.false) in
    subst (λ (said : Result (ℤ × List ℕ) ListKind).
    Answers {X = ℤ × Bor (List ℕ)} {Y = ℤ × List ℕ} (λ x. (x.0, x.1.now)) c.ranged.result said)
    (digits_said c.args.low c.args.high _ _ _ c.args.minus c.args.bytes.now
    c.split_digits.result.0.now c.split_digits.result.1.now c.capped_value.result c.requires.low c.requires.high
    (to_z-of_z w64 c.args.low (record { sfits = c.ranges.low.sfits }))
    (to_z-of_z w64 c.args.high (record { sfits = c.ranges.high.sfits }))
    (fit ∙ c.signed.ensures) c.capped_value.ensures c.split_digits.ensures.digits c.split_digits.ensures.rest some)
    c.ranged.ensures.value
