use Rattle.std.proofs.Common.{◌≡◌, ◌<◌, ap, refl, arith, ℕ, false}
use Rattle.std.specs.Prelude.{nat_le}
use Rattle.pg_style.specs.Values.{StyleValue}
use Rattle.pg_lemmas.proofs.Numbers.{le_true, true_le}
use Rattle.pg_lemmas.proofs.Bools.{by_bool}
use Rattle.pg_states.proofs.Both.{missed, passed}
use Rattle.pg_states.proofs.testing.has_column.Goals as goal

-- a greater number
false_le : (a b : ℕ) → b < a → nat_le a b ≡ false
false_le a b less = by_bool (nat_le a b) (λ t. absurd (omega (arith, less, le_true a b t))) (λ f. f)

pub returns-then-column-style : goal.returns-then-column-style
returns-then-column-style c =
    let column = c.args.state.now.column in
    let columns = ap (λ (style : StyleValue). style.columns) c.style.view_is in
    passed (nat_le 1 column) _ _ refl (true_le 1 column c.if-column-ge1.true) (nat_le column 2)
    (passed (nat_le column c.style.inside.columns) _ _ (ap (nat_le column) columns)
    (true_le column c.style.inside.columns c.if-column-style.true) (nat_le column 2) refl)

pub returns-else-column-style : goal.returns-else-column-style
returns-else-column-style c =
    let column = c.args.state.now.column in
    let columns = ap (λ (style : StyleValue). style.columns) c.style.view_is in
    passed (nat_le 1 column) _ _ refl (true_le 1 column c.if-column-ge1.true) (nat_le column c.style.inside.columns)
    (missed (nat_le column c.style.inside.columns) _ _ (ap (nat_le column) columns)
    (false_le column c.style.inside.columns c.if-column-style.false))

pub returns-else-column-ge1 : goal.returns-else-column-ge1
returns-else-column-ge1 c = missed (nat_le 1 c.args.state.now.column) _ _ refl
    (false_le 1 c.args.state.now.column c.if-column-ge1.false)
