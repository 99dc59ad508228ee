use Rattle.std.proofs.Common.{rules, ◌≡◌, ◌∙◌, ap, sym, ◌==◌, Bool, true, false, ◌+◌, pos, refl, w32, w64}
use Rattle.std.proofs.lemmas.Int.{to_z-of_z}
use Rattle.std.specs.Prelude.{◌&&◌}
use borrow.Author.Tests.{ne_eqb}
use Rattle.pg_column.proofs.Numbers.{plain_demerits}
use Rattle.pg_list.specs.Whole.{square}
use Rattle.pg_rules.specs.Cost.{is_bonus as is_bonus_of, penalty_demerits}
use Rattle.pg_style.specs.Values.{StyleValue}
use Rattle.pg_column.proofs.cost.demerits.Goals as goal
use Rattle.pg_column.proofs.cost.demerits.Goals.{else-style-eq3-via-then-style-eq3+else-is_bonus, else-style-eq3-via-else-style-eq3}

pub returns-else-style-eq3 : goal.returns-else-style-eq3
returns-else-style-eq3 c =
    let penalty = to_z-of_z w32 c.args.penalty c.ranges.penalty in
    let no : ((c.args.style.now.version == 3) && is_bonus_of c.args.penalty) ≡ false =
    elim c.else-style-eq3.branch [
      | else-style-eq3-via-then-style-eq3+else-is_bonus w ↦
          no_second (c.args.style.now.version == 3) (is_bonus_of c.args.penalty) (sym (ap is_bonus_of penalty) ∙ sym w.is_bonus.ensures ∙ w.if-is_bonus.false)
      | else-style-eq3-via-else-style-eq3 w ↦
          no_first (c.args.style.now.version == 3) (is_bonus_of c.args.penalty)
          (ne_eqb c.args.style.now.version 3 (λ e. w.if-style-eq3.false
          (ap (λ (style : StyleValue). style.version) c.style.view_is ∙ e)))
    ] in
    to_z-of_z w64 c.plus.result (record { sfits = search rules }) ∙ c.plus.ensures.value
    ∙ plain_demerits c.args.style.now c.args.badness c.args.penalty _ _ no
    (to_z-of_z w64 c.line_demerits.result (record { sfits = search rules }) ∙ c.line_demerits.ensures.value
    ∙ ap (λ (style : StyleValue). square (pos (style.line + c.args.badness))) c.style.view_is)
    (to_z-of_z w64 c.penalty_demerits.result (record { sfits = search rules }) ∙ c.penalty_demerits.ensures.value ∙ ap penalty_demerits penalty)
  where
    no_second : (a b : Bool) → b ≡ false → (a && b) ≡ false
    no_second true b e = e
    no_second false b e = refl

    no_first : (a b : Bool) → a ≡ false → (a && b) ≡ false
    no_first true b e = absurd cc
    no_first false b e = refl
