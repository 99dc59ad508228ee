-- Marks that are added up, with one more.
use Rattle.std.proofs.Common.{◌≡◌, ◌∙◌, ◌≤◌, ◌-◌, ap, sym, arith, ℕ, suc, ℤ, List, [], ◌∷◌, length, take, drop, get_or}
use Rattle.std.proofs.Math.Seq.{take-length}
use Rattle.std.specs.Prelude.{◌+ℤ◌}
use Rattle.pg_drawing.specs.Totals.{hanging, hanging_behind, natural_extent, with_items}
use Rattle.pg_drawing.specs.declared.model.Mark.{Mark}

-- the marks are the first and those behind it
pub first_mark : (marks : List Mark) (mark : Mark) → 1 ≤ length marks → mark ≡ get_or marks 0 mark →
    marks ≡ mark ∷ take (length marks - 1) (drop 1 marks)
first_mark [] mark l e = absurd (omega (arith, l))
first_mark (m ∷ marks) mark l e =
    let n : length marks ≡ suc (length marks) - 1 = omega arith in
    ap (λ z. z ∷ marks) (sym e) ∙ ap (λ ms. mark ∷ ms) (sym (take-length marks) ∙ ap (λ (k : ℕ). take k marks) n)

pub height_more : (rest after : List Mark) (mark : Mark) (old new all : ℤ) → rest ≡ mark ∷ after →
    new ≡ old +ℤ natural_extent mark.shape → with_items old rest ≡ all → with_items new after ≡ all
height_more rest after mark old new all split one before =
    ap (λ z. with_items z after) one ∙ (sym (ap (with_items old) split) ∙ before)

pub depth_more : (rest after : List Mark) (mark : Mark) (old new all : ℤ) → rest ≡ mark ∷ after →
    new ≡ hanging_behind old mark.shape → hanging old rest ≡ all → hanging new after ≡ all
depth_more rest after mark old new all split one before =
    ap (λ z. hanging z after) one ∙ (sym (ap (hanging old) split) ∙ before)
