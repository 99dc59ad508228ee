-- Widths that are added up, with one more.
use Rattle.std.proofs.Common.{◌≡◌, ◌∙◌, ap, sym, ℤ, List, ◌∷◌}
use Rattle.std.specs.Prelude.{◌+ℤ◌}
use Rattle.pg_drawing.specs.declared.model.Mark.{Mark}
use Rattle.pg_drawing.proofs.Placed.{joined}
use Rattle.pg_draw_page.specs.Spaces.{own_sum, own_width, set_sum, set_width}

pub own_more : (rest after : List Mark) (mark : Mark) (old new all : ℤ) → rest ≡ mark ∷ after →
    new ≡ old +ℤ own_width mark.shape → old +ℤ own_sum rest ≡ all → new +ℤ own_sum after ≡ all
own_more rest after mark old new all split one before =
    joined new old (own_width mark.shape) (own_sum after) all one (sym (ap (λ ms. old +ℤ own_sum ms) split) ∙ before)

pub set_more : (rest after : List Mark) (mark : Mark) (old new all : ℤ) → rest ≡ mark ∷ after →
    new ≡ old +ℤ set_width mark.shape → old +ℤ set_sum rest ≡ all → new +ℤ set_sum after ≡ all
set_more rest after mark old new all split one before =
    joined new old (set_width mark.shape) (set_sum after) all one (sym (ap (λ ms. old +ℤ set_sum ms) split) ∙ before)
