-- A paragraph that is broken line by line, each as full as may be, is not broken in the least way.
use Rattle.std.proofs.Common.{◌≡◌, refl, arith, ℕ, pos, List, [], ◌∷◌, true, inl, inr}
use Rattle.std.proofs.lemmas.Int.{ints}
use Rattle.std.specs.Prelude.{◌*◌, ℤ}
use Rattle.pg_list.specs.declared.item.Order.TheVariants.{Finite, Fil}
use Rattle.pg_hlist.specs.declared.item.HItem.{HItem}
use Rattle.pg_hlist.specs.declared.item.HItem.TheVariants.{BoxItem, Glue, Penalty}
use Rattle.law_lines.specs.declared.rule.LineRule.{LineRule}
use Rattle.law_lines.specs.Ways.{IsBestWay, IsLeastWay, IsNoLater, demerits, is_way}

abbrev points : ℕ → ℤ
points n = pos (n * 65536)

abbrev word : ℕ → HItem
word n = BoxItem (points n) (points 7) (points 2) []

abbrev space : HItem
space = Glue (points 2) (points 10) Finite (points 1) []

-- three words that fill a line, a short one, a long one, and what fills the last line
abbrev five_words : List HItem
five_words = word 6 ∷ space ∷ word 6 ∷ space ∷ word 6 ∷ space ∷ word 3 ∷ space ∷ word 20 ∷ Penalty (pos 10000) []
    ∷ Glue (pos 0) (points 1) Fil (pos 0) [] ∷ []

abbrev rule : LineRule
rule = record { width = points 22; tolerance = 10000; around = 0 }

-- the short word stands alone in the second line
abbrev filled : List ℕ
filled = 11 ∷ 7 ∷ 5 ∷ []

-- two words in each of the first two lines
abbrev even : List ℕ
even = 11 ∷ 7 ∷ 3 ∷ []

filled_stands : is_way rule five_words filled ≡ true
filled_stands = refl

even_stands : is_way rule five_words even ≡ true
even_stands = refl

filled_demerits : demerits rule five_words filled ≡ pos 100200300
filled_demerits = refl

even_demerits : demerits rule five_words even ≡ pos 23985
even_demerits = refl

later : IsNoLater (demerits rule five_words filled) filled (demerits rule five_words even) even → ⊥
later (inl less) = omega (arith, ints, less, filled_demerits, even_demerits)
later (inr same) =
    let e : demerits rule five_words filled ≡ demerits rule five_words even = same.0 in
    omega (arith, ints, e, filled_demerits, even_demerits)

pub line_by_line_is_refused : IsLeastWay rule five_words 3 filled → ⊥
line_by_line_is_refused way = later (way.least even even_stands refl)

pub line_by_line_is_not_best : IsBestWay rule five_words filled → ⊥
line_by_line_is_not_best way = line_by_line_is_refused way.least
