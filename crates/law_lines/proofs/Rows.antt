-- A paragraph of four words that is broken into two lines or three.
use Rattle.std.proofs.Common.{◌≡◌, refl, ℕ, List, [], ◌∷◌, Some, None, true, false}
use Rattle.std.specs.Prelude.{◌*◌, pos, map, ℤ, Err}
use Rattle.std.specs.List.{range_with_len}
use Rattle.pg_list.specs.declared.item.Order.TheVariants.{Finite, Fil}
use Rattle.pg_hlist.specs.declared.item.HItem.{HItem}
use Rattle.pg_hlist.specs.declared.item.HItem.TheVariants.{BoxItem, Glue, Penalty}
use Rattle.law_lines.specs.declared.rule.LineRule.{LineRule}
use Rattle.law_lines.specs.declared.rule.LineFault.TheVariants.{NoBreak}
use Rattle.law_lines.specs.Lines.{penalty_at, is_forced_at, is_line, line_badness, line_items, line_is_over}
use Rattle.law_lines.specs.Ways.{demerits}
use Rattle.law_lines.specs.Variants.{between}
use Rattle.law_lines.specs.Listing.{ways, least_way, best_way, broken}

abbrev points : ℕ → ℤ
points n = pos (n * 65536)

abbrev word : HItem
word = BoxItem (points 10) (points 7) (points 2) []

abbrev space : HItem
space = Glue (points 2) (points 1) Finite (points 1) []

-- four words, and what fills the last line
abbrev four_words : List HItem
four_words = word ∷ space ∷ word ∷ space ∷ word ∷ space ∷ word ∷ Penalty (pos 10000) [] ∷ Glue (pos 0) (points 1) Fil (pos 0) [] ∷ []

abbrev rule : LineRule
rule = record { width = points 22; tolerance = 10000; around = 1 }

breaks_stand_there : map (penalty_at four_words) (range_with_len 0 11)
    ≡ None ∷ Some (pos 0) ∷ None ∷ Some (pos 0) ∷ None ∷ Some (pos 0) ∷ None ∷ None ∷ None ∷ Some (pos 0) ∷ None ∷ []
breaks_stand_there = refl

end-is_forced : map (is_forced_at four_words) (range_with_len 0 10)
    ≡ false ∷ false ∷ false ∷ false ∷ false ∷ false ∷ false ∷ false ∷ false ∷ true ∷ []
end-is_forced = refl

-- the glue at the front of a line goes
second_line : line_items four_words 3 9 ≡ word ∷ space ∷ word ∷ Penalty (pos 10000) [] ∷ Glue (pos 0) (points 1) Fil (pos 0) [] ∷ []
second_line = refl

-- one word, two and three
badness_computes : map (λ k. line_badness rule (line_items four_words 0 k)) (1 ∷ 3 ∷ []) ≡ 10000 ∷ 0 ∷ []
badness_computes = refl

three_words-over : map (λ k. line_is_over rule (line_items four_words 0 k)) (1 ∷ 3 ∷ 5 ∷ 9 ∷ []) ≡ false ∷ false ∷ true ∷ true ∷ []
three_words-over = refl

lines-stand : map (is_line rule four_words 0) (range_with_len 0 10)
    ≡ false ∷ true ∷ false ∷ true ∷ false ∷ false ∷ false ∷ false ∷ false ∷ false ∷ []
lines-stand = refl

one_line-none : ways rule four_words 1 ≡ []
one_line-none = refl

two_lines-ways : ways rule four_words 2 ≡ (9 ∷ 3 ∷ []) ∷ []
two_lines-ways = refl

two_lines-demerits : demerits rule four_words (9 ∷ 3 ∷ []) ≡ pos 200
two_lines-demerits = refl

-- three lines have three ways, two of them of equal demerits
three_lines-ways : ways rule four_words 3 ≡ (9 ∷ 3 ∷ 1 ∷ []) ∷ (9 ∷ 5 ∷ 1 ∷ []) ∷ (9 ∷ 5 ∷ 3 ∷ []) ∷ []
three_lines-ways = refl

three_lines-demerits : map (demerits rule four_words) (ways rule four_words 3) ≡ pos 200400300 ∷ pos 100200300 ∷ pos 100200300 ∷ []
three_lines-demerits = refl

three_lines-least : least_way rule four_words 3 ≡ Some (9 ∷ 5 ∷ 1 ∷ [])
three_lines-least = refl

two_lines-best : best_way rule four_words ≡ Some (9 ∷ 3 ∷ [])
two_lines-best = refl

-- between two lines, and between three, four and five
penalties-between : map (λ j. between j 2) (1 ∷ []) ≡ 300 ∷ []
penalties-between = refl

penalties-between-four : map (λ j. between j 4) (1 ∷ 2 ∷ 3 ∷ []) ≡ 150 ∷ 0 ∷ 150 ∷ []
penalties-between-four = refl

wide_box-breaks_not : broken rule ((BoxItem (points 30) (points 7) (points 2) [] ∷ []) ∷ []) ≡ Err (NoBreak 1)
wide_box-breaks_not = refl
