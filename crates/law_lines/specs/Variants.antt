-- A paragraph in several numbers of lines.
use Rattle.std.specs.Prelude.{◌≡◌, ℕ, ◌+◌, ◌*◌, ◌==◌, if◌then◌else◌, List, [], ◌∷◌, ◌++◌, length, take, min, Option, Some, None, codes, decimal, ℤ, pos, negsuc, ◌+ℤ◌, ◌-ℤ◌, nat_abs}
use Rattle.std.specs.List.{flat_map}
use Rattle.pg_list.specs.declared.item.Item.{Item}
use Rattle.pg_list.specs.declared.item.Item.TheVariants.{Penalty}
use Rattle.pg_list.specs.declared.variants.Variant.{Variant}
use Rattle.pg_hlist.specs.declared.item.HItem.{HItem}
use Rattle.law_lines.specs.declared.rule.LineRule.{LineRule}
use Rattle.law_lines.specs.Lines.{line_items}
use Rattle.law_lines.specs.Ways.{start_of, demerits, IsLeastOf, IsBestWay}
use Rattle.law_lines.specs.Boxes.{line_box}

-- the lines of a way, from the first on
abbrev pub lines_of_way : List HItem → List ℕ → List (List HItem)
lines_of_way para [] = []
lines_of_way para (k ∷ way) = lines_of_way para way ++ line_items para (start_of way) k ∷ []

-- behind line j of so many: 150 for the first and for the last but one
abbrev pub between : ℕ → ℕ → ℕ
between j count = (if j == 1 then 150 else 0) + (if j + 1 == count then 150 else 0)

abbrev pub between_item : ℕ → Item
between_item penalty = Penalty (pos penalty) (codes "\\penalty " ++ decimal penalty)

-- the lines from line j on, with a penalty behind each but the last
abbrev pub set_lines : LineRule → ℕ → ℕ → List (List HItem) → List Item
set_lines rule count j [] = []
set_lines rule count j (line ∷ []) = line_box rule line ∷ []
set_lines rule count j (line ∷ next ∷ lines) =
    line_box rule line ∷ between_item (between j count) ∷ set_lines rule count (j + 1) (next ∷ lines)

abbrev pub way_items : LineRule → List HItem → List ℕ → List Item
way_items rule para way = set_lines rule (length way) 1 (lines_of_way para way)

abbrev pub most_demerits : ℕ
most_demerits = 100000000

-- the variant of a way, so many lines longer than the best one, and its demerits beyond that one's
abbrev pub variant_of : LineRule → List HItem → List ℕ → ℤ → List ℕ → Variant
variant_of rule para best looseness way = record {
  looseness = looseness;
  demerits = min (nat_abs (demerits rule para way -ℤ demerits rule para best)) most_demerits;
  items = way_items rule para way;
}

-- how many lines more the variants have, in their order
abbrev pub loosenesses : ℕ → List ℤ
loosenesses around = take (1 + 2 * around) (pos 0 ∷ negsuc 0 ∷ pos 1 ∷ negsuc 1 ∷ pos 2 ∷ [])

-- the least way of a number of lines, of which there is none below 1
abbrev pub found_at : (ℕ → Option (List ℕ)) → ℤ → Option (List ℕ)
found_at found (pos n) = found n
found_at found (negsuc n) = None

abbrev pub variant_at : LineRule → List HItem → List ℕ → ℤ → Option (List ℕ) → List Variant
variant_at rule para best looseness None = []
variant_at rule para best looseness (Some way) = variant_of rule para best looseness way ∷ []

-- a variant for each number of lines around the best that has a way
abbrev pub variants_of : LineRule → List HItem → (ℕ → Option (List ℕ)) → List ℕ → List Variant
variants_of rule para found best =
    flat_map (λ (o : ℤ). variant_at rule para best o (found_at found (pos (length best) +ℤ o))) (loosenesses rule.around)

-- these are the variants of the paragraph: each is the least way of its number of lines
pub record AreVariantsOf (rule : LineRule) (para : List HItem) (variants : List Variant) : Type 0 where
  pub found : ℕ → Option (List ℕ)
  pub best : List ℕ
  pub least : (n : ℕ) → IsLeastOf rule para n (found n)
  pub is_best : IsBestWay rule para best
  pub are : variants ≡ variants_of rule para found best
