-- How many items variants have, and how great demerits are.
use Rattle.std.proofs.Common.{◌≡◌, refl, ap, ℕ, zero, suc, ◌+◌, ◌*◌, ◌^◌, ◌<◌, ◌≤◌, List, [], ◌∷◌, length, true, Option, Some, None, arith}
use Rattle.std.specs.Prelude.{take, nat_abs, ℤ, pos, negsuc, ◌+ℤ◌}
use Rattle.std.specs.List.{flat_map}
use Rattle.std.proofs.lemmas.Int.{ints}
use Rattle.std.proofs.lemmas.List.{length-append}
use Rattle.std.proofs.lemmas.List.Sums.{sum_by-append, sum_by-cons}
use Rattle.pg_list.specs.Counts.{block_size, item_count, item_limit}
use Rattle.pg_list.specs.Shapes.{BeginsWithBox, IsChoice, IsVariant}
use Rattle.pg_list.specs.declared.blocks.Block.{Block}
use Rattle.pg_list.specs.declared.blocks.Block.TheVariants.{Choice}
use Rattle.pg_list.specs.declared.item.Item.{Item}
use Rattle.pg_list.specs.declared.variants.Variant.{Variant}
use Rattle.pg_hlist.specs.declared.item.HItem.{HItem}
use Rattle.pg_hlist.specs.Items.{IsPara}
use Rattle.law_lines.specs.declared.rule.LineRule.{LineRule}
use Rattle.law_lines.specs.Galleys.{parskip, with_choice}
use Rattle.law_lines.specs.Lines.{line_demerits, line_items}
use Rattle.law_lines.specs.Variants.{AreVariantsOf, found_at, lines_of_way, loosenesses, set_lines, variant_at, variants_of, way_items}
use Rattle.law_lines.specs.Ways.{IsLeastOf, demerits, is_way, start_of}
use Rattle.law_lines.proofs.Costs.{line_few}
use Rattle.pg_lines.proofs.Counted.{way_short}

abbrev size : Variant → ℕ
size variant = length variant.items

abbrev sizes : List Variant → ℕ
sizes variants = block_size (Choice variants)

pub choice_some : (variants : List Variant) → IsChoice variants → 1 ≤ sizes variants
choice_some [] c = absurd (let s = c.shape.some in omega (arith, s))
choice_some (v ∷ variants) c =
    let f = first v c.shape.each.0 in
    let e = sum_by-cons size v variants in
    omega (arith, f, e)
  where
    first : (w : Variant) → IsVariant w → 1 ≤ length w.items
    first w k = items w.items k.begins
      where
        items : (xs : List Item) → BeginsWithBox xs → 1 ≤ length xs
        items [] b = absurd b
        items (x ∷ xs) b = omega arith

-- the glue apart
pub count_grows : (blocks : List Block) (variants : List Variant) →
    item_count blocks + sizes variants ≤ item_count (with_choice blocks variants)
count_grows [] variants =
    let e : item_count (with_choice [] variants) ≡ 0 + sizes variants = refl in
    let f : item_count [] ≡ 0 = refl in
    omega (arith, e, f)
count_grows (b ∷ blocks) variants =
    let e : item_count (with_choice (b ∷ blocks) variants)
    ≡ item_count (b ∷ blocks) + item_count (parskip ∷ Choice variants ∷ []) =
    sum_by-append block_size (b ∷ blocks) (parskip ∷ Choice variants ∷ []) in
    let f : item_count (parskip ∷ Choice variants ∷ []) ≡ 1 + sizes variants = refl in
    omega (arith, e, f)

-- ---- demerits

module _ (rule : LineRule) (para : List HItem) where
  demerits_by : (way : List ℕ) → nat_abs (demerits rule para way) ≤ 300000000 * length way
  demerits_by [] = omega arith
  demerits_by (k ∷ way) =
      let h = demerits_by way in
      let l = line_few rule para (start_of way) k in
      sum (demerits rule para way) (line_demerits rule para (start_of way) k) (length way) h l
    where
      sum : (a b : ℤ) (n : ℕ) → nat_abs a ≤ 300000000 * n → nat_abs b ≤ 300000000 →
          nat_abs (a +ℤ b) ≤ 300000000 * suc n
      sum a b n h l = omega (arith, ints, h, l)

  pub demerits_small : (way : List ℕ) → IsPara para → is_way rule para way ≡ true →
      nat_abs (demerits rule para way) < 2 ^ 100
  demerits_small way p legal =
      let h = demerits_by way in
      let s = way_short rule para way legal in
      let f = p.few in
      omega (arith, h, s, f)

  -- ---- items

  set_short : (count j : ℕ) (lines : List (List HItem)) → length (set_lines rule count j lines) ≤ 2 * length lines
  set_short count j [] = omega arith
  set_short count j (line ∷ []) = omega arith
  set_short count j (line ∷ next ∷ lines) = let h = set_short count (j + 1) (next ∷ lines) in omega (arith, h)

  lines_long : (way : List ℕ) → length (lines_of_way para way) ≡ length way
  lines_long [] = refl
  lines_long (k ∷ way) =
      let h = lines_long way in
      let e = length-append (lines_of_way para way) (line_items para (start_of way) k ∷ []) in
      omega (arith, h, e)

  module _ (p : IsPara para) where
    way_few : (way : List ℕ) → is_way rule para way ≡ true → length (way_items rule para way) ≤ 4096
    way_few way legal =
        let s = set_short (length way) 1 (lines_of_way para way) in
        let l = lines_long way in
        let w = way_short rule para way legal in
        let f = p.few in
        omega (arith, s, l, w, f)

    one_few : (best : List ℕ) (o : ℤ) (n : ℕ) (found : Option (List ℕ)) → IsLeastOf rule para n found →
        sizes (variant_at rule para best o found) ≤ 4096
    one_few best o n None l = omega arith
    one_few best o n (Some way) l =
        let e : sizes (variant_at rule para best o (Some way)) ≡ 0 + length (way_items rule para way) = refl in
        let h = way_few way l.legal in
        omega (arith, e, h)

    at_few : (best : List ℕ) (o : ℤ) (found : ℕ → Option (List ℕ)) → ((n : ℕ) → IsLeastOf rule para n (found n)) →
        (z : ℤ) → sizes (variant_at rule para best o (found_at found z)) ≤ 4096
    at_few best o found least (pos n) = one_few best o n (found n) (least n)
    at_few best o found least (negsuc n) = omega arith

    all_few : (f : ℤ → List Variant) → ((o : ℤ) → sizes (f o) ≤ 4096) → (os : List ℤ) →
        sizes (flat_map f os) ≤ 4096 * length os
    all_few f h [] = omega arith
    all_few f h (o ∷ os) =
        let a = h o in
        let b = all_few f h os in
        let e = sum_by-append size (f o) (flat_map f os) in
        omega (arith, a, b, e)

    short : (n : ℕ) (xs : List ℤ) → length (take n xs) ≤ length xs
    short zero xs = omega arith
    short (suc n) [] = omega arith
    short (suc n) (x ∷ xs) = let h = short n xs in omega (arith, h)

    pub variants_few : (variants : List Variant) → AreVariantsOf rule para variants → sizes variants ≤ item_limit
    variants_few variants are =
        let e : sizes variants ≡ sizes (variants_of rule para are.found are.best) = ap sizes are.are in
        let h = all_few (λ (o : ℤ). variant_at rule para are.best o (found_at are.found (pos (length are.best) +ℤ o)))
        (λ o. at_few are.best o are.found are.least (pos (length are.best) +ℤ o)) (loosenesses rule.around) in
        let s = short (1 + 2 * rule.around) (pos 0 ∷ negsuc 0 ∷ pos 1 ∷ negsuc 1 ∷ pos 2 ∷ []) in
        omega (arith, e, h, s)
