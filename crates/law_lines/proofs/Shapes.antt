-- The variants of a paragraph make a choice.
use Rattle.std.proofs.Common.{◌≡◌, refl, sym, ap, subst, ◌∙◌, ℕ, zero, suc, ◌+◌, ◌*◌, ◌^◌, ◌≤◌, inl, inr, List, [], ◌∷◌, ◌++◌, length, Bool, true, false, Option, Some, None, arith}
use Rattle.std.specs.Prelude.{◌-◌, ◌==◌, IsSomeAnd, IsTrue, not, slice_get, cond, if◌then◌else◌, take, drop, min, nat_abs, ℤ, pos, negsuc, ◌+ℤ◌, int_lt, Result, Ok}
use Rattle.std.specs.Int.{int_max}
use Rattle.std.specs.List.{AllByRecursion, flat_map}
use Rattle.std.proofs.lemmas.List.{length-append}
use Rattle.pg_lemmas.proofs.Lists.{all_append, all_drop, all_take}
use Rattle.pg_lemmas.proofs.Numbers.{few_if}
use Rattle.pg_list.specs.Ranges.{IsItemInRange}
use Rattle.pg_scaled.specs.Ranges.{IsScaled}
use Rattle.pg_list.specs.GalleyValue.{GalleyValue}
use Rattle.pg_list.specs.Shapes.{BeginsWithBox, EndsSolid, HasItemsInRange, HaveEqualInserts, HaveInserts, IsBlock, IsChoice, IsVariant, IsWithinLimits, inserts, is_box, is_discardable}
use Rattle.pg_list.specs.declared.item.Item.{Item}
use Rattle.pg_list.specs.declared.blocks.Block.{Block}
use Rattle.pg_list.specs.declared.blocks.Block.TheVariants.{Choice}
use Rattle.pg_list.specs.declared.variants.Variant.{Variant}
use Rattle.pg_hlist.specs.declared.item.HItem.{HItem}
use Rattle.pg_hlist.specs.declared.item.HItem.TheVariants.{BoxItem, Glue, Kern, Penalty}
use Rattle.pg_hlist.specs.Items.{IsInRange, IsPara, as_item}
use Rattle.law_lines.specs.declared.rule.LineRule.{LineRule}
use Rattle.law_lines.specs.declared.rule.LineFault.{LineFault}
use Rattle.law_lines.specs.Lines.{from_box, line_items}
use Rattle.law_lines.specs.Ways.{start_of, is_way, IsLeastOf}
use Rattle.law_lines.specs.Boxes.{depth_of, height_of, line_box}
use Rattle.law_lines.specs.Variants.{AreVariantsOf, between, between_item, found_at, lines_of_way, loosenesses, set_lines, variant_at, variant_of, variants_of}
use Rattle.law_lines.specs.Galleys.{Breaks, parskip, with_choice}

-- ---- lists

all_flat : {X Y : Type 0} (Q : X → Type 0) (P : Y → Type 0) (f : X → List Y) (xs : List X) → AllByRecursion Q xs →
    ((x : X) → Q x → AllByRecursion P (f x)) → AllByRecursion P (flat_map f xs)
all_flat Q P f [] h g = tt
all_flat Q P f (x ∷ xs) (q, h) g = all_append P (f x) (flat_map f xs) (g x q) (all_flat Q P f xs h g)

flat_short : {X Y : Type 0} (f : X → List Y) (xs : List X) → ((x : X) → length (f x) ≤ 1) →
    length (flat_map f xs) ≤ length xs
flat_short f [] h = omega arith
flat_short f (x ∷ xs) h =
    let a : length (f x) ≤ 1 = h x in
    let b : length (flat_map f xs) ≤ length xs = flat_short f xs h in
    let c : length (f x ++ flat_map f xs) ≡ length (f x) + length (flat_map f xs) =
    length-append (f x) (flat_map f xs) in
    omega arith

-- ---- a line

from_box_all : (items : List HItem) → AllByRecursion IsInRange items → AllByRecursion IsInRange (from_box items)
from_box_all [] h = tt
from_box_all (item ∷ items) (p, h) = by (is_box (as_item item)) (from_box_all items h)
  where
    by : (b : Bool) → AllByRecursion IsInRange (from_box items) →
        AllByRecursion IsInRange (if b then item ∷ items else from_box items)
    by true k = (p, h)
    by false k = k

line_all : (para : List HItem) (a k : ℕ) → AllByRecursion IsInRange para → AllByRecursion IsInRange (line_items para a k)
line_all para a k h = from_box_all (drop a (take k para)) (all_drop IsInRange a (take k para) (all_take IsInRange k para h))

max_scaled : (x y : ℤ) → IsScaled x → IsScaled y → IsScaled (int_max x y)
max_scaled x y h k = by (int_lt y x)
  where
    by : (b : Bool) → IsScaled (cond b x y)
    by true = h
    by false = k

pub height_scaled : (items : List HItem) → AllByRecursion IsInRange items → IsScaled (height_of items)
height_scaled [] h = omega arith
height_scaled (BoxItem width height depth body ∷ items) (p, h) =
    max_scaled height (height_of items) p.1 (height_scaled items h)
height_scaled (Glue width stretch order shrink body ∷ items) (p, h) = height_scaled items h
height_scaled (Kern width body ∷ items) (p, h) = height_scaled items h
height_scaled (Penalty value body ∷ items) (p, h) = height_scaled items h

pub depth_scaled : (items : List HItem) → AllByRecursion IsInRange items → IsScaled (depth_of items)
depth_scaled [] h = omega arith
depth_scaled (BoxItem width height depth body ∷ items) (p, h) =
    max_scaled depth (depth_of items) p.2 (depth_scaled items h)
depth_scaled (Glue width stretch order shrink body ∷ items) (p, h) = depth_scaled items h
depth_scaled (Kern width body ∷ items) (p, h) = depth_scaled items h
depth_scaled (Penalty value body ∷ items) (p, h) = depth_scaled items h

between_few : (j count : ℕ) → nat_abs (pos (between j count)) ≤ 2 ^ 31
between_few j count =
    let first = few_if (j == 1) 150 0 150 (omega arith) (omega arith) in
    let last = few_if (j + 1 == count) 150 0 150 (omega arith) (omega arith) in
    omega (arith, first, last)

module _ (rule : LineRule) where
  -- ---- set lines

  abbrev AreLines : List (List HItem) → Type 0
  AreLines lines = AllByRecursion (λ (line : List HItem). AllByRecursion IsInRange line) lines

  set_in : (count j : ℕ) (lines : List (List HItem)) → AreLines lines →
      AllByRecursion IsItemInRange (set_lines rule count j lines)
  set_in count j [] h = tt
  set_in count j (line ∷ []) (p, h) = ((height_scaled line p, depth_scaled line p), tt)
  set_in count j (line ∷ next ∷ lines) (p, h) =
      ((height_scaled line p, depth_scaled line p), (between_few j count, set_in count (j + 1) (next ∷ lines) h))

  set_begins : (count j : ℕ) (line : List HItem) (lines : List (List HItem)) →
      BeginsWithBox (set_lines rule count j (line ∷ lines))
  set_begins count j line [] = refl
  set_begins count j line (next ∷ lines) = refl

  set_ends : (count j : ℕ) (line : List HItem) (lines : List (List HItem)) →
      EndsSolid (set_lines rule count j (line ∷ lines))
  set_ends count j line [] = refl
  set_ends count j line (next ∷ lines) =
      two (line_box rule line) (between_item (between j count)) (set_lines rule count (j + 1) (next ∷ lines))
      (set_some count (j + 1) next lines) (set_ends count (j + 1) next lines)
    where
      two : (x y : Item) (items : List Item) → 1 ≤ length items → EndsSolid items → EndsSolid (x ∷ y ∷ items)
      two x y [] h k = absurd (omega arith)
      two x y (z ∷ items) h k =
          let a : length (z ∷ items) - 1 ≡ length items = omega arith in
          let b : length (x ∷ y ∷ z ∷ items) - 1 ≡ suc (suc (length items)) = omega arith in
          subst (λ (n : ℕ). IsSomeAnd (slice_get (x ∷ y ∷ z ∷ items) n) (λ item. IsTrue (not (is_discardable item)))) (sym b)
          (subst (λ (n : ℕ). IsSomeAnd (slice_get (z ∷ items) n) (λ item. IsTrue (not (is_discardable item)))) a k)

      set_some : (count j : ℕ) (line : List HItem) (lines : List (List HItem)) →
          1 ≤ length (set_lines rule count j (line ∷ lines))
      set_some count j line [] = omega arith
      set_some count j line (next ∷ lines) = omega arith

  set_inserts : (count j : ℕ) (lines : List (List HItem)) → inserts (set_lines rule count j lines) ≡ []
  set_inserts count j [] = refl
  set_inserts count j (line ∷ []) = refl
  set_inserts count j (line ∷ next ∷ lines) = set_inserts count (j + 1) (next ∷ lines)

  module _ (para : List HItem) (range : AllByRecursion IsInRange para) where
    lines_in : (way : List ℕ) → AreLines (lines_of_way para way)
    lines_in [] = tt
    lines_in (k ∷ way) = all_append _ (lines_of_way para way) (line_items para (start_of way) k ∷ [])
        (lines_in way) (line_all para (start_of way) k range, tt)

    -- ---- a variant

    record IsSet (v : Variant) : Type 0 where
      variant : IsVariant v
      none : inserts v.items ≡ []
      limits : IsWithinLimits v
      ranges : HasItemsInRange v

    way_shaped : (count : ℕ) (lines : List (List HItem)) → 1 ≤ length lines →
        BeginsWithBox (set_lines rule count 1 lines) × EndsSolid (set_lines rule count 1 lines)
    way_shaped count [] h = absurd (omega arith)
    way_shaped count (line ∷ lines) h = (set_begins count 1 line lines, set_ends count 1 line lines)

    some_lines : (way : List ℕ) → is_way rule para way ≡ true → 1 ≤ length (lines_of_way para way)
    some_lines [] h = absurd cc
    some_lines (k ∷ way) h =
        let a : length (lines_of_way para way ++ line_items para (start_of way) k ∷ [])
        ≡ length (lines_of_way para way) + 1 =
        length-append (lines_of_way para way) (line_items para (start_of way) k ∷ []) in omega arith

    min_few : (m n : ℕ) → min m n ≤ n
    min_few m n = omega arith

    variant_set : (best : List ℕ) (o : ℤ) (way : List ℕ) → nat_abs o ≤ 2 → is_way rule para way ≡ true →
        IsSet (variant_of rule para best o way)
    variant_set best o way few h =
        let s = way_shaped (length way) (lines_of_way para way) (some_lines way h) in
        record {
          variant = record { begins = s.0; ends = s.1 };
          none = set_inserts (length way) 1 (lines_of_way para way);
          limits = record { looseness = omega arith; demerits = min_few _ 100000000 };
          ranges = set_in (length way) 1 (lines_of_way para way) (lines_in way);
        }

    -- ---- the choice

    found_set : (best : List ℕ) (found : ℕ → Option (List ℕ)) → ((n : ℕ) → IsLeastOf rule para n (found n)) →
        (o : ℤ) (at : ℤ) → nat_abs o ≤ 2 → AllByRecursion IsSet (variant_at rule para best o (found_at found at))
    found_set best found least o (pos n) few = by (found n) (least n)
      where
        by : (p : Option (List ℕ)) → IsLeastOf rule para n p → AllByRecursion IsSet (variant_at rule para best o p)
        by None l = tt
        by (Some way) l = (variant_set best o way few l.legal, tt)
    found_set best found least o (negsuc n) few = tt

    one_each : (best : List ℕ) (o : ℤ) (p : Option (List ℕ)) → length (variant_at rule para best o p) ≤ 1
    one_each best o None = omega arith
    one_each best o (Some way) = omega arith

    few_loose : (a : ℕ) → AllByRecursion (λ (o : ℤ). nat_abs o ≤ 2) (loosenesses a)
    few_loose a = all_take (λ (o : ℤ). nat_abs o ≤ 2) (1 + 2 * a) (pos 0 ∷ negsuc 0 ∷ pos 1 ∷ negsuc 1 ∷ pos 2 ∷ [])
        (omega arith, (omega arith, (omega arith, (omega arith, (omega arith, tt)))))

    first_loose : (a : ℕ) → loosenesses a ≡ pos 0 ∷ take (2 * a) (negsuc 0 ∷ pos 1 ∷ negsuc 1 ∷ pos 2 ∷ [])
    first_loose a = ap (λ (n : ℕ). take n (pos 0 ∷ negsuc 0 ∷ pos 1 ∷ negsuc 1 ∷ pos 2 ∷ [])) (one (2 * a))
      where
        one : (n : ℕ) → 1 + n ≡ suc n
        one n = omega arith

    few_all : (a : ℕ) → length (loosenesses a) ≤ 5
    few_all a = short (1 + 2 * a) (pos 0 ∷ negsuc 0 ∷ pos 1 ∷ negsuc 1 ∷ pos 2 ∷ [])
      where
        short : (n : ℕ) (xs : List ℤ) → length (take n xs) ≤ length xs
        short zero xs = omega arith
        short (suc n) [] = omega arith
        short (suc n) (x ∷ xs) = let h : length (take n xs) ≤ length xs = short n xs in omega arith

    equal_inserts : (variants : List Variant) → AllByRecursion IsSet variants → HaveEqualInserts variants
    equal_inserts [] h = tt
    equal_inserts (v ∷ variants) (s, h) = more variants h
      where
        more : (rest : List Variant) → AllByRecursion IsSet rest → HaveInserts (inserts v.items) rest
        more [] k = tt
        more (w ∷ rest) (t, k) = (t.none ∙ sym s.none, more rest k)

    all_by : (P : Variant → Type 0) → ((v : Variant) → IsSet v → P v) → (variants : List Variant) →
        AllByRecursion IsSet variants → AllByRecursion P variants
    all_by P f [] h = tt
    all_by P f (v ∷ variants) (s, h) = (f v s, all_by P f variants h)

    choice_of : (variants : List Variant) → 1 ≤ length variants → length variants ≤ 5 → AllByRecursion IsSet variants →
        IsChoice variants
    choice_of variants some few h = record {
      shape = record { some = some; few = few; each = all_by IsVariant (λ v s. s.variant) variants h };
      equal_inserts = equal_inserts variants h;
      limits = all_by IsWithinLimits (λ v s. s.limits) variants h;
      ranges = all_by HasItemsInRange (λ v s. s.ranges) variants h;
    }

    abbrev choice_at : (ℕ → Option (List ℕ)) → List ℕ → ℤ → List Variant
    choice_at found best o = variant_at rule para best o (found_at found (pos (length best) +ℤ o))

    pub variants_choice : (variants : List Variant) → AreVariantsOf rule para variants → IsChoice variants
    variants_choice variants are = subst IsChoice (sym are.are) (choice_of (variants_of rule para are.found are.best)
        some few all)
      where
        all : AllByRecursion IsSet (variants_of rule para are.found are.best)
        all = all_flat (λ (o : ℤ). nat_abs o ≤ 2) IsSet (choice_at are.found are.best) (loosenesses rule.around) (few_loose rule.around)
            (λ o q. found_set are.best are.found are.least o (pos (length are.best) +ℤ o) q)

        few : length (variants_of rule para are.found are.best) ≤ 5
        few = let a : length (flat_map (choice_at are.found are.best) (loosenesses rule.around)) ≤ length (loosenesses rule.around) =
            flat_short (choice_at are.found are.best) (loosenesses rule.around)
            (λ o. one_each are.best o (found_at are.found (pos (length are.best) +ℤ o))) in
            let b : length (loosenesses rule.around) ≤ 5 = few_all rule.around in omega arith

        best_there : (n : ℕ) → n ≡ length are.best → (p : Option (List ℕ)) → IsLeastOf rule para n p →
            1 ≤ length (variant_at rule para are.best (pos 0) p)
        best_there n e None l = absurd (l are.best are.is_best.least.legal (sym e))
        best_there n e (Some way) l = omega arith

        there : 1 ≤ length ((choice_at are.found are.best) (pos 0))
        there = best_there (length are.best + 0) (omega arith) (are.found (length are.best + 0))
            (are.least (length are.best + 0))

        some : 1 ≤ length (variants_of rule para are.found are.best)
        some = subst (λ (os : List ℤ). 1 ≤ length (flat_map (choice_at are.found are.best) os)) (sym (first_loose rule.around))
            (longer ((choice_at are.found are.best) (pos 0)) (flat_map (choice_at are.found are.best) (take (2 * rule.around) (negsuc 0 ∷ pos 1 ∷ negsuc 1 ∷ pos 2 ∷ []))) there)
          where
            longer : (xs ys : List Variant) → 1 ≤ length xs → 1 ≤ length (xs ++ ys)
            longer xs ys h = let e : length (xs ++ ys) ≡ length xs + length ys = length-append xs ys in omega arith

  -- ---- the galley

  abbrev AreBlocks : List Block → Type 0
  AreBlocks blocks = AllByRecursion IsBlock blocks

  more_blocks : (blocks : List Block) (variants : List Variant) → AreBlocks blocks → IsChoice variants →
      AreBlocks (with_choice blocks variants)
  more_blocks [] variants h c = (c, tt)
  more_blocks (block ∷ blocks) variants (p, h) c =
      (p, all_append IsBlock blocks (parskip ∷ Choice variants ∷ []) h ((omega arith, omega arith, omega arith), (c, tt)))

  pub blocks_made : (number : ℕ) (blocks : List Block) (paras : List (List HItem)) (galley : GalleyValue) →
      AllByRecursion IsPara paras → AreBlocks blocks → Breaks rule number blocks paras (Ok galley) → AreBlocks galley.blocks
  blocks_made number blocks [] galley r h b = subst AreBlocks (sym (made b)) h
    where
      made : ◌≡◌ {A = Result GalleyValue LineFault} (Ok galley) (Ok (record { width = rule.width; blocks = blocks })) →
          galley.blocks ≡ blocks
      made e = let f : galley ≡ record { width = rule.width; blocks = blocks } = cc in ap (λ (g : GalleyValue). g.blocks) f
  blocks_made number blocks (para ∷ paras) galley (p, r) h (inl b) = absurd (let e = b.1 in cc)
  blocks_made number blocks (para ∷ paras) galley (p, r) h (inr (v, (a, inl b))) = absurd (let e = b.1 in cc)
  blocks_made number blocks (para ∷ paras) galley (p, r) h (inr (v, (a, inr b))) =
      blocks_made (number + 1) (with_choice blocks v) paras galley r
      (more_blocks blocks v h (variants_choice para p.ranges v a)) b.1
