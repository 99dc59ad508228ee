-- Barriers before a column that ends in the front.
use Rattle.std.proofs.Common.{◌≡◌, refl, sym, ap, ◌∙◌, ℕ, zero, suc, ◌+◌, ◌≤◌, ◌<◌, inl, inr, List, [], ◌∷◌, ◌++◌, length, map, take, drop, Bool, true, false, Option, Some, arith}
use Rattle.std.specs.Prelude.{◌==◌, ◌&&◌, ◌||◌, not, if◌then◌else◌, option_map, is_some, ℤ}
use Rattle.std.specs.List.{list_any, position}
use Rattle.std.specs.Option.{option_map_or}
use Rattle.std.proofs.lemmas.List.{drop-map, length-drop, length-map, map-append, take-append-le}
use Rattle.std.proofs.lemmas.List.Folds.{list_any-append}
use Rattle.pg_list.specs.Barrier.{has_box_left, next_block, text_block, up_to_barrier}
use Rattle.pg_list.specs.Break.{break_penalty}
use Rattle.pg_list.specs.Flat.{FlatItem, blocks_at, flat, flat_items_at, flat_items_from, variant_flat_items}
use Rattle.pg_list.specs.Places.{has_box, items_around, picked_items}
use Rattle.pg_list.specs.Shapes.{is_box}
use Rattle.pg_list.specs.declared.blocks.Block.{Block}
use Rattle.pg_list.specs.declared.blocks.Block.TheVariants.{Choice, One}
use Rattle.pg_list.specs.declared.galley.Place.{Place}
use Rattle.pg_list.specs.declared.item.Item.{Item}
use Rattle.pg_list.specs.declared.variants.Variant.{Variant}
use Rattle.pg_plan.specs.declared.pages.Column.{Column}
use Rattle.pg_style.specs.Values.{StyleValue}
use Rattle.pg_column.proofs.Leads.{position_here, position_later}
use Rattle.pg_lemmas.proofs.Bools.{both_of, by_bool, if_false, if_true, or_cases, or_left, or_right}
use Rattle.pg_lemmas.proofs.Lists.{any_taken}
use Rattle.pg_rules.specs.ColumnRules.{does_fit, is_well_formed}
use Rattle.pg_rules.specs.Floats.{called, float_numbers, flushed, sizes_of}
use Rattle.pg_rules.specs.Legal.{are_placed, are_ready}
use Rattle.pg_rules.specs.Room.{ColumnContext, is_text, items_of}
use Rattle.law_places.proofs.Alike.{item_of}
use Rattle.law_places.proofs.Measures.{variant_items}
use Rattle.law_texts.proofs.Once.{Fits, fits_of}
use Rattle.law_edits.proofs.Behind.{GoesOn, front_each}
use Rattle.law_edits.proofs.Callouts.{called_in}
use Rattle.law_edits.proofs.Fronts.{around_cut, at_is, begun, blocks_cut, cut_at, start}
use Rattle.law_edits.proofs.Steps.{LeadsIn, leads_in}
use Rattle.law_edits.proofs.Twins.{context_of}

-- ---- a test of the elements of a list

-- where one passes, the first that does, whatever is behind
record IsFound {X : Type 0} (p : X → Bool) (xs : List X) : Type 0 where
  at : ℕ
  within : at < length xs
  is : (ys : List X) → position p (xs ++ ys) ≡ Some at

found : {X : Type 0} (p : X → Bool) (xs : List X) → list_any p xs ≡ true → IsFound p xs
found p [] e = absurd cc
found {X} p (x ∷ xs) e = by_bool (p x)
    (λ t. record { at = 0; within = omega arith; is = λ ys. position_here p x (xs ++ ys) t })
    (λ f. (let later : IsFound p xs = found p xs (rest (p x) f e) in
    record {
      at = suc later.at;
      within = let l : later.at < length xs = later.within in omega (arith, l);
      is = λ ys. position_later p x (xs ++ ys) f ∙ ap (option_map suc) (later.is ys);
    }))
  where
    rest : (b : Bool) → b ≡ false → (b || list_any p xs) ≡ true → list_any p xs ≡ true
    rest true f e = absurd cc
    rest false f e = e

-- ---- a box ahead

box_in : (variants : List Variant) (pick : ℕ) → list_any is_box (picked_items (Choice variants) pick) ≡ true →
    has_box (Choice variants) ≡ true
box_in [] pick e = absurd cc
box_in (v ∷ variants) zero e = or_left (list_any is_box v.items) _ e
box_in (v ∷ variants) (suc pick) e = or_right (list_any is_box v.items) _ (box_in variants pick e)

-- the same where what is behind a choice is known
in_choice : (n : ℕ) (variants : List Variant) (blocks : List Block) (pick : ℕ) (picks : List ℕ) →
    (list_any is_box (map item_of (flat_items_from (n + 1) blocks picks)) ≡ true → list_any has_box blocks ≡ true) →
    list_any is_box (map item_of (variant_flat_items n pick (picked_items (Choice variants) pick)
    ++ flat_items_from (n + 1) blocks picks)) ≡ true → list_any has_box (Choice variants ∷ blocks) ≡ true
in_choice n variants blocks pick picks behind e =
    elim (or_cases (list_any is_box (map item_of (variant_flat_items n pick (picked_items (Choice variants) pick)))) _
    (sym (list_any-append is_box (map item_of (variant_flat_items n pick (picked_items (Choice variants) pick)))
    (map item_of (flat_items_from (n + 1) blocks picks)))
    ∙ (ap (λ (xs : List Item). list_any is_box xs) (sym (map-append item_of
    (variant_flat_items n pick (picked_items (Choice variants) pick)) (flat_items_from (n + 1) blocks picks))) ∙ e))) [
      | inl t ↦ or_left (has_box (Choice variants)) (list_any has_box blocks) (box_in variants pick
          (ap (λ (xs : List Item). list_any is_box xs)
          (sym (variant_items 0 n pick (picked_items (Choice variants) pick))) ∙ t))
      | inr t ↦ or_right (has_box (Choice variants)) (list_any has_box blocks) (behind t)
    ]

-- where an item of blocks is a box, a block has one
boxed_back : (n : ℕ) (blocks : List Block) (picks : List ℕ) →
    list_any is_box (map item_of (flat_items_from n blocks picks)) ≡ true → list_any has_box blocks ≡ true
boxed_back n [] picks e = absurd cc
boxed_back n (One item ∷ blocks) picks e = by (is_box item) e (boxed_back (n + 1) blocks picks)
  where
    by : (b : Bool) → (b || list_any is_box (map item_of (flat_items_from (n + 1) blocks picks))) ≡ true →
        (list_any is_box (map item_of (flat_items_from (n + 1) blocks picks)) ≡ true →
        list_any has_box blocks ≡ true) → (b || list_any has_box blocks) ≡ true
    by true e f = refl
    by false e f = f e
boxed_back n (Choice variants ∷ blocks) [] e = in_choice n variants blocks 0 [] (boxed_back (n + 1) blocks []) e
boxed_back n (Choice variants ∷ blocks) (pick ∷ picks) e =
    in_choice n variants blocks pick picks (boxed_back (n + 1) blocks picks) e

module _ (front : List Block) (from : Place) (inside : from.block < length front) where
  -- in the front a box stands, in what is left of a variant or in a block behind it
  abbrev pub IsBoxAhead : Type 0
  IsBoxAhead = (has_box_left front from || list_any has_box (blocks_at front from)) ≡ true

  pub box_ahead : (picks : List ℕ) → list_any is_box (map item_of (flat_items_at front from picks)) ≡ true → IsBoxAhead
  box_ahead picks e = elim (or_cases (list_any is_box (map item_of (begun from front))) _
      (sym (list_any-append is_box (map item_of (begun from front))
      (map item_of (flat_items_from (start from) (blocks_at front from) picks)))
      ∙ (ap (λ (xs : List Item). list_any is_box xs) (sym (map-append item_of (begun from front)
      (flat_items_from (start from) (blocks_at front from) picks)))
      ∙ (ap (λ (xs : List FlatItem). list_any is_box (map item_of xs)) (sym (at_is from front picks)) ∙ e)))) [
        | inl t ↦ or_left (has_box_left front from) _ (left t)
        | inr t ↦ or_right (has_box_left front from) _ (boxed_back (start from) (blocks_at front from) picks t)
      ]
    where
      left : list_any is_box (map item_of (begun from front)) ≡ true → has_box_left front from ≡ true
      left t = by (from.index == 0) t
        where
          by : (b : Bool) → list_any is_box (map item_of (if b then [] else drop from.index
              (variant_flat_items from.block from.variant (items_around front from)))) ≡ true →
              (not b && list_any is_box (drop from.index (items_around front from))) ≡ true
          by true t = absurd cc
          by false t = ap (λ (xs : List Item). list_any is_box xs)
              (ap (drop from.index) (sym (variant_items 0 from.block from.variant (items_around front from)))
              ∙ drop-map item_of from.index (variant_flat_items from.block from.variant (items_around front from))) ∙ t

  left_cut : (blocks : List Block) → has_box_left (front ++ blocks) from ≡ has_box_left front from
  left_cut blocks = ap (λ (items : List Item). not (from.index == 0) && list_any is_box (drop from.index items))
      (around_cut from front inside blocks)

  pub record IsTextIn : Type 0 where
    pub block : ℕ
    pub low : block ≤ length front
    pub is : (blocks : List Block) → text_block (front ++ blocks) from ≡ block

  -- a text that begins in the front begins there whatever stands behind
  pub text_in : IsBoxAhead → IsTextIn
  text_in ahead = by_bool (has_box_left front from) here
      (λ f. later f (elim (or_cases (has_box_left front from) _ ahead) [
        | inl t ↦ absurd (let b : true ≡ false = sym t ∙ f in cc)
        | inr t ↦ t
      ]))
    where
      here : has_box_left front from ≡ true → IsTextIn
      here t = record {
        block = from.block;
        low = omega (arith, inside);
        is = λ blocks. if_true (has_box_left (front ++ blocks) from) from.block _ (left_cut blocks ∙ t);
      }

      later : has_box_left front from ≡ false → list_any has_box (blocks_at front from) ≡ true → IsTextIn
      later f t =
          let first : IsFound has_box (blocks_at front from) = found has_box (blocks_at front from) t in
          record {
            block = next_block from + first.at;
            low = let l : first.at < length (blocks_at front from) = first.within in
                let d = length-drop (start from) front in omega (arith, l, d);
            is = λ blocks. if_false (has_box_left (front ++ blocks) from) from.block _ (left_cut blocks ∙ f)
                ∙ ap (λ (o : Option ℕ). option_map_or (λ (n : ℕ). next_block from + n) o (length (front ++ blocks)))
                (ap (position has_box) (blocks_cut from front inside blocks) ∙ first.is blocks);
          }

-- as many floats are called before a barrier in the front
flushed_in : (front blocks : List Block) (style : StyleValue) (b : ℕ) → b ≤ length front →
    flushed (front ++ blocks) style b ≡ flushed front style b
flushed_in front blocks style b h =
    ap (λ (bs : List Block). map (λ number. length (sizes_of number (flat (up_to_barrier bs) []))) (float_numbers style))
    (take-append-le b front blocks h)

-- ---- a column that ends in the front

module _ (style : StyleValue) {front : List Block} {next : Block} {ra : List Block} (a : GoesOn front next ra)
    (column : Column) (run : ℕ) (wide : Option ℤ) (before : List ℕ)
    (from_in : column.from.block < length front) (to_in : column.to.block < length front)
    (fits : does_fit (context_of style (front ++ next ∷ ra) column run wide before) ≡ true)
    (formed : is_well_formed (context_of style (front ++ next ∷ ra) column run wide before) ≡ true)
    (text : is_text (context_of style (front ++ next ∷ ra) column run wide before) ≡ true) where
  abbrev it : ColumnContext
  it = context_of style (front ++ next ∷ ra) column run wide before

  -- its box stands in the front
  ahead : IsBoxAhead front column.from from_in
  ahead =
      let f : Fits it = fits_of it fits in
      let l : LeadsIn front column.from column.to column.picks f.size =
      leads_in front column.from from_in (front_each a) (next ∷ ra) column.to column.picks f.size to_in f.is
      f.fronts_are f.named in
      let own : List Item = map item_of (flat_items_at front column.from column.picks) in
      let few : f.size ≤ length own = let k = length-map (flat_items_at front column.from column.picks) item_of in
      let w : f.size < length (flat_items_at front column.from column.picks) = l.within in omega (arith, k, w) in
      let boxed : list_any is_box (take f.size (items_of it)) ≡ true = (both_of _ _
      (sym (ap (λ (o : Option ℕ). option_map_or (λ n. list_any is_box (take n (items_of it))
      && is_some (break_penalty (items_of it) n)) o false) f.is)
      ∙ (sym (if_true (is_text it) _ _ text) ∙ formed))).0 in
      box_ahead front column.from from_in column.picks (any_taken is_box f.size own
      (sym (ap (λ (xs : List Item). list_any is_box xs)
      (ap (take f.size) (ap (map item_of) (cut_at column.from front from_in (next ∷ ra) column.picks)
      ∙ map-append item_of (flat_items_at front column.from column.picks) _)
      ∙ take-append-le f.size own _ few)) ∙ boxed))

  -- where it keeps barriers, it does so whatever stands behind the front
  pub text_keeps : (rb : List Block) (placed after : List ℕ) →
      (are_ready style (called (front ++ next ∷ ra) style column.from)
      (flushed (front ++ next ∷ ra) style (text_block (front ++ next ∷ ra) column.from)) placed
      && are_placed style (flushed (front ++ next ∷ ra) style column.to.block) after)
      ≡ (are_ready style (called (front ++ next ∷ rb) style column.from)
      (flushed (front ++ next ∷ rb) style (text_block (front ++ next ∷ rb) column.from)) placed
      && are_placed style (flushed (front ++ next ∷ rb) style column.to.block) after)
  text_keeps rb placed after =
      let t : IsTextIn front column.from from_in = text_in front column.from from_in ahead in
      let low : t.block ≤ length front = t.low in
      let to_low : column.to.block ≤ length front = omega (arith, to_in) in
      same _ _ _ _ _ _
      (called_in front (next ∷ ra) style column.from from_in ∙ sym (called_in front (next ∷ rb) style column.from from_in))
      (ap (flushed (front ++ next ∷ ra) style) (t.is (next ∷ ra))
      ∙ (flushed_in front (next ∷ ra) style t.block low ∙ (sym (flushed_in front (next ∷ rb) style t.block low)
      ∙ ap (flushed (front ++ next ∷ rb) style) (sym (t.is (next ∷ rb))))))
      (flushed_in front (next ∷ ra) style column.to.block to_low
      ∙ sym (flushed_in front (next ∷ rb) style column.to.block to_low))
    where
      same : (x y a b c d : List ℕ) → x ≡ y → a ≡ b → c ≡ d → (are_ready style x a placed && are_placed style c after)
          ≡ (are_ready style y b placed && are_placed style d after)
      same x y a b c d o p q = cc
