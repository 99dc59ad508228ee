-- The items up to a place are those of as many steps.
use Rattle.std.proofs.Common.{◌≡◌, ◌∙◌, refl, sym, ap, arith, ℕ, suc, Bool, true, false, List, [], ◌∷◌, map, length, take, Option, Some, None}
use Rattle.std.specs.Prelude.{◌&&◌, ◌==◌, if◌then◌else◌, option_map}
use Rattle.std.specs.List.{position}
use Rattle.std.specs.Option.{option_map_or}
use Rattle.std.proofs.lemmas.List.{take_all}
use Rattle.pg_lemmas.proofs.Bools.{both_of, by_bool, if_false, if_true}
use Rattle.pg_list.specs.declared.blocks.Block.{Block}
use Rattle.pg_list.specs.declared.galley.Place.{Place}
use Rattle.pg_list.specs.declared.item.Item.{Item}
use Rattle.pg_list.specs.Flat.{FlatItem, end_of, flat_items_at, fronts, is_same_place, steps_to}
use Rattle.pg_plan.specs.declared.pages.Column.{Column}
use Rattle.pg_column.specs.Fits.{are_named, does_fit_from}
use Rattle.pg_column.proofs.Leads.{is_at, position_here, position_later}
use Rattle.pg_column.specs.Between.{column_text, items_to}

pub items_whole : (to : Place) (xs : List FlatItem) → items_to true to xs ≡ map (λ (x : FlatItem). x.item) xs
items_whole to [] = refl
items_whole to (x ∷ xs) = ap (λ (items : List Item). x.item ∷ items) (items_whole to xs)

pub map_length : (xs : List FlatItem) → length (map (λ (x : FlatItem). x.item) xs) ≡ length xs
map_length [] = refl
map_length (x ∷ xs) = ap suc (map_length xs)

pub items_part : (to : Place) (xs : List FlatItem) (n : ℕ) → position (is_at to) xs ≡ Some n →
    items_to false to xs ≡ take n (map (λ (x : FlatItem). x.item) xs)
items_part to [] n e = absurd cc
items_part to (x ∷ xs) n e = by_bool (is_at to x)
    (λ t. let z : 0 ≡ n = same 0 n (sym (position_here (is_at to) x xs t) ∙ e) in
    if_true (is_at to x) [] _ t ∙ ap (λ (k : ℕ). take k (map (λ (x : FlatItem). x.item) (x ∷ xs))) z)
    (λ f. if_false (is_at to x) [] _ f
    ∙ later (position (is_at to) xs) refl (sym (position_later (is_at to) x xs f) ∙ e) (items_part to xs))
  where
    same : (a b : ℕ) → Some a ≡ Some b → a ≡ b
    same a b e = cc

    later : (o : Option ℕ) → position (is_at to) xs ≡ o → option_map suc (position (is_at to) xs) ≡ Some n →
        ((m : ℕ) → position (is_at to) xs ≡ Some m →
        items_to false to xs ≡ take m (map (λ (x : FlatItem). x.item) xs)) →
        x.item ∷ items_to false to xs ≡ take n (map (λ (x : FlatItem). x.item) (x ∷ xs))
    later None p q more = absurd (let k : None ≡ Some n = sym (ap (option_map suc) p) ∙ q in cc)
    later (Some m) p q more = let s : suc m ≡ n = same (suc m) n (sym (ap (option_map suc) p) ∙ q) in
        ap (λ (items : List Item). x.item ∷ items) (more m p)
        ∙ ap (λ (k : ℕ). take k (map (λ (x : FlatItem). x.item) (x ∷ xs))) s

-- the items up to a place are as many as stand before it
pub items_are : (blocks : List Block) (to : Place) (xs : List FlatItem) (n : ℕ) → steps_to blocks xs to ≡ Some n →
    items_to (is_same_place to (end_of blocks)) to xs ≡ take n (map (λ (x : FlatItem). x.item) xs)
items_are blocks to xs n e = by (is_same_place to (end_of blocks)) e
  where
    same : (a b : ℕ) → Some a ≡ Some b → a ≡ b
    same a b e = cc

    by : (b : Bool) → (if b then Some (length xs) else position (is_at to) xs) ≡ Some n →
        items_to b to xs ≡ take n (map (λ (x : FlatItem). x.item) xs)
    by true e = items_whole to xs ∙ sym (take_all n (map (λ (x : FlatItem). x.item) xs)
        (let h = same (length xs) n e in let k = map_length xs in omega (arith, h, k)))
    by false e = items_part to xs n e

-- ---- a column that fits

-- a column that fits ends so many steps behind its start, and its picks name variants
record Fits (blocks : List Block) (from : Place) (picks : List ℕ) (to : Place) : Type 0 where
  pub n : ℕ
  pub steps : steps_to blocks (flat_items_at blocks from picks) to ≡ Some n
  pub named : are_named blocks from picks ≡ true

fits : (blocks : List Block) (from : Place) (picks : List ℕ) (to : Place) →
    does_fit_from blocks from picks to ≡ true → Fits blocks from picks to
fits blocks from picks to = by (steps_to blocks (flat_items_at blocks from picks) to) refl
  where
    by : (o : Option ℕ) → steps_to blocks (flat_items_at blocks from picks) to ≡ o →
        option_map_or (λ (n : ℕ). (fronts (flat_items_at blocks from picks) n == length picks)
        && are_named blocks from picks) o false ≡ true → Fits blocks from picks to
    by None e does = absurd cc
    by (Some n) e does = record {
      n = n;
      steps = e;
      named = (both_of (fronts (flat_items_at blocks from picks) n == length picks)
          (are_named blocks from picks) does).1;
    }

pub fit_named : (blocks : List Block) (from : Place) (picks : List ℕ) (to : Place) →
    does_fit_from blocks from picks to ≡ true → are_named blocks from picks ≡ true
fit_named blocks from picks to does = (fits blocks from picks to does).named

pub text_is : (blocks : List Block) (column : Column) →
    does_fit_from blocks column.from column.picks column.to ≡ true →
    items_to (is_same_place column.to (end_of blocks)) column.to (flat_items_at blocks column.from column.picks)
    ≡ column_text blocks column
text_is blocks column does =
    let f = fits blocks column.from column.picks column.to does in
    let items = map (λ (x : FlatItem). x.item) (flat_items_at blocks column.from column.picks) in
    items_are blocks column.to (flat_items_at blocks column.from column.picks) f.n f.steps
    ∙ sym (ap (λ (o : Option ℕ). option_map_or (λ (n : ℕ). take n items) o []) f.steps)
