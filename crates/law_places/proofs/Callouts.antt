-- Where columns end, and how many floats are called before a place.
use Rattle.std.proofs.Common.{◌≡◌, refl, sym, ap, subst, ◌∙◌, ℕ, zero, suc, ◌+◌, ◌≤◌, ◌<◌, ◌⊎◌, inl, inr, List, [], ◌∷◌, map, length, take, Bool, true, false, Option, Some, None, arith}
use Rattle.std.specs.Prelude.{◌&&◌, ◌==◌, if◌then◌else◌, slice_get}
use Rattle.std.specs.List.{sum_by, AllByRecursion}
use Rattle.pg_list.specs.declared.item.Item.{Item}
use Rattle.pg_list.specs.declared.blocks.Block.{Block}
use Rattle.pg_list.specs.declared.blocks.Block.TheVariants.{One, Choice}
use Rattle.pg_list.specs.declared.galley.Place.{Place}
use Rattle.pg_list.specs.Places.{place, items_around}
use Rattle.pg_list.specs.Shapes.{IsBlock}
use Rattle.pg_rules.specs.ColumnRules.{does_fit, column_variants}
use Rattle.pg_list.specs.Flat.{items_before, flat, fronts}
use Rattle.pg_rules.specs.Floats.{sizes_of, entry}
use Rattle.pg_rules.specs.Room.{Document, ColumnContext, flat_items_of, size_of}
use Rattle.std.specs.Option.{option_map_or}
use Rattle.pg_rules.specs.IsState.{IsPlace}
use Rattle.law_places.specs.Past.{IsPast}
use Rattle.law_places.proofs.Measures.{block_at, block_inserts, count_before, inserted, inserted_flat, part_few, sum_more}
use Rattle.law_places.proofs.Places.{begins, ends_at, none_around}
use Rattle.std.proofs.lemmas.List.Sums.{sum_by-cons}
use Rattle.std.proofs.lemmas.Option.{slice_get_within}
use Rattle.pg_lemmas.proofs.Bools.{both_of}
use Rattle.std.proofs.lemmas.Bool.{eqb-true}
use Rattle.std.proofs.Math.Seq.{take-length}

pub entry_zero : (xs : List ℕ) (slot : ℕ) → entry (map (λ (number : ℕ). 0) xs) slot ≡ 0
entry_zero [] slot = refl
entry_zero (x ∷ xs) zero = refl
entry_zero (x ∷ xs) (suc n) = entry_zero xs n

pub entry_less : (f g : ℕ → ℕ) (xs : List ℕ) (slot : ℕ) → ((number : ℕ) → f number ≤ g number) →
    entry (map f xs) slot ≤ entry (map g xs) slot
entry_less f g [] slot h = omega arith
entry_less f g (x ∷ xs) zero h = h x
entry_less f g (x ∷ xs) (suc n) h = entry_less f g xs n h

-- where a column that fits starts at a place of the galley, it ends at its start or at a place behind it
pub fit_ends : (doc : Document) (it : ColumnContext) → it.document ≡ doc → AllByRecursion IsBlock doc.blocks →
    IsPlace doc.blocks it.column.from → does_fit it ≡ true →
    (it.column.to ≡ it.column.from) ⊎ IsPast doc.blocks it.column.from it.column.to
fit_ends doc it e a p h = subst (λ (x : Document). (it.column.to ≡ it.column.from)
    ⊎ IsPast x.blocks it.column.from it.column.to) e (by (size_of it) refl h)
  where
    a' : AllByRecursion IsBlock it.document.blocks
    a' = subst (λ (x : Document). AllByRecursion IsBlock x.blocks) (sym e) a

    p' : IsPlace it.document.blocks it.column.from
    p' = subst (λ (x : Document). IsPlace x.blocks it.column.from) (sym e) p

    by : (o : Option ℕ) → o ≡ size_of it →
        option_map_or (λ (n : ℕ). (fronts (flat_items_of it) n == length it.column.picks)
        && (length (column_variants it) == length it.column.picks)) o false ≡ true →
        (it.column.to ≡ it.column.from) ⊎ IsPast it.document.blocks it.column.from it.column.to
    by None q t = absurd cc
    by (Some n) q t = ends_at it.document.blocks it.column.from it.column.to it.column.picks n a' p'
        (eqb-true _ _ (both_of (fronts (flat_items_of it) n == length it.column.picks) _ t).1) (sym q)

pub start_place : (blocks : List Block) → AllByRecursion IsBlock blocks → IsPlace blocks (place 0 0 0)
start_place [] a = record { within = inl refl; front = λ z. refl }
start_place (One item ∷ blocks) a = record { within = inr (omega arith); front = λ z. refl }
start_place (Choice variants ∷ blocks) a = record { within = inr (begins variants a.0); front = λ z. refl }

pub sum_take : (f : Block → ℕ) (n : ℕ) (xs : List Block) → sum_by f (take n xs) ≤ sum_by f xs
sum_take f zero xs = let z : sum_by f [] ≡ 0 = refl in omega arith
sum_take f (suc n) [] = omega arith
sum_take f (suc n) (x ∷ xs) =
    let s : sum_by f (x ∷ take n xs) ≡ f x + sum_by f (take n xs) = sum_by-cons f x (take n xs) in
    let t : sum_by f (x ∷ xs) ≡ f x + sum_by f xs = sum_by-cons f x xs in
    let r : sum_by f (take n xs) ≤ sum_by f xs = sum_take f n xs in
    omega arith

-- no place has more callouts before it than there are
pub few_in_all : (blocks : List Block) → AllByRecursion IsBlock blocks → (number : ℕ) (at : Place) →
    length (sizes_of number (items_before blocks at)) ≤ length (sizes_of number (flat blocks []))
few_in_all blocks a number at = by (slice_get blocks at.block) refl
  where
    flat_count : length (sizes_of number (flat blocks [])) ≡ sum_by (block_inserts number) blocks
    flat_count = inserted_flat number 0 blocks

    before : length (sizes_of number (items_before blocks at)) ≡ sum_by (block_inserts number)
        (take at.block blocks) + (if at.index == 0 then 0 else inserted number
        (take at.index (items_around blocks at)))
    before = count_before number blocks at

    none : (t : Bool) (items : List Item) → items ≡ [] →
        (if t then 0 else inserted number (take at.index items)) ≡ 0
    none true items e = refl
    none false items e = ap (λ (xs : List Item). inserted number (take at.index xs)) e ∙ empty at.index
      where
        empty : (n : ℕ) → inserted number (take n []) ≡ 0
        empty zero = refl
        empty (suc n) = refl

    by : (o : Option Block) → o ≡ slice_get blocks at.block →
        length (sizes_of number (items_before blocks at)) ≤ length (sizes_of number (flat blocks []))
    by None e =
        let z : (if at.index == 0 then 0 else inserted number (take at.index (items_around blocks at))) ≡ 0 =
        none (at.index == 0) (items_around blocks at)
        (none_around blocks at.block at.variant at.index (sym e)) in
        let s : sum_by (block_inserts number) (take at.block blocks) ≤ sum_by (block_inserts number) blocks =
        sum_take (block_inserts number) at.block blocks in
        omega (arith, before, flat_count)
    by (Some b) e =
        let l : at.block < length blocks = slice_get_within blocks at.block b (sym e) in
        let s : sum_by (block_inserts number) (take at.block blocks) + block_inserts number b
        ≤ sum_by (block_inserts number) (take (length blocks) blocks) =
        sum_more (block_inserts number) blocks at.block (length blocks) b l (sym e) in
        let t : sum_by (block_inserts number) (take (length blocks) blocks) ≡ sum_by (block_inserts number)
        blocks = ap (sum_by (block_inserts number)) (take-length blocks) in
        let k : (if at.index == 0 then 0 else inserted number (take at.index (items_around blocks at)))
        ≤ block_inserts number b = part_few number blocks at b
        (block_at number blocks at.block b a (sym e)) (sym e) in
        omega (arith, before, flat_count)

pub called_total : (doc : Document) → AllByRecursion IsBlock doc.blocks → (number : ℕ) (at : Place) →
    length (sizes_of number (items_before doc.blocks at)) ≤ length (sizes_of number (flat doc.blocks []))
called_total doc a number at = few_in_all doc.blocks a number at
