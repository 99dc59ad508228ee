-- The texts of columns cut the flat list, and each float is dealt out once.
use Rattle.std.proofs.Common.{◌≡◌, refl, sym, ap, subst, ◌∙◌, ℕ, zero, suc, ◌+◌, ◌<◌, inl, inr, List, [], ◌∷◌, ◌++◌, append_assoc, map, length, take, drop, Bool, true, false, Option, Some, None, arith}
use Rattle.std.specs.Prelude.{◌&&◌, ◌==◌, cond, not, slice_get, ℤ}
use Rattle.std.specs.List.{AllByRecursion, filter, list_all, enumerate_from}
use Rattle.std.specs.Option.{option_map_or}
use Rattle.std.proofs.lemmas.List.{map-append}
use Rattle.std.proofs.lemmas.List.Elements.{filter-append}
use Rattle.pg_list.specs.Shapes.{IsBlock, is_discardable}
use Rattle.std.proofs.lemmas.Option.{same_Some}
use Rattle.pg_list.specs.declared.blocks.Block.{Block}
use Rattle.pg_list.specs.declared.galley.Place.{Place}
use Rattle.pg_list.specs.declared.item.Item.{Item}
use Rattle.pg_list.specs.declared.item.Item.TheVariants.{BoxItem, Rule, Glue, Kern, Penalty, Insert, Carry}
use Rattle.pg_plan.specs.declared.pages.PageMove.{PageMove}
use Rattle.pg_style.specs.Values.{StyleValue}
use Rattle.pg_list.specs.Flat.{FlatItem, flat, flat_items, flat_items_at, fronts, is_same_place}
use Rattle.pg_list.specs.Totals.{trimmed}
use Rattle.pg_rules.specs.ColumnRules.{column_variants, does_fit}
use Rattle.pg_rules.specs.Floats.{entry, float_numbers, insert_size, plus_counts, sizes_of}
use Rattle.pg_rules.specs.History.{context, place_of, placed_of, with_wide}
use Rattle.pg_rules.specs.Legal.{is_chained}
use Rattle.pg_rules.specs.Room.{ColumnContext, Document, flat_items_of, items_of, size_of}
use Rattle.pg_rules.specs.IsState.{IsPlace}
use Rattle.law_places.proofs.Alike.{item_of}
use Rattle.law_places.proofs.Callouts.{fit_ends, start_place}
use Rattle.law_places.proofs.Splits.{splits}
use Rattle.law_columns.specs.Stands.{Stand}
use Rattle.law_columns.proofs.Waiting.{entry_plus, entry_slots}
use Rattle.law_texts.specs.Texts.{Chained, column_floats, dealt_floats, inserts_of, is_kept, picks_of, segment_of, segments, text_of, texts}
use Rattle.pg_lemmas.proofs.Bools.{both_of, both}
use Rattle.std.proofs.lemmas.Bool.{eqb-true}
use Rattle.pg_list.proofs.Places.{same_place}

-- ---- texts

-- what a column that fits says of its size
pub record Fits (it : ColumnContext) : Type 0 where
  pub size : ℕ
  pub is : size_of it ≡ Some size
  pub fronts_are : fronts (flat_items_of it) size ≡ length it.column.picks
  pub named : length (column_variants it) ≡ length it.column.picks

pub fits_of : (it : ColumnContext) → does_fit it ≡ true → Fits it
fits_of it h = by (size_of it) refl h
  where
    by : (o : Option ℕ) → o ≡ size_of it →
        option_map_or (λ n. (fronts (flat_items_of it) n == length it.column.picks)
        && (length (column_variants it) == length it.column.picks)) o false ≡ true → Fits it
    by None e t = absurd cc
    by (Some n) e t = let p = both_of (fronts (flat_items_of it) n == length it.column.picks) _ t in
        record { size = n; is = sym e; fronts_are = eqb-true _ _ p.0; named = eqb-true _ _ p.1 }

-- the flat items between a column's ends, and those of all columns
abbrev pub column_items : ColumnContext → List FlatItem
column_items it = option_map_or (λ (n : ℕ). take n (flat_items_of it)) (size_of it) []

abbrev pub passed : Document → List PageMove → List FlatItem
passed doc [] = []
passed doc (m ∷ ms) = passed doc ms ++ column_items (context doc m ms)

text_is : (it : ColumnContext) → map item_of (column_items it) ≡ text_of it
text_is it = by (size_of it)
  where
    by : (o : Option ℕ) → map item_of (option_map_or (λ (n : ℕ). take n (flat_items_of it)) o [])
        ≡ option_map_or (λ (n : ℕ). take n (items_of it)) o []
    by None = refl
    by (Some n) = map_take n (flat_items_of it)
      where
        map_take : (n : ℕ) (xs : List FlatItem) → map item_of (take n xs) ≡ take n (map item_of xs)
        map_take zero xs = refl
        map_take (suc n) [] = refl
        map_take (suc n) (x ∷ xs) = ap (λ (ys : List Item). x.item ∷ ys) (map_take n xs)

pub passed_texts : (doc : Document) (ms : List PageMove) → map item_of (passed doc ms) ≡ texts doc ms
passed_texts doc [] = refl
passed_texts doc (m ∷ ms) =
    map-append item_of (passed doc ms) (column_items (context doc m ms))
    ∙ (ap (λ (xs : List Item). xs ++ map item_of (column_items (context doc m ms))) (passed_texts doc ms)
    ∙ ap (λ (xs : List Item). texts doc ms ++ xs) (text_is (context doc m ms)))

module _ (doc : Document) (blocks : AllByRecursion IsBlock doc.blocks) where
  pub chain_from : (m : PageMove) (ms : List PageMove) → is_chained doc m ms ≡ true → m.column.from ≡ place_of ms
  chain_from m ms h = same_place m.column.from (place_of ms)
      (both_of (is_same_place m.column.from (place_of ms)) (does_fit (context doc m ms)) h).0

  pub chain_fits : (m : PageMove) (ms : List PageMove) → is_chained doc m ms ≡ true →
      does_fit (context doc m ms) ≡ true
  chain_fits m ms h = (both_of (is_same_place m.column.from (place_of ms)) (does_fit (context doc m ms)) h).1

  pub chain_place : (ms : List PageMove) → Chained doc ms → IsPlace doc.blocks (place_of ms)
  chain_place [] c = start_place doc.blocks blocks
  chain_place (m ∷ ms) c =
      let here : IsPlace doc.blocks m.column.from =
      subst (IsPlace doc.blocks) (sym (chain_from m ms c.0)) (chain_place ms c.1) in
      elim (fit_ends doc (context doc m ms) refl blocks here (chain_fits m ms c.0)) [
        | inl e ↦ subst (IsPlace doc.blocks) (sym e) here
        | inr q ↦ q.place
      ]

  -- a column cuts the items from its start on
  pub column_splits : (m : PageMove) (ms : List PageMove) (q : List ℕ) → Chained doc (m ∷ ms) →
      flat_items_at doc.blocks m.column.from (m.column.picks ++ q)
      ≡ column_items (context doc m ms) ++ flat_items_at doc.blocks m.column.to q
  column_splits m ms q c =
      let f : Fits (context doc m ms) = fits_of (context doc m ms) (chain_fits m ms c.0) in
      let here : IsPlace doc.blocks m.column.from =
      subst (IsPlace doc.blocks) (sym (chain_from m ms c.0)) (chain_place ms c.1) in
      let s : flat_items_at doc.blocks m.column.from (m.column.picks ++ q)
      ≡ take f.size (flat_items_of (context doc m ms)) ++ flat_items_at doc.blocks m.column.to q =
      splits doc.blocks m.column.from m.column.to m.column.picks q f.size blocks here f.named f.is
      f.fronts_are in
      s ∙ ap (λ (o : Option ℕ). option_map_or (λ (n : ℕ). take n (flat_items_of (context doc m ms))) o
      [] ++ flat_items_at doc.blocks m.column.to q) (sym f.is)

  -- the flat list is the items passed, and those from the last column's end on
  pub whole_splits : (ms : List PageMove) (q : List ℕ) → Chained doc ms →
      flat_items doc.blocks (picks_of ms ++ q) ≡ passed doc ms ++ flat_items_at doc.blocks (place_of ms) q
  whole_splits [] q c = refl
  whole_splits (m ∷ ms) q c =
      let a : flat_items doc.blocks ((picks_of ms ++ m.column.picks) ++ q) ≡ flat_items doc.blocks
      (picks_of ms ++ (m.column.picks ++ q)) =
      ap (flat_items doc.blocks) (append_assoc (picks_of ms) m.column.picks q) in
      let b : flat_items doc.blocks (picks_of ms ++ (m.column.picks ++ q)) ≡ passed doc ms ++ flat_items_at
      doc.blocks (place_of ms) (m.column.picks ++ q) = whole_splits ms (m.column.picks ++ q) c.1 in
      let d : flat_items_at doc.blocks (place_of ms) (m.column.picks ++ q) ≡ flat_items_at doc.blocks
      m.column.from (m.column.picks ++ q) =
      ap (λ (at : Place). flat_items_at doc.blocks at (m.column.picks ++ q))
      (sym (chain_from m ms c.0)) in
      a ∙ (b ∙ (ap (λ (xs : List FlatItem). passed doc ms ++ xs) (d ∙ column_splits m ms q c)
      ∙ sym (append_assoc (passed doc ms) (column_items (context doc m ms))
      (flat_items_at doc.blocks m.column.to q))))

-- ---- segments

kept_trimmed : (xs : List Item) → filter is_kept (trimmed xs) ≡ filter is_kept xs
kept_trimmed [] = refl
kept_trimmed (BoxItem h d body ∷ xs) = refl
kept_trimmed (Rule h d body ∷ xs) = refl
kept_trimmed (Glue w s o k body ∷ xs) = kept_trimmed xs
kept_trimmed (Kern w body ∷ xs) = kept_trimmed xs
kept_trimmed (Penalty v body ∷ xs) = kept_trimmed xs
kept_trimmed (Insert c z body ∷ xs) = ap (λ (ys : List Item). Insert c z body ∷ ys) (kept_trimmed xs)
kept_trimmed (Carry body ∷ xs) = ap (λ (ys : List Item). Carry body ∷ ys) (kept_trimmed xs)

kept_segment : (it : ColumnContext) → filter is_kept (segment_of it) ≡ filter is_kept (text_of it)
kept_segment it = by (size_of it)
  where
    by : (o : Option ℕ) → filter is_kept (option_map_or (λ (n : ℕ). trimmed (take n (items_of it))) o [])
        ≡ filter is_kept (option_map_or (λ (n : ℕ). take n (items_of it)) o [])
    by None = refl
    by (Some n) = kept_trimmed (take n (items_of it))

pub kept_segments : (doc : Document) (ms : List PageMove) →
    filter is_kept (segments doc ms) ≡ filter is_kept (texts doc ms)
kept_segments doc [] = refl
kept_segments doc (m ∷ ms) =
    filter-append is_kept (segments doc ms) (segment_of (context doc m ms))
    ∙ (ap (λ (xs : List Item). xs ++ filter is_kept (segment_of (context doc m ms))) (kept_segments doc ms)
    ∙ (ap (λ (xs : List Item). filter is_kept (texts doc ms) ++ xs) (kept_segment (context doc m ms))
    ∙ sym (filter-append is_kept (texts doc ms) (text_of (context doc m ms)))))

pub none_kept : (xs : List Item) → list_all is_discardable xs ≡ true → filter is_kept xs ≡ []
none_kept [] h = refl
none_kept (x ∷ xs) h = let t = both_of (is_discardable x) _ h in let k : is_kept x ≡ false = ap not t.0 in
    ap (λ (b : Bool). cond b (x ∷ filter is_kept xs) (filter is_kept xs)) k ∙ none_kept xs t.1

-- ---- floats

take_nil : {X : Type 0} (n : ℕ) → ◌≡◌ {A = List X} (take n []) []
take_nil zero = refl
take_nil (suc n) = refl

take_plus : {X : Type 0} (a b : ℕ) (xs : List X) → take (a + b) xs ≡ take a xs ++ take b (drop a xs)
take_plus zero b xs = let e : 0 + b ≡ b = omega arith in ap (λ (n : ℕ). take n xs) e
take_plus (suc a) b [] = take_nil (suc a + b) ∙ sym (take_nil b)
take_plus (suc a) b (x ∷ xs) = let e : suc a + b ≡ suc (a + b) = omega arith in
    ap (λ (n : ℕ). take n (x ∷ xs)) e ∙ ap (λ ys. x ∷ ys) (take_plus a b xs)

pub dealt_take : {X : Type 0} (style : StyleValue) (own : List X) (slot : ℕ) → slot < length (float_numbers style) →
    (ms : List PageMove) → dealt_floats style own slot ms ≡ take (entry (placed_of style ms) slot) own
dealt_take {X} style own slot h [] = ap (λ (n : ℕ). take n own) (sym (entry_slots style (λ (_ : ℕ). 0) slot h))
dealt_take {X} style own slot h (m ∷ ms) =
    let p : List ℕ = placed_of style ms in
    let a : entry (with_wide style (placed_of style ms) m) slot ≡ entry (placed_of style ms) slot
    + entry m.wide slot = entry_plus style (placed_of style ms) m.wide slot h in
    let b : entry (plus_counts style (with_wide style (placed_of style ms) m) m.column.top) slot
    ≡ entry (with_wide style (placed_of style ms) m) slot + entry m.column.top slot =
    entry_plus style (with_wide style (placed_of style ms) m) m.column.top slot h in
    let c : entry (placed_of style (m ∷ ms)) slot
    ≡ entry (plus_counts style (with_wide style (placed_of style ms) m) m.column.top) slot
    + entry m.column.bottom slot =
    entry_plus style (plus_counts style (with_wide style (placed_of style ms) m) m.column.top)
    m.column.bottom slot h in
    ap (λ (xs : List X). xs ++ column_floats style own slot (placed_of style ms) m)
    (dealt_take style own slot h ms)
    ∙ three (entry (placed_of style ms) slot) (entry m.wide slot) (entry m.column.top slot)
    (entry m.column.bottom slot) (entry (with_wide style (placed_of style ms) m) slot)
    (entry (plus_counts style (with_wide style (placed_of style ms) m) m.column.top) slot)
    (entry (placed_of style (m ∷ ms)) slot) a b c
  where
    three : (p w t b x y z : ℕ) → x ≡ p + w → y ≡ x + t → z ≡ y + b →
        take p own ++ (take w (drop p own) ++ (take t (drop x own) ++ take b (drop y own)))
        ≡ take z own
    three p w t b x y z e f g =
        sym (append_assoc (take p own) (take w (drop p own))
        (take t (drop x own) ++ take b (drop y own)))
        ∙ (ap (λ (xs : List X). xs ++ (take t (drop x own) ++ take b (drop y own)))
        (sym (take_plus p w own) ∙ ap (λ (n : ℕ). take n own) (sym e))
        ∙ (sym (append_assoc (take x own) (take t (drop x own)) (take b (drop y own)))
        ∙ (ap (λ (xs : List X). xs ++ take b (drop y own))
        (sym (take_plus x t own) ∙ ap (λ (n : ℕ). take n own) (sym f))
        ∙ (sym (take_plus y b own) ∙ ap (λ (n : ℕ). take n own) (sym g)))))

-- a class has as many inserts as sizes
pub as_many : (number : ℕ) (items : List Item) →
    length (inserts_of number items) ≡ length (sizes_of number items)
as_many number [] = refl
as_many number (item ∷ items) = by (insert_size number item) refl (as_many number items)
  where
    by : (o : Option ℤ) → insert_size number item ≡ o →
        length (inserts_of number items) ≡ length (sizes_of number items) →
        length (inserts_of number (item ∷ items)) ≡ length (sizes_of number (item ∷ items))
    by None e rest = rw e rest
    by (Some z) e rest = rw e (ap suc rest)

-- the sizes at the slot of a class
pub sizes_at : (blocks : List Block) (numbers : List ℕ) (slot number : ℕ) → slice_get numbers slot ≡ Some number →
    slice_get (map (λ (n : ℕ). sizes_of n (flat blocks [])) numbers) slot ≡ Some (sizes_of number (flat blocks []))
sizes_at blocks [] slot number e = absurd cc
sizes_at blocks (n ∷ numbers) zero number e =
    ap (λ (m : ℕ). Some (sizes_of m (flat blocks []))) (same_Some n number e)
sizes_at blocks (n ∷ numbers) (suc slot) number e = sizes_at blocks numbers slot number e

pub all_dealt : (placed : List ℕ) (k : ℕ) (lists : List (List ℤ)) (slot : ℕ) (sizes : List ℤ) →
    list_all (λ (it : ℕ × List ℤ). entry placed it.0 == length it.1) (enumerate_from k lists) ≡ true →
    slice_get lists slot ≡ Some sizes → entry placed (k + slot) ≡ length sizes
all_dealt placed k [] slot sizes h e = absurd cc
all_dealt placed k (x ∷ lists) zero sizes h e =
    let z : k + 0 ≡ k = omega arith in
    ap (entry placed) z ∙ (eqb-true _ _ (both_of (entry placed k == length x) _ h).0
    ∙ ap length (same_Some x sizes e))
all_dealt placed k (x ∷ lists) (suc slot) sizes h e = let z : k + suc slot ≡ k + 1 + slot = omega arith in
    ap (entry placed) z ∙ all_dealt placed (k + 1) lists slot sizes
    (both_of (entry placed k == length x) _ h).1 e

-- ---- each once

pub stand_chained : (doc : Document) (ms : List PageMove) → Stand doc ms → Chained doc ms
stand_chained doc [] s = tt
stand_chained doc (m ∷ ms) (s, rest) = (
  both (is_same_place m.column.from (place_of ms)) (does_fit (context doc m ms)) s.starts
      s.stands.rules.fits,
  stand_chained doc ms rest,
)
