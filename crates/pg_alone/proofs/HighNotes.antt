-- A note above the limit of its class forbids every pagination.
use Rattle.std.proofs.Common.{◌≡◌, refl, sym, ap, subst, ◌∙◌, ◌⊎◌, inl, inr, ℕ, List, [], ◌∷◌, ◌++◌, length, take, true, false, Bool, Option, Some, None, arith}
use Rattle.std.specs.Prelude.{◌==◌, ◌&&◌, ◌||◌, not, if◌then◌else◌, ℤ, pos, ◌+ℤ◌, ◌≤ℤ◌, ◌<ℤ◌, int_lt}
use Rattle.std.specs.List.{AllByRecursion, cons_option, find}
use Rattle.std.specs.Option.{option_map_or, option_or}
use Rattle.std.proofs.lemmas.Bool.{eqb-true}
use Rattle.std.proofs.lemmas.Int.{ints}
use Rattle.std.proofs.lemmas.List.Elements.{filter_map-append}
use Rattle.std.proofs.lemmas.Option.{same_Some}
use Rattle.pg_lemmas.proofs.Bools.{both_of, by_bool, if_false, not_both, where_true}
use Rattle.pg_lemmas.proofs.Lists.{no_items as none_long}
use Rattle.pg_lemmas.proofs.Numbers.{eq_yes}
use Rattle.pg_list.proofs.Places.{same_place}
use Rattle.pg_list.specs.Flat.{flat, flat_items_at, is_same_place, steps_to}
use Rattle.pg_list.specs.GalleyValue.{GalleyValue}
use Rattle.pg_list.specs.Places.{picked_items}
use Rattle.pg_list.specs.Whole.{whole_sum, whole_sum_by}
use Rattle.pg_list.specs.declared.blocks.Block.{Block}
use Rattle.pg_list.specs.declared.galley.Place.{Place}
use Rattle.pg_list.specs.declared.item.Item.{Item}
use Rattle.pg_list.specs.declared.item.Item.TheVariants.{BoxItem, Rule, Glue, Kern, Penalty, Insert, Carry}
use Rattle.pg_plan.specs.Order.{columns}
use Rattle.pg_plan.specs.declared.pages.PageMove.{PageMove}
use Rattle.pg_plan.specs.declared.pages.Pagination.{Pagination}
use Rattle.pg_style.specs.Values.{StyleValue}
use Rattle.pg_style.specs.declared.style.Class.{Class}
use Rattle.pg_style.specs.declared.style.Kind.{Kind}
use Rattle.pg_style.specs.declared.style.Kind.TheVariants.{Note, Float}
use Rattle.pg_rules.specs.ColumnRules.{segment}
use Rattle.pg_rules.specs.Floats.{class_of, insert_size, sizes_of}
use Rattle.pg_rules.specs.History.{context, place_of}
use Rattle.pg_rules.specs.IsState.{IsPlace}
use Rattle.pg_rules.specs.Legal.{Legal, document}
use Rattle.pg_rules.specs.Ranges.{AreInRange}
use Rattle.pg_rules.specs.Room.{ColumnContext, Document, are_notes_within_limits, is_text, is_within_limit, size_of}
use Rattle.pg_floats.proofs.Lists.{flat_first}
use Rattle.pg_floats.specs.Callouts.{first_items}
use Rattle.law_places.proofs.Among.{Among, all_at, among_cases, among_left, among_right}
use Rattle.law_places.proofs.Members.{among_contains, contains_among}
use Rattle.law_places.proofs.Tests.{le_int, less_int}
use Rattle.law_columns.proofs.Areas.{IsSize, floats_range}
use Rattle.law_columns.proofs.BeginningContracts.{unbroken_keep_rules}
use Rattle.law_columns.specs.BeginningLaws.{KeepsRules}
use Rattle.law_columns.specs.Stands.{Stand}
use Rattle.law_space.proofs.ReachAt.{own_steps}
use Rattle.law_texts.proofs.EachOnce.{each_once}
use Rattle.law_texts.proofs.Once.{chain_from, chain_place, stand_chained}
use Rattle.law_texts.specs.Texts.{Chained, EachOnce, picks_of, segment_of, segments}
use Rattle.pg_alone.proofs.Heights.{sum_above}
use Rattle.pg_alone.proofs.Picked.{kept_sizes, picked_sizes}
use Rattle.pg_alone.specs.Notes.{HighNoteForbids, HighNotesForbid, IsHighNote, first_high, high_blocks, high_in, high_of, limit_of}
use Rattle.pg_alone.specs.declared.notes.HighNote.{HighNote}

-- ---- sums

whole_is : (xs : List ℤ) → whole_sum xs ≡ whole_sum_by (λ (z : ℤ). z) xs
whole_is [] = refl
whole_is (x ∷ xs) = ap (λ (z : ℤ). x +ℤ z) (whole_is xs)

no_less : (size limit sum : ℤ) → limit <ℤ size → size ≤ℤ sum → sum ≤ℤ limit → ⊥
no_less size limit sum above most within = omega (arith, ints)

all_parts : (xs ys : List ℤ) → AllByRecursion IsSize (xs ++ ys) → AllByRecursion IsSize xs × AllByRecursion IsSize ys
all_parts [] ys all = (tt, all)
all_parts (x ∷ xs) ys all = let rest = all_parts xs ys all.1 in ((all.0, rest.0), rest.1)

-- ---- the class of a number

found_class : (number : ℕ) (classes : List Class) (class : Class) →
    find (λ (other : Class). other.number == number) classes ≡ Some class → Among class classes × (class.number ≡ number)
found_class number [] class e = absurd cc
found_class number (first ∷ classes) class e = by (first.number == number) refl e (found_class number classes class)
  where
    by : (b : Bool) → (first.number == number) ≡ b →
        (if b then Some first else find (λ (other : Class). other.number == number) classes) ≡ Some class →
        (find (λ (other : Class). other.number == number) classes ≡ Some class →
        Among class classes × (class.number ≡ number)) → Among class (first ∷ classes) × (class.number ≡ number)
    by true is found later = let same = same_Some first class found in
        (inl same, ap (λ (x : Class). x.number) (sym same) ∙ eqb-true first.number number is)
    by false is found later = let rest = later found in (inr rest.0, rest.1)

within_limit : (kind : Kind) (items : List Item) (number : ℕ) (limit : ℤ) → limit_of kind ≡ Some limit →
    is_within_limit items number kind ≡ true → whole_sum (sizes_of number items) ≤ℤ limit
within_limit (Note skip own) items number limit e h =
    subst (λ (z : ℤ). whole_sum (sizes_of number items) ≤ℤ z) (same_Some own limit e)
    (le_int (whole_sum (sizes_of number items)) own h)
within_limit (Float area distance) items number limit e h = absurd cc

-- ---- columns

in_size : (it : ColumnContext) (o : Option ℕ) →
    option_map_or (λ (n : ℕ). are_notes_within_limits it.document.style (segment it n)) o false ≡ true →
    are_notes_within_limits it.document.style (option_map_or (segment it) o []) ≡ true
in_size it None h = absurd cc
in_size it (Some n) h = h

module _ (g : GalleyValue) (s : StyleValue) (range : AreInRange g s) where
  abbrev doc : Document
  doc = document g s

  -- a column without text has no items
  no_items : (m : PageMove) (ms : List PageMove) → Stand doc (m ∷ ms) → is_text (context doc m ms) ≡ false →
      segment_of (context doc m ms) ≡ []
  no_items m ms stand bare =
      let chain : Chained doc (m ∷ ms) = stand_chained doc (m ∷ ms) stand in
      let from : m.column.from ≡ place_of ms = chain_from doc range.blocks m ms chain.0 in
      let here : IsPlace g.blocks m.column.from =
      subst (IsPlace g.blocks) (sym from) (chain_place doc range.blocks ms chain.1) in
      let same : m.column.from ≡ m.column.to =
      same_place m.column.from m.column.to (by_bool (is_same_place m.column.from m.column.to) (λ t. t)
      (λ f. absurd (not_both (not (is_same_place m.column.from m.column.to)) (ap not f) bare))) in
      let shape = both_of (length m.column.picks == 0) _
      (sym (if_false (is_text (context doc m ms)) _ _ bare) ∙ stand.0.stands.rules.well_formed) in
      let none : m.column.picks ≡ [] = none_long m.column.picks (eqb-true (length m.column.picks) 0 shape.0) in
      let size : size_of (context doc m ms) ≡ Some 0 =
      ap (λ (picks : List ℕ). steps_to g.blocks (flat_items_at g.blocks m.column.from picks) m.column.to) none
      ∙ (ap (λ (at : Place). steps_to g.blocks (flat_items_at g.blocks m.column.from []) at) (sym same)
      ∙ own_steps doc range.blocks m.column.from here) in
      ap (λ (o : Option ℕ). option_map_or (segment (context doc m ms)) o []) size

  module _ (it : HighNote) (high : IsHighNote s it) where
    abbrev class : Class
    class = high.0

    found : Among class s.classes × (class.number ≡ it.class)
    found = found_class it.class s.classes class high.1

    -- no text holds it
    none_in : (m : PageMove) (ms : List PageMove) → Stand doc (m ∷ ms) →
        AllByRecursion IsSize (sizes_of it.class (segment_of (context doc m ms))) →
        Among it.size (sizes_of it.class (segment_of (context doc m ms))) → ⊥
    none_in m ms stand all has = by_bool (is_text (context doc m ms)) text bare
      where
        bare : is_text (context doc m ms) ≡ false → ⊥
        bare is = subst (λ (items : List Item). Among it.size (sizes_of it.class items)) (no_items m ms stand is) has

        text : is_text (context doc m ms) ≡ true → ⊥
        text is =
            let limits : are_notes_within_limits s (segment_of (context doc m ms)) ≡ true =
            in_size (context doc m ms) (size_of (context doc m ms))
            (sym (where_true (is_text (context doc m ms)) _ is) ∙ stand.0.stands.rules.note_limits) in
            let own : is_within_limit (segment_of (context doc m ms)) class.number class.kind ≡ true =
            all_at (λ (other : Class). is_within_limit (segment_of (context doc m ms)) other.number other.kind) s.classes
            class limits found.0 in
            let within : whole_sum (sizes_of it.class (segment_of (context doc m ms))) ≤ℤ it.limit =
            subst (λ (n : ℕ). whole_sum (sizes_of n (segment_of (context doc m ms))) ≤ℤ it.limit) found.1
            (within_limit class.kind (segment_of (context doc m ms)) class.number it.limit high.2 own) in
            let most : it.size ≤ℤ whole_sum (sizes_of it.class (segment_of (context doc m ms))) =
            subst (λ (z : ℤ). it.size ≤ℤ z) (sym (whole_is (sizes_of it.class (segment_of (context doc m ms)))))
            (sum_above (sizes_of it.class (segment_of (context doc m ms))) it.size all has) in
            no_less it.size it.limit (whole_sum (sizes_of it.class (segment_of (context doc m ms)))) high.3 most within

    none_among : (ms : List PageMove) → Stand doc ms → AllByRecursion IsSize (sizes_of it.class (segments doc ms)) →
        Among it.size (sizes_of it.class (segments doc ms)) → ⊥
    none_among [] stand all has = has
    none_among (m ∷ ms) stand all has =
        let parts : sizes_of it.class (segments doc ms ++ segment_of (context doc m ms))
        ≡ sizes_of it.class (segments doc ms) ++ sizes_of it.class (segment_of (context doc m ms)) =
        filter_map-append (insert_size it.class) (segments doc ms) (segment_of (context doc m ms)) in
        let each = all_parts (sizes_of it.class (segments doc ms)) (sizes_of it.class (segment_of (context doc m ms)))
        (subst (AllByRecursion IsSize) parts all) in
        elim (among_cases it.size (sizes_of it.class (segments doc ms)) (sizes_of it.class (segment_of (context doc m ms)))
        (subst (λ (sizes : List ℤ). Among it.size sizes) parts has)) [
          | inl h ↦ none_among ms stand.1 each.0 h
          | inr h ↦ none_in m ms stand each.1 h
        ]

  pub high_notes_forbid : HighNotesForbid g s
  high_notes_forbid it plan high has legal =
      let keeps : KeepsRules g s plan = (unbroken_keep_rules g s range plan).0 legal.unbroken in
      let once : EachOnce g s plan = each_once g s range plan legal in
      let same : sizes_of it.class (segments doc (columns plan)) ≡ sizes_of it.class (flat g.blocks []) =
      sym (kept_sizes it.class (segments doc (columns plan)))
      ∙ (ap (sizes_of it.class) once.kept
      ∙ (kept_sizes it.class (flat g.blocks (picks_of (columns plan)))
      ∙ picked_sizes it.class g.blocks (picks_of (columns plan)) range.blocks once.named)) in
      none_among it high (columns plan) keeps.stand
      (subst (AllByRecursion IsSize) (sym same) (floats_range g.blocks (it.class ∷ []) range.blocks).0)
      (subst (λ (sizes : List ℤ). Among it.size sizes) (sym same)
      (contains_among (sizes_of it.class (flat g.blocks [])) it.size has))

-- ---- what is found

high_kind : (style : StyleValue) (class : Class) (number : ℕ) (size : ℤ) (it : HighNote) →
    class_of style number ≡ Some class → high_in class.kind number size ≡ Some it →
    IsHighNote style it × ((it.class ≡ number) × (it.size ≡ size))
high_kind style class number size it found is = by class.kind refl is
  where
    note : (limit : ℤ) (b : Bool) → limit_of class.kind ≡ Some limit → int_lt limit size ≡ b →
        (if b then Some (record { class = number; size = size; limit = limit }) else None) ≡ Some it →
        IsHighNote style it × ((it.class ≡ number) × (it.size ≡ size))
    note limit true e less got =
        let same : record { class = number; size = size; limit = limit } ≡ it = same_Some _ it got in
        subst (λ (x : HighNote). IsHighNote style x × ((x.class ≡ number) × (x.size ≡ size))) same
        ((class, found, e, less_int limit size less), (refl, refl))
    note limit false e less got = absurd cc

    by : (kind : Kind) → class.kind ≡ kind → high_in kind number size ≡ Some it →
        IsHighNote style it × ((it.class ≡ number) × (it.size ≡ size))
    by (Note skip limit) e got = note limit (int_lt limit size) (ap limit_of e) refl got
    by (Float area distance) e got = absurd cc

one_high : (style : StyleValue) (item : Item) (it : HighNote) → high_of style item ≡ Some it →
    IsHighNote style it × Among it.size (sizes_of it.class (item ∷ []))
one_high style (BoxItem h d body) it e = absurd cc
one_high style (Rule h d body) it e = absurd cc
one_high style (Glue w x o k body) it e = absurd cc
one_high style (Kern w body) it e = absurd cc
one_high style (Penalty v body) it e = absurd cc
one_high style (Carry body) it e = absurd cc
one_high style (Insert number size body) it e = by (class_of style number) refl e
  where
    here : (n : ℕ) (z : ℤ) → n ≡ number → z ≡ size → Among z (sizes_of n (Insert number size body ∷ []))
    here n z same_number same_size = own (number == n) (eq_yes number n (sym same_number))
      where
        own : (b : Bool) → b ≡ true → Among z (cons_option (if b then Some size else None) [])
        own true t = inl (sym same_size)
        own false t = absurd cc

    by : (o : Option Class) → class_of style number ≡ o →
        option_map_or (λ (class : Class). high_in class.kind number size) o None ≡ Some it →
        IsHighNote style it × Among it.size (sizes_of it.class (Insert number size body ∷ []))
    by None f got = absurd cc
    by (Some class) f got =
        let is = high_kind style class number size it f got in (is.0, here it.class it.size is.1.0 is.1.1)

first_is : (style : StyleValue) (items : List Item) (it : HighNote) → first_high style items ≡ Some it →
    IsHighNote style it × Among it.size (sizes_of it.class items)
first_is style [] it e = absurd cc
first_is style (item ∷ items) it e = by (high_of style item) refl e (first_is style items it)
  where
    parts : sizes_of it.class ((item ∷ []) ++ items) ≡ sizes_of it.class (item ∷ []) ++ sizes_of it.class items
    parts = filter_map-append (insert_size it.class) (item ∷ []) items

    by : (o : Option HighNote) → high_of style item ≡ o → option_or o (first_high style items) ≡ Some it →
        (first_high style items ≡ Some it → IsHighNote style it × Among it.size (sizes_of it.class items)) →
        IsHighNote style it × Among it.size (sizes_of it.class (item ∷ items))
    by None f got later = let rest = later got in (
      rest.0,
      subst (λ (sizes : List ℤ). Among it.size sizes) (sym parts)
          (among_right it.size (sizes_of it.class (item ∷ [])) (sizes_of it.class items) rest.1),
    )
    by (Some other) f got later = let one = one_high style item it (f ∙ got) in (
      one.0,
      subst (λ (sizes : List ℤ). Among it.size sizes) (sym parts)
          (among_left it.size (sizes_of it.class (item ∷ [])) (sizes_of it.class items) one.1),
    )

pub high_note_forbids : (g : GalleyValue) (s : StyleValue) → AreInRange g s → HighNoteForbids g s
high_note_forbids g s range it plan found legal =
    let is = first_is s (flat g.blocks []) it found in
    high_notes_forbid g s range it plan is.0
    (among_contains (sizes_of it.class (flat g.blocks [])) it.size is.1) legal

-- ---- block by block

first_append : (style : StyleValue) (xs ys : List Item) →
    first_high style (xs ++ ys) ≡ option_or (first_high style xs) (first_high style ys)
first_append style [] ys = refl
first_append style (x ∷ xs) ys = by (high_of style x) (first_append style xs ys)
  where
    by : (o : Option HighNote) → first_high style (xs ++ ys) ≡ option_or (first_high style xs) (first_high style ys) →
        option_or o (first_high style (xs ++ ys))
        ≡ option_or (option_or o (first_high style xs)) (first_high style ys)
    by None on = on
    by (Some it) on = refl

pub blocks_high : (style : StyleValue) (blocks : List Block) → high_blocks style blocks ≡ first_high style (first_items blocks)
blocks_high style [] = refl
blocks_high style (block ∷ blocks) =
    ap (option_or (first_high style (picked_items block 0))) (blocks_high style blocks)
    ∙ sym (first_append style (picked_items block 0) (first_items blocks))
