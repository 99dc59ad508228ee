-- A column of text that may be printed: its numbers, its items and its text.
use Rattle.std.proofs.Common.{◌≡◌, refl, sym, ap, ◌∙◌, subst, ℕ, zero, suc, ◌+◌, ◌*◌, ◌≤◌, ◌<◌, ◌^◌, arith, List, [], ◌∷◌, ◌++◌, map, take, length, Bool, true, false, Option, Some, None}
use Rattle.std.specs.Prelude.{◌==◌, ◌&&◌, ◌||◌, not, if◌then◌else◌, int_lt, int_le, is_none, is_some, nat_abs, ℤ, pos, ◌+ℤ◌, ◌-ℤ◌, ◌≤ℤ◌, ◌<ℤ◌, codes, decimal}
use Rattle.std.specs.List.{AllByRecursion, flat_map, list_any, range_with_len}
use Rattle.std.specs.Option.{option_map_or}
use Rattle.std.proofs.lemmas.Bool.{eqb-true}
use Rattle.std.proofs.lemmas.Int.{ints}
use Rattle.std.proofs.lemmas.List.{length-take}
use Rattle.pg_list.specs.Counts.{item_count}
use Rattle.pg_list.specs.Ranges.{IsItemInRange}
use Rattle.pg_list.specs.Shapes.{IsBlock, is_box, is_discardable}
use Rattle.pg_list.specs.declared.item.Item.{Item}
use Rattle.pg_list.specs.Break.{break_penalty, is_spent}
use Rattle.pg_list.specs.Flat.{FlatItem, blocks_at, end_of, flat, fronts, is_same_place, picked_variants}
use Rattle.pg_list.specs.Totals.{shrink, trimmed}
use Rattle.pg_list.specs.Whole.{whole_sum, whole_sum_by}
use Rattle.pg_style.specs.Ranges.{IsClass, IsKind, IsStyle}
use Rattle.pg_style.specs.Values.{StyleValue}
use Rattle.pg_plan.specs.declared.pages.Column.{Column}
use Rattle.pg_style.specs.declared.style.Class.{Class}
use Rattle.pg_style.specs.declared.style.Kind.{Kind}
use Rattle.pg_style.specs.declared.style.Kind.TheVariants.{Note, Float}
use Rattle.pg_rules.specs.ColumnRules.{column_variants, does_fit, segment, tallest_goal, text_goal, text_is_over, text_total}
use Rattle.pg_rules.specs.Floats.{entry, float_numbers, gap_shrink, plus_counts, sizes_of}
use Rattle.pg_rules.specs.Follow.{KeepsColumnRules}
use Rattle.pg_rules.specs.Room.{ColumnContext, Document, areas_give, before_bottom, class_give, class_notes, flat_items_of, is_text, items_of, give, notes, room, size_of, skips_give}
use Rattle.law_columns.proofs.Areas.{IsSize, sizes_range}
use Rattle.law_columns.proofs.Gives.{shrink_part}
use Rattle.pg_list.specs.Badness.{is_over}
use Rattle.pg_column.specs.Numbers.{AreNumbers, IsRoom, text_room}
use Rattle.pg_style.specs.declared.style.Gap.{Gap}
use Rattle.pg_column.specs.declared.cost.TextCost.{TextCost}
use Rattle.pg_column.proofs.Passing.{InRange, at_ranges}
use Rattle.pg_column.proofs.Spans.{ahead_few}
use Rattle.pg_lemmas.proofs.Bools.{both_of, if_false, if_true}
use Rattle.pg_lemmas.proofs.Lists.{all_take}
use Rattle.pg_pages.specs.Gaps.{gaps_above, note_gaps, shows_gaps}
use Rattle.pg_pages.specs.PageText.{area, bottom_area, column_body, column_line, float_column, float_bodies, floats_text, hanging_text, inserted, set_line, set_notes, skipped_notes, standing_floats, text_area, text_column, top_area}
use Rattle.pg_pages.specs.SetGlue.{bottom_widths, glue_widths, note_widths, own_sizes, own_width, text_widths, widths_by}
use Rattle.pg_words.specs.Written.{line}
use Rattle.pg_pages.specs.Seated.{seated}
use Rattle.pg_pages.specs.Sheets.{seat_text}
use Rattle.pg_pages.specs.declared.seats.Seat.{Seat}
use Rattle.pg_pages.specs.Printed.{bare_text, bottom_by, hanging_by, hung_by, notes_area, notes_set, numbers_text, read_text, set_column, standing_by, stood_by, text_by, top_by}
use Rattle.pg_pages.proofs.GapLists as gaps
use Rattle.pg_pages.proofs.ColumnText.{notes_are}
use Rattle.pg_pages.proofs.Excess.{excess_small}
use Rattle.pg_pages.proofs.Numbers.{printed}
use Rattle.pg_column.specs.Between.{items_to}
use Rattle.pg_column.proofs.Steps.{items_are, map_length}

-- ---- items

items_range : (xs : List FlatItem) → InRange xs → AllByRecursion IsItemInRange (map (λ (x : FlatItem). x.item) xs)
items_range [] all = tt
items_range (x ∷ xs) all = (all.0, items_range xs all.1)

trimmed_by : (b d : Bool) (item : Item) (items : List Item) → AllByRecursion IsItemInRange (item ∷ items) →
    AllByRecursion IsItemInRange (trimmed items) →
    AllByRecursion IsItemInRange (if b then item ∷ items else (if d then trimmed items else item ∷ trimmed items))
trimmed_by true d item items all rest = all
trimmed_by false true item items all rest = rest
trimmed_by false false item items all rest = (all.0, rest)

trimmed_range : (items : List Item) → AllByRecursion IsItemInRange items → AllByRecursion IsItemInRange (trimmed items)
trimmed_range [] all = tt
trimmed_range (item ∷ items) all = trimmed_by (is_box item) (is_discardable item) item items all
    (trimmed_range items all.1)

fewer_by : (b d : Bool) (item : Item) (items : List Item) → length (trimmed items) ≤ length items →
    length (if b then item ∷ items else (if d then trimmed items else item ∷ trimmed items)) ≤ suc (length items)
fewer_by true d item items h = omega arith
fewer_by false true item items h = omega (arith, h)
fewer_by false false item items h = omega (arith, h)

pub trimmed_few : (items : List Item) → length (trimmed items) ≤ length items
trimmed_few [] = omega arith
trimmed_few (item ∷ items) = fewer_by (is_box item) (is_discardable item) item items (trimmed_few items)

-- ---- notes

sizes_sum : (sizes : List ℤ) → AllByRecursion IsSize sizes → pos 0 ≤ℤ whole_sum sizes
sizes_sum [] all = omega (arith, ints)
sizes_sum (size ∷ sizes) all = add size (whole_sum sizes) all.0.0 (sizes_sum sizes all.1)
  where
    add : (a b : ℤ) → pos 0 ≤ℤ a → pos 0 ≤ℤ b → pos 0 ≤ℤ (a +ℤ b)
    add a b h k = omega (arith, ints, h, k)

kind_low : (items : List Item) (number : ℕ) (kind : Kind) → IsKind kind → AllByRecursion IsItemInRange items →
    pos 0 ≤ℤ class_notes items number kind
kind_low items number (Float area distance) is all = omega (arith, ints)
kind_low items number (Note skip limit) is all = by (length (sizes_of number items) == 0) skip.size is.0.size_in.0
    (sizes_sum (sizes_of number items) (sizes_range number items all))
  where
    by : (b : Bool) (z : ℤ) → pos 0 ≤ℤ z → pos 0 ≤ℤ whole_sum (sizes_of number items) →
        pos 0 ≤ℤ (if b then pos 0 else (z +ℤ whole_sum (sizes_of number items)))
    by true z h k = omega (arith, ints)
    by false z h k = omega (arith, ints, h, k)

notes_low : (items : List Item) (classes : List Class) → AllByRecursion IsClass classes →
    AllByRecursion IsItemInRange items →
    pos 0 ≤ℤ whole_sum_by (λ (class : Class). class_notes items class.number class.kind) classes
notes_low items [] is all = omega (arith, ints)
notes_low items (class ∷ classes) is all =
    add (class_notes items class.number class.kind)
    (whole_sum_by (λ (class : Class). class_notes items class.number class.kind) classes)
    (kind_low items class.number class.kind is.0.kind_in all) (notes_low items classes is.1 all)
  where
    add : (a b : ℤ) → pos 0 ≤ℤ a → pos 0 ≤ℤ b → pos 0 ≤ℤ (a +ℤ b)
    add a b h k = omega (arith, ints, h, k)

-- what the skips of all notes give
gives_few : (items : List Item) (classes : List Class) → AllByRecursion IsClass classes →
    nat_abs (whole_sum_by (λ (class : Class). class_give gap_shrink items class.number class.kind) classes)
    ≤ 2 ^ 30 * length classes
gives_few items [] is = omega arith
gives_few items (class ∷ classes) is =
    add (class_give gap_shrink items class.number class.kind)
    (whole_sum_by (λ (class : Class). class_give gap_shrink items class.number class.kind) classes) (length classes)
    (one class.number class.kind is.0.kind_in) (gives_few items classes is.1)
  where
    add : (a b : ℤ) (n : ℕ) → nat_abs a ≤ 2 ^ 30 → nat_abs b ≤ 2 ^ 30 * n → nat_abs (a +ℤ b) ≤ 2 ^ 30 * suc n
    add a b n h k = omega (arith, ints, h, k)

    one : (number : ℕ) (kind : Kind) → IsKind kind → nat_abs (class_give gap_shrink items number kind) ≤ 2 ^ 30
    one number (Float area distance) range = omega arith
    one number (Note skip limit) range = by (length (sizes_of number items) == 0) (shrink_part skip range.0).1
      where
        by : (b : Bool) → nat_abs skip.shrink < 2 ^ 30 → nat_abs (if b then pos 0 else skip.shrink) ≤ 2 ^ 30
        by true h = omega arith
        by false h = omega (arith, h)

-- ---- the same text

-- the same text from the same parts
pub read_same : (style : StyleValue) (column : Column) (numbers : TextCost) (spent : Bool)
    (bodies bodies' : List (List (List ℕ))) → bodies ≡ bodies' → (before before' : List ℕ) → before ≡ before' →
    (below below' : List ℕ) → below ≡ below' → (items items' : List Item) → items ≡ items' →
    read_text style bodies before below column items numbers spent
    ≡ read_text style bodies' before' below' column items' numbers spent
read_same style column numbers spent bodies bodies' p before before' q below below' r items items' s =
    ap (λ (xs : List (List (List ℕ))). read_text style xs before below column items numbers spent) p
    ∙ ap (λ (xs : List ℕ). read_text style bodies' xs below column items numbers spent) q
    ∙ ap (λ (xs : List ℕ). read_text style bodies' before' xs column items numbers spent) r
    ∙ ap (λ (xs : List Item). read_text style bodies' before' below' column xs numbers spent) s

-- ---- the column

module _ (it : ColumnContext) (all : AllByRecursion IsBlock it.document.blocks) (style : IsStyle it.document.style)
    (rules : KeepsColumnRules it) where
  abbrev Fitting : ℕ → Bool
  Fitting n = (fronts (flat_items_of it) n == length it.column.picks)
      && (length (column_variants it) == length it.column.picks)

  pub sized : (n : ℕ) × (size_of it ≡ Some n)
  sized = by (size_of it) refl
    where
      by : (o : Option ℕ) → size_of it ≡ o → (n : ℕ) × (size_of it ≡ Some n)
      by None e = absurd (let k : false ≡ true = sym (ap (λ (o : Option ℕ). option_map_or Fitting o false) e)
          ∙ rules.fits in cc)
      by (Some n) e = (n, e)

  module _ (n : ℕ) (size : size_of it ≡ Some n) where
    pub named : length (picked_variants (blocks_at it.document.blocks it.column.from) it.column.picks)
        ≡ length it.column.picks
    named = eqb-true _ _ (both_of (fronts (flat_items_of it) n == length it.column.picks) _
        (sym (ap (λ (o : Option ℕ). option_map_or Fitting o false) size) ∙ rules.fits)).1

    -- the items of its text
    pub text_items : items_to (is_same_place it.column.to (end_of it.document.blocks)) it.column.to (flat_items_of it)
        ≡ take n (items_of it)
    text_items = items_are it.document.blocks it.column.to (flat_items_of it) n size

    pub text_range : AllByRecursion IsItemInRange (take n (items_of it))
    text_range = all_take IsItemInRange n (items_of it)
        (items_range (flat_items_of it) (at_ranges it.document.blocks it.column.from it.column.picks all))

    pub text_few : item_count it.document.blocks ≤ 2 ^ 20 → length (take n (items_of it)) ≤ 2 ^ 20
    text_few few =
        let b = length-take n (items_of it) in
        let c = map_length (flat_items_of it) in
        let d = ahead_few it.document.blocks it.column.from it.column.picks in
        omega (arith, b, c, d, few)

    pub segment_is : trimmed (items_to (is_same_place it.column.to (end_of it.document.blocks)) it.column.to
        (flat_items_of it)) ≡ segment it n
    segment_is = ap trimmed text_items

    -- a text ends behind a box, at a break
    pub text_ends : is_text it ≡ true → (1 ≤ n) × (is_some (break_penalty (items_of it) n) ≡ true)
    text_ends text =
        let two = both_of (list_any is_box (take n (items_of it))) (is_some (break_penalty (items_of it) n))
        (sym (ap (λ (o : Option ℕ). option_map_or (λ (n : ℕ). list_any is_box (take n (items_of it))
        && is_some (break_penalty (items_of it) n)) o false) size)
        ∙ (sym (if_true (is_text it) _ _ text) ∙ rules.well_formed)) in
        (some n two.0, two.1)
      where
        some : (k : ℕ) → list_any is_box (take k (items_of it)) ≡ true → 1 ≤ k
        some zero e = absurd cc
        some (suc k) e = omega arith

    pub segment_range : AllByRecursion IsItemInRange (segment it n)
    segment_range = trimmed_range (take n (items_of it)) text_range

    pub segment_few : item_count it.document.blocks ≤ 2 ^ 20 → length (segment it n) ≤ 2 ^ 20
    segment_few few =
        let a = trimmed_few (take n (items_of it)) in
        let b = text_few few in
        omega (arith, a, b)

    pub text_fits : is_text it ≡ true → text_is_over it n ≡ false
    text_fits text = by (is_text it) (size_of it) text size rules.tolerable
      where
        not_over : (b c : Bool) → (not b && c) ≡ true → b ≡ false
        not_over true c e = absurd cc
        not_over false c e = refl

        by : (t : Bool) (o : Option ℕ) → t ≡ true → o ≡ Some n →
            (not t || option_map_or (λ (n : ℕ). not (text_is_over it n)
            && (Rattle.pg_list.specs.Break.is_forced (items_of it) n
            || Rattle.std.specs.Prelude.nat_le (Rattle.pg_rules.specs.ColumnRules.text_badness it n)
            it.document.style.tolerance)) o false) ≡ true → text_is_over it n ≡ false
        by false o t e r = absurd cc
        by true o t e r = not_over (text_is_over it n) _
            (subst (λ (o : Option ℕ). option_map_or (λ (n : ℕ). not (text_is_over it n)
            && (Rattle.pg_list.specs.Break.is_forced (items_of it) n
            || Rattle.std.specs.Prelude.nat_le (Rattle.pg_rules.specs.ColumnRules.text_badness it n)
            it.document.style.tolerance)) o false ≡ true) e r)

    goal_high : nat_abs (room it) < 2 ^ 40 → text_goal it n ≤ℤ pos (2 ^ 40)
    goal_high small = less (room it) (notes it.document.style (segment it n)) small
        (notes_low (segment it n) it.document.style.classes style.classes_in.each segment_range)
      where
        less : (a b : ℤ) → nat_abs a < 2 ^ 40 → pos 0 ≤ℤ b → (a -ℤ b) ≤ℤ pos (2 ^ 40)
        less a b h k = omega (arith, ints, h, k)

    tallest_is : tallest_goal it n ≡ text_goal it n +ℤ give gap_shrink it (segment it n)
    tallest_is = sums (room it) (areas_give gap_shrink it) (notes it.document.style (segment it n))
        (skips_give gap_shrink it.document.style (segment it n))
      where
        sums : (r a h k : ℤ) → ((r +ℤ a) -ℤ (h -ℤ k)) ≡ ((r -ℤ h) +ℤ (a +ℤ k))
        sums r a h k = omega (arith, ints)

    give_small : nat_abs (areas_give gap_shrink it) < 2 ^ 40 → nat_abs (give gap_shrink it (segment it n)) < 2 ^ 42
    give_small small = add (areas_give gap_shrink it) (skips_give gap_shrink it.document.style (segment it n)) small
        (gives_few (segment it n) it.document.style.classes style.classes_in.each) style.classes_in.few
      where
        add : (a b : ℤ) → nat_abs a < 2 ^ 40 → nat_abs b ≤ 2 ^ 30 * length it.document.style.classes →
            length it.document.style.classes ≤ 8 → nat_abs (a +ℤ b) < 2 ^ 42
        add a b h k l = omega (arith, ints, h, k, l)

    pub excess_is_small : item_count it.document.blocks ≤ 2 ^ 20 → IsRoom (text_room it) → is_text it ≡ true →
        nat_abs (text_goal it n -ℤ text_total it n) < 2 ^ 52
    excess_is_small few small text = excess_small it.document.style.topskip it.document.style.maxdepth (text_goal it n)
        (give gap_shrink it (segment it n)) (segment it n) segment_range (segment_few few) style.maxdepth_in.0
        style.maxdepth_in.1 (goal_high small.size) (give_small small.shrink)
        (ap (is_over (text_total it n) (shrink (segment it n))) (sym tallest_is) ∙ text_fits text)

    -- ---- its text

    module _ (numbers : TextCost) (are : AreNumbers it n numbers) (spent : Bool)
        (spent_is : spent ≡ is_spent (items_of it) n) where
      line_is : numbers_text numbers ≡ set_line it n
      line_is = printed it n numbers are.goal are.total are.badness
          (ap (λ (o : Option ℤ). option_map_or (λ (penalty : ℤ). penalty) o (pos 0)) are.penalty) are.demerits

      text_is : text_by it.document.style (segment it n) (text_widths it n) ≡ text_area it n
      unfolding text_area text_by
      text_is = refl

      top_is : (widths : List ℤ) →
          top_by it.document.style (float_bodies it.document) it.before it.column widths ≡ top_area it widths
      unfolding top_by hanging_by hanging_text floats_text
      top_is widths = refl

      bottom_is : (widths : List ℤ) → bottom_by it.document.style (float_bodies it.document) (before_bottom it) it.column
          widths ≡ bottom_area it widths
      unfolding bottom_by standing_by standing_floats floats_text
      bottom_is widths = refl

      notes_is : (widths : List ℤ) → notes_area it.document.style (segment it n) widths
          ≡ area (codes "notes") (set_notes it.document.style (segment it n) widths)
      unfolding notes_area notes_set set_notes
      notes_is widths = ap (λ (text : List ℕ). area (codes "notes") (if shows_gaps it.document.style
          then skipped_notes it.document.style.classes (segment it n) widths else text))
          (notes_are it.document.style (segment it n) style.classes_in)

      set_is : set_column it.document.style (float_bodies it.document) it.before (before_bottom it) it.column (segment it n)
          numbers (glue_widths it n) (length (gaps_above it)) (length (flat_map own_width (segment it n)))
          (length (note_gaps it.document.style (segment it n))) ≡ text_column it n
      unfolding set_column
      set_is = rw (
        line_is,
        top_is (glue_widths it n),
        text_is,
        bottom_is (bottom_widths it n),
        notes_is (note_widths it n),
      ) refl

      widths_is : widths_by it.document.style
          (hung_by it.document.style it.document.style.top (float_bodies it.document) it.before it.column.top)
          (segment it n) (note_gaps it.document.style (segment it n)
          ++ stood_by it.document.style it.document.style.bottom (float_bodies it.document) (before_bottom it)
          it.column.bottom) numbers.goal numbers.total spent ≡ glue_widths it n
      widths_is = same _ _ _ _ _ _ _ _ _ _ (gaps.above_is it) (gaps.bottom_is it) are.goal are.total spent_is
        where
          same : (a a' b b' : List Gap) (g g' t t' : ℤ) (s s' : Bool) → a ≡ a' → b ≡ b' → g ≡ g' → t ≡ t' → s ≡ s' →
              widths_by it.document.style a (segment it n) (note_gaps it.document.style (segment it n) ++ b) g t s
              ≡ widths_by it.document.style a' (segment it n) (note_gaps it.document.style (segment it n) ++ b') g' t' s'
          same a a' b b' g g' t t' s s' p q r u v = rw (p, q, r, u, v) refl

      column_is : read_text it.document.style (float_bodies it.document) it.before (before_bottom it) it.column
          (segment it n) numbers spent ≡ text_column it n
      unfolding read_text
      column_is = ap (λ (widths : List ℤ). set_column it.document.style (float_bodies it.document) it.before
          (before_bottom it) it.column (segment it n) numbers widths
          (length (hung_by it.document.style it.document.style.top (float_bodies it.document) it.before it.column.top))
          (length (flat_map own_width (segment it n))) (length (note_gaps it.document.style (segment it n)))) widths_is
          ∙ (ap (λ (gaps : List Gap). set_column it.document.style (float_bodies it.document) it.before (before_bottom it)
          it.column (segment it n) numbers (glue_widths it n) (length gaps) (length (flat_map own_width (segment it n)))
          (length (note_gaps it.document.style (segment it n)))) (gaps.above_is it) ∙ set_is)

      pub column_text_is : (bodies : List (List (List ℕ))) (before below : List ℕ) (items : List Item) →
          bodies ≡ float_bodies it.document → before ≡ it.before → below ≡ before_bottom it → items ≡ segment it n →
          read_text it.document.style bodies before below it.column items numbers spent
          ≡ option_map_or (text_column it) (size_of it) []
      column_text_is bodies before below items p q r s =
          read_same it.document.style it.column numbers spent bodies (float_bodies it.document) p before it.before q below
          (before_bottom it) r items (segment it n) s
          ∙ column_is ∙ ap (λ (o : Option ℕ). option_map_or (text_column it) o []) (sym size)

-- ---- floats before it

lent_map : {X Y : Type 0} (f : X → Y) (xs : List X) → length (map f xs) ≡ length xs
lent_map f [] = refl
lent_map f (x ∷ xs) = ap suc (lent_map f xs)

-- as many lists of bodies as classes of floats
pub bodies_long : (doc : Document) {X : Type 0} (f : X → List (List ℕ)) (bodies : List X) →
    map f bodies ≡ float_bodies doc → length bodies ≡ length (float_numbers doc.style)
bodies_long doc f bodies are = sym (lent_map f bodies) ∙ ap length are
    ∙ lent_map (λ (number : ℕ). inserted number (flat doc.blocks [])) (float_numbers doc.style)

pub summed : (doc : Document) (a b : List ℕ) (n : ℕ) → n ≡ length (float_numbers doc.style) →
    map (λ (slot : ℕ). entry a slot + entry b slot) (range_with_len 0 n) ≡ plus_counts doc.style a b
summed doc a b n e = ap (λ (k : ℕ). map (λ (slot : ℕ). entry a slot + entry b slot) (range_with_len 0 k)) e

-- ---- with text or without

bare_is : (it : ColumnContext) →
    bare_text it.document.style (float_bodies it.document) it.before (before_bottom it) it.column ≡ float_column it
unfolding bare_text top_by bottom_by hanging_by standing_by hanging_text standing_floats floats_text
bare_is it =
    ap (λ (top : List Gap). line (codes "without text demerits " ++ decimal it.document.style.float_column.demerits)
    ++ top_area it (own_sizes top) ++ bottom_area it (own_sizes
    (stood_by it.document.style it.document.style.bottom (float_bodies it.document) (before_bottom it) it.column.bottom)))
    (gaps.above_is it)
    ∙ ap (λ (bottom : List Gap). line (codes "without text demerits "
    ++ decimal it.document.style.float_column.demerits)
    ++ top_area it (own_sizes (gaps_above it)) ++ bottom_area it (own_sizes bottom)) (gaps.bottom_is it)

pub body_of_floats : (it : ColumnContext) → is_same_place it.column.from it.column.to ≡ true →
    (bodies : List (List (List ℕ))) (before below : List ℕ) → bodies ≡ float_bodies it.document → before ≡ it.before →
    below ≡ before_bottom it → bare_text it.document.style bodies before below it.column ≡ column_body it
body_of_floats it same bodies before below p q r =
    ap (λ (xs : List (List (List ℕ))). bare_text it.document.style xs before below it.column) p
    ∙ ap (λ (xs : List ℕ). bare_text it.document.style (float_bodies it.document) xs below it.column) q
    ∙ ap (λ (xs : List ℕ). bare_text it.document.style (float_bodies it.document) it.before xs it.column) r
    ∙ bare_is it
    ∙ sym (if_false (is_text it) (option_map_or (text_column it) (size_of it) []) (float_column it) (ap not same))

-- ---- columns in their seats

pub seat_same : (doc : Document) (seat : Seat) (column : Column) (number run : ℕ) (wide : Option ℤ) → seat.run ≡ run →
    seat.wide ≡ wide → column_line number column ++ column_body (seated doc seat column)
    ≡ seat_text doc run wide number seat.before column
seat_same doc seat column number run wide p q =
    ap (λ (r : ℕ). seat_text doc r seat.wide number seat.before column) p
    ∙ ap (λ (w : Option ℤ). seat_text doc run w number seat.before column) q

-- counts added over as many slots as there are classes of floats
pub plus_is : (style : StyleValue) (a b c : List ℕ) (n : ℕ) → n ≡ length (float_numbers style) → b ≡ c →
    (sum : List ℕ) → sum ≡ map (λ (slot : ℕ). entry a slot + entry b slot) (range_with_len 0 n) →
    sum ≡ plus_counts style a c
plus_is style a b c n e same sum is = is
    ∙ ap (λ (k : ℕ). map (λ (slot : ℕ). entry a slot + entry b slot) (range_with_len 0 k)) e
    ∙ ap (λ (counts : List ℕ). plus_counts style a counts) same
