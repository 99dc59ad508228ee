-- The texts of columns, their segments and their floats, joined; and what the flat list says of a column.
use Rattle.std.specs.Prelude.{◌≡◌, ℕ, ◌+◌, ◌-◌, ◌≤◌, Bool, true, false, ◌&&◌, ◌||◌, ◌==◌, not, nat_le, if◌then◌else◌, length, List, [], ◌∷◌, ◌++◌, take, drop, Some, slice_get, ℤ, pos, ◌+ℤ◌, ◌-ℤ◌, is_some, unwrap_or}
use Rattle.std.specs.List.{count_by, filter, list_all, list_any, range_with_len}
use Rattle.std.specs.Option.{option_map_or}
use Rattle.pg_list.specs.GalleyValue.{GalleyValue}
use Rattle.pg_list.specs.Shapes.{is_box, is_discardable}
use Rattle.pg_list.specs.declared.blocks.Block.{Block}
use Rattle.pg_list.specs.declared.blocks.Block.TheVariants.{One, Choice}
use Rattle.pg_list.specs.declared.item.Item.{Item}
use Rattle.pg_plan.specs.Order.{columns}
use Rattle.pg_plan.specs.declared.pages.PageMove.{PageMove}
use Rattle.pg_plan.specs.declared.pages.Pagination.{Pagination}
use Rattle.pg_style.specs.Values.{StyleValue}
use Rattle.pg_list.specs.Break.{break_penalty, is_forced, is_spent, passes_between}
use Rattle.pg_list.specs.Flat.{flat, flat_items, flat_items_at, items_before, picked_variants}
use Rattle.pg_list.specs.Badness.{is_over, fill_badness, has_infinite}
use Rattle.pg_list.specs.Totals.{shrink, stretch, total, trimmed}
use Rattle.pg_list.specs.declared.item.Order.TheVariants.{Finite}
use Rattle.pg_rules.specs.ColumnRules.{fitness_by, is_tolerable, is_well_formed, keeps_note_limits, passes_breaks, segment}
use Rattle.pg_rules.specs.Cost.{break_demerits, column_demerits}
use Rattle.pg_rules.specs.Floats.{entry, float_numbers, gap_stretch, gap_shrink, insert_size, plus_counts, sizes_of}
use Rattle.pg_rules.specs.History.{column_fitness, context, placed_of, with_wide, place_of}
use Rattle.pg_rules.specs.Legal.{Legal, document, is_chained}
use Rattle.pg_rules.specs.Room.{are_notes_within_limits, ColumnContext, Document, give, is_text, items_of, notes, room, size_of, smallest_notes, tallest_room}

-- ---- columns that stand from the last to the first

-- each starts where the one before ends, and fits
abbrev pub Chained : Document → List PageMove → Type 0
Chained doc [] = Unit {0}
Chained doc (m ∷ ms) = (is_chained doc m ms ≡ true) × Chained doc ms

-- the picks of all, from the first on
abbrev pub picks_of : List PageMove → List ℕ
picks_of [] = []
picks_of (m ∷ ms) = picks_of ms ++ m.column.picks

-- the items between a column's ends
abbrev pub text_of : ColumnContext → List Item
text_of it = option_map_or (λ (n : ℕ). take n (items_of it)) (size_of it) []

abbrev pub segment_of : ColumnContext → List Item
segment_of it = option_map_or (segment it) (size_of it) []

-- those of all columns, from the first on
abbrev pub texts : Document → List PageMove → List Item
texts doc [] = []
texts doc (m ∷ ms) = texts doc ms ++ text_of (context doc m ms)

abbrev pub segments : Document → List PageMove → List Item
segments doc [] = []
segments doc (m ∷ ms) = segments doc ms ++ segment_of (context doc m ms)

-- ---- each once

abbrev pub is_kept : Item → Bool
is_kept item = not (is_discardable item)

-- an insert of a class
abbrev pub is_insert_of : ℕ → Item → Bool
is_insert_of number item = is_some (insert_size number item)

-- the inserts of a class, in order
abbrev pub inserts_of : ℕ → List Item → List Item
inserts_of number items = filter (is_insert_of number) items

-- the next floats of a class
abbrev pub next_floats : {X : Type 0} → List X → ℕ → List ℕ → List ℕ → List X
next_floats own slot before counts = take (entry counts slot) (drop (entry before slot) own)

-- the floats of a class that a column deals out: of its page's wide area, and then of its top and bottom areas
abbrev pub column_floats : {X : Type 0} → StyleValue → List X → ℕ → List ℕ → PageMove → List X
column_floats style own slot placed m =
    next_floats own slot placed m.wide
    ++ (next_floats own slot (with_wide style placed m) m.column.top
    ++ next_floats own slot (plus_counts style (with_wide style placed m) m.column.top) m.column.bottom)

-- the floats of a class that all columns deal out
abbrev pub dealt_floats : {X : Type 0} → StyleValue → List X → ℕ → List PageMove → List X
dealt_floats style own slot [] = []
dealt_floats style own slot (m ∷ ms) =
    dealt_floats style own slot ms ++ column_floats style own slot (placed_of style ms) m

-- a block that is a choice
abbrev pub is_choice : Block → Bool
is_choice (One item) = false
is_choice (Choice variants) = true

-- the texts, joined, are the flat list, but for discardable items at its end; each box, rule, insert and carry
-- of the flat list stands once in the segments, in order; each insert of each class of floats is dealt out once, in
-- order; and
-- there are as many picks as choices, each of which names a variant of its choice
pub record EachOnce (galley : GalleyValue) (style : StyleValue) (plan : Pagination) : Type 0 where
  pub rest : List Item
  pub whole :
      flat galley.blocks (picks_of (columns plan)) ≡ texts (document galley style) (columns plan) ++ rest
  pub spent : list_all is_discardable rest ≡ true
  pub kept : filter is_kept (segments (document galley style) (columns plan))
      ≡ filter is_kept (flat galley.blocks (picks_of (columns plan)))
  pub floats : (slot number : ℕ) → slice_get (float_numbers style) slot ≡ Some number →
      dealt_floats style (inserts_of number (flat galley.blocks [])) slot (columns plan)
      ≡ inserts_of number (flat galley.blocks [])
  pub picks : length (picks_of (columns plan)) ≡ count_by is_choice galley.blocks
  pub named : length (picked_variants galley.blocks (picks_of (columns plan))) ≡ count_by is_choice galley.blocks

abbrev pub LegalHaveEachOnce : GalleyValue → StyleValue → Type 0
LegalHaveEachOnce galley style = (plan : Pagination) → Legal galley style plan → EachOnce galley style plan

-- ---- the reading over the one flat list

-- no break inside the n items behind an offset, after their first box or rule, is forced or over
abbrev pub passes_behind : List Item → ℕ → (ℕ → Bool) → ℕ → Bool
passes_behind flat start is_over_at n =
    list_all (λ (j : ℕ). not (is_some (break_penalty flat (start + j))
    && list_any is_box (take j (drop start flat))) || not (is_forced flat (start + j) || is_over_at j))
    (range_with_len 1 (n - 1))

-- the column's own items say of its n items what the flat list says from the offset of its start on
pub record ReadsFlat (it : ColumnContext) (flat : List Item) (start n : ℕ) : Type 0 where
  pub size : size_of it ≡ Some n
  pub text : (j : ℕ) → j ≤ n → take j (items_of it) ≡ take j (drop start flat)
  pub penalty : (j : ℕ) → 1 ≤ j → j ≤ n → break_penalty (items_of it) j ≡ break_penalty flat (start + j)
  pub forced : (j : ℕ) → j ≤ n → is_forced (items_of it) j ≡ is_forced flat (start + j)
  pub spent : (j : ℕ) → j ≤ n → is_spent (items_of it) j ≡ is_spent flat (start + j)
  pub segment : (j : ℕ) → j ≤ n → segment it j ≡ trimmed (take j (drop start flat))
  pub passes : (is_over_at : ℕ → Bool) →
      passes_between (items_of it) is_over_at n ≡ passes_behind flat start is_over_at n

-- a column between those before and those behind it: where it starts and ends in the flat list, and what that
-- says
pub record StandsInFlat (galley : GalleyValue) (style : StyleValue) (behind : List PageMove) (m : PageMove)
    (ms : List PageMove) (picks : List ℕ) : Type 0 where
  pub start : ℕ
  pub n : ℕ
  pub starts : drop start (flat_items galley.blocks picks)
      ≡ flat_items_at galley.blocks m.column.from (m.column.picks ++ picks_of behind)
  pub ends : drop (start + n) (flat_items galley.blocks picks)
      ≡ flat_items_at galley.blocks m.column.to (picks_of behind)
  pub reads : ReadsFlat (context (document galley style) m ms) (flat galley.blocks picks) start n

-- every column of a pagination whose columns fit reads the flat list of all picks
abbrev pub ColumnsReadFlat : GalleyValue → StyleValue → Type 0
ColumnsReadFlat galley style =
    (plan : Pagination) (behind : List PageMove) (m : PageMove) (ms : List PageMove) →
    Chained (document galley style) (columns plan) → columns plan ≡ behind ++ m ∷ ms →
    StandsInFlat galley style behind m ms (picks_of (columns plan))

-- ---- the rules on a column's text, read from the flat list between two offsets

-- the segment of the j items behind an offset
abbrev pub flat_segment : List Item → ℕ → ℕ → List Item
flat_segment flat start j = trimmed (take j (drop start flat))

abbrev pub flat_total : ColumnContext → List Item → ℕ → ℕ → ℤ
flat_total it flat start j =
    total it.document.style.topskip it.document.style.maxdepth (flat_segment flat start j)

abbrev pub flat_goal : ColumnContext → List Item → ℕ → ℕ → ℤ
flat_goal it flat start j = room it -ℤ notes it.document.style (flat_segment flat start j)

abbrev pub flat_is_over : ColumnContext → List Item → ℕ → ℕ → Bool
flat_is_over it flat start j =
    is_over (flat_total it flat start j) (shrink (flat_segment flat start j))
    (tallest_room it -ℤ smallest_notes it.document.style (flat_segment flat start j))

abbrev pub flat_badness : ColumnContext → List Item → ℕ → ℕ → ℕ
flat_badness it flat start n =
    fill_badness (is_spent flat (start + n)) (flat_goal it flat start n) (flat_total it flat start n)
    (has_infinite (flat_segment flat start n))
    (unwrap_or it.document.style.ragged (stretch Finite (flat_segment flat start n)
    +ℤ give gap_stretch it (flat_segment flat start n)))
    (shrink (flat_segment flat start n) +ℤ give gap_shrink it (flat_segment flat start n))

-- each rule, the fitness and the demerits of a text column are those of the flat list between its places
pub record RulesReadFlat (it : ColumnContext) (flat : List Item) (start n : ℕ) : Type 0 where
  pub well_formed : is_well_formed it
      ≡ (list_any is_box (take n (drop start flat)) && is_some (break_penalty flat (start + n)))
  pub tolerable : is_tolerable it
      ≡ (not (flat_is_over it flat start n)
      && (is_forced flat (start + n) || nat_le (flat_badness it flat start n) it.document.style.tolerance))
  pub passes : passes_breaks it ≡ passes_behind flat start (flat_is_over it flat start) n
  pub note_limits : keeps_note_limits it ≡ are_notes_within_limits it.document.style (flat_segment flat start n)
  pub fitness : column_fitness it
      ≡ (if it.document.style.version == 1 then 2 else fitness_by (flat_total it flat start n)
      (flat_goal it flat start n) (flat_badness it flat start n))
  pub demerits : column_demerits it ≡ break_demerits it.document.style (flat_badness it flat start n)
      (unwrap_or (break_penalty flat (start + n)) (pos 0))

-- a text column keeps the rules that its part of the flat list keeps, at the same demerits
pub record KeepsFlatRules (galley : GalleyValue) (style : StyleValue) (behind : List PageMove) (m : PageMove)
    (ms : List PageMove) (picks : List ℕ) : Type 0 where
  pub stands : StandsInFlat galley style behind m ms picks
  pub rules : is_text (context (document galley style) m ms) ≡ true →
      RulesReadFlat (context (document galley style) m ms) (flat galley.blocks picks) stands.start stands.n

abbrev pub RulesReadTheFlatList : GalleyValue → StyleValue → Type 0
RulesReadTheFlatList galley style =
    (plan : Pagination) (behind : List PageMove) (m : PageMove) (ms : List PageMove) →
    Chained (document galley style) (columns plan) → columns plan ≡ behind ++ m ∷ ms →
    KeepsFlatRules galley style behind m ms (picks_of (columns plan))

-- the callouts of a class before a column's end are the inserts of the class that stand before it in the flat
-- list
abbrev pub CalloutsReadFlat : GalleyValue → StyleValue → Type 0
CalloutsReadFlat galley style =
    (plan : Pagination) (behind ms : List PageMove) (number : ℕ) →
    Chained (document galley style) (columns plan) → columns plan ≡ behind ++ ms →
    length (sizes_of number (items_before galley.blocks (place_of ms)))
    ≡ length (sizes_of number
    (take (length (texts (document galley style) ms)) (flat galley.blocks (picks_of (columns plan)))))
