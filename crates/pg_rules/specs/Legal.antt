-- The rules that a pagination keeps, and the column at which each is broken first.
use Rattle.std.specs.Prelude.{◌≡◌, ℕ, ◌+◌, ◌-◌, Bool, true, false, ◌==◌, ◌&&◌, ◌||◌, nat_lt, nat_le, if◌then◌else◌, List, [], ◌∷◌, length, reverse, Option, Some, None, slice_get, ℤ, is_some}
use Rattle.std.specs.List.{list_all, enumerate_from}
use Rattle.std.specs.Option.{option_map_or, option_or}
use Rattle.pg_list.specs.GalleyValue.{GalleyValue}
use Rattle.pg_plan.specs.declared.pages.PageMove.{PageMove}
use Rattle.pg_plan.specs.Order.{columns_of, columns}
use Rattle.pg_plan.specs.declared.pages.Page.{Page}
use Rattle.pg_plan.specs.declared.pages.Pagination.{Pagination}
use Rattle.pg_style.specs.Values.{StyleValue}
use Rattle.pg_style.specs.declared.style.Area.{Area}
use Rattle.pg_list.specs.Barrier.{text_block}
use Rattle.pg_list.specs.Break.{is_spent}
use Rattle.pg_rules.specs.ColumnRules.{does_fit, is_well_formed, is_tolerable, passes_breaks, has_room, has_counts, has_dealable, keeps_note_limits, keeps_looseness}
use Rattle.pg_list.specs.Flat.{FlatItem, is_same_place, flat_items_at}
use Rattle.pg_rules.specs.Floats.{called, total_count, float_numbers, floats, flushed, has_all, entry, float_class, is_area_allowed, slots, takes_wide, floats_between, distance_table}
use Rattle.pg_rules.specs.History.{next_column, next_page, next_run, place_of, placed_of, placed_after, is_called, calling_page, context}
use Rattle.pg_rules.specs.Room.{Document, ColumnContext}
use Rattle.pg_list.specs.declared.galley.Place.{Place}
use Rattle.std.specs.Prelude.{map}

-- ---- rules on a column, after what is placed before it

-- a part of rule 7: the counts of wide floats are those that a page's column of this number may have
abbrev pub has_wide_counts : Document → ℕ → PageMove → Bool
has_wide_counts doc column m =
    (length m.wide == length (float_numbers doc.style))
    && (if column == 1 then is_area_allowed doc.style takes_wide doc.style.wide.count m.wide
    else total_count m.wide == 0)

-- a part of rule 8, every float once: no class deals out a float that it has not
abbrev pub deals_floats : Document → List ℕ → PageMove → ColumnContext → Bool
deals_floats doc placed m it = has_all (floats doc.blocks doc.style) placed m.wide && has_dealable it

-- the floats that a column adds
abbrev pub added : Document → List ℕ → PageMove → List (ℕ × ℕ)
added doc placed m = floats_between doc.style placed (placed_after doc.style placed m)

-- rule 9, callout before float: each float that the column adds is called before the column's end
abbrev pub has_callouts : Document → List ℕ → PageMove → Bool
has_callouts doc placed m = list_all (is_called doc m.column.to) (added doc placed m)

-- rule 12, runs and spreads: the run exists, and is the one that must be
abbrev pub has_run : StyleValue → Option ℕ → PageMove → Bool
has_run style must m = is_some (slice_get style.runs m.run) && option_map_or (λ (run : ℕ). m.run == run) must true

-- how many pages a float that the column adds stands behind its callout
abbrev pub distance : Document → PageMove → List PageMove → ℕ × ℕ → ℕ
distance doc m ms float = next_page doc.style ms - calling_page doc (m ∷ ms) float

-- rule 10, distance of a float: each float that the column adds stands within its table behind its callout
abbrev pub is_near : Document → PageMove → List PageMove → Bool
is_near doc m ms =
    list_all (λ (float : ℕ × ℕ). nat_lt (distance doc m ms float) (length (distance_table doc.style float.0)))
    (added doc (placed_of doc.style ms) m)

-- no class has fewer floats placed than these
abbrev pub are_placed : StyleValue → List ℕ → List ℕ → Bool
are_placed style called placed = list_all (λ (slot : ℕ). nat_le (entry called slot) (entry placed slot)) (slots style)

-- of each class no called float waits, or all those that are called before a barrier are placed
abbrev pub are_ready : StyleValue → List ℕ → List ℕ → List ℕ → Bool
are_ready style called flushed placed =
    list_all (λ (slot : ℕ). nat_le (entry called slot) (entry placed slot)
    || nat_le (entry flushed slot) (entry placed slot)) (slots style)

-- rule 14, barriers: where a text begins behind a barrier, the floats that are called before its column and before that
-- barrier are placed before the column; where it ends behind one, those that are called before that with the column
abbrev pub keeps_barriers : Document → List ℕ → PageMove → Bool
keeps_barriers doc placed m =
    is_same_place m.column.from m.column.to
    || (are_ready doc.style (called doc.blocks doc.style m.column.from)
    (flushed doc.blocks doc.style (text_block doc.blocks m.column.from)) placed
    && are_placed doc.style (flushed doc.blocks doc.style m.column.to.block) (placed_after doc.style placed m))

-- ---- rules on the whole

-- rule 2, chain of columns: a column starts where the one before ends
abbrev pub is_chained : Document → PageMove → List PageMove → Bool
is_chained doc m ms = is_same_place m.column.from (place_of ms) && does_fit (context doc m ms)

-- only discardable items stand from a place on
abbrev pub is_spent_at : Document → Place → Bool
is_spent_at doc at = is_spent (map (λ (flat_item : FlatItem). flat_item.item) (flat_items_at doc.blocks at [])) 0

-- a part of rule 2: behind the last column only discardable items are left
abbrev pub ends_spent : Document → List PageMove → Bool
ends_spent doc ms = is_spent_at doc (place_of ms)

-- a part of rule 8: each class has placed as many floats as it has
abbrev pub has_dealt_all : Document → List ℕ → Bool
has_dealt_all doc placed =
    list_all (λ (it : ℕ × List ℤ). entry placed it.0 == length it.1) (enumerate_from 0 (floats doc.blocks doc.style))

-- ---- the least column at fault

-- this column, where a test fails
abbrev pub unless : Bool → ℕ → Option ℕ
unless true n = None
unless false n = Some n

-- of the pages from the last to the first: each but the last has all columns, and none has none
abbrev pub underfilled : ℕ → List Page → Option ℕ
underfilled full [] = None
underfilled full (page ∷ pages) = option_or (underfilled full pages)
    (unless (nat_le 1 (length page.columns) && (length page.columns == full)) (length (columns_of pages) + 1))

-- rule 1, full pages: the first column of the first page at fault; the last page may lack columns, but not all
abbrev pub misfilled : ℕ → List Page → Option ℕ
misfilled full [] = None
misfilled full (page ∷ pages) = option_or (underfilled full pages)
    (unless (nat_le 1 (length page.columns) && nat_le (length page.columns) full) (length (columns_of pages) + 1))

-- of the columns from the last to the first, the number of the first that fails a test behind those before it
abbrev pub first_at_fault : (PageMove → List PageMove → Bool) → List PageMove → Option ℕ
first_at_fault keeps [] = None
first_at_fault keeps (m ∷ ms) = option_or (first_at_fault keeps ms) (unless (keeps m ms) (length ms + 1))

-- the column at which each rule is broken first, rule by rule; two are wider for a whole pagination than for its beginning
abbrev pub faults_with : Document → List Page → List PageMove → Option ℕ → Option ℕ → List (Option ℕ)
faults_with doc pages ms at_end left =
    -- 1 full pages
    misfilled doc.style.columns pages
    -- 2 chain of columns
    ∷ option_or (first_at_fault (is_chained doc) ms) at_end
    -- 3 shape of a column
    ∷ first_at_fault (λ m ms. is_well_formed (context doc m ms)) ms
    -- 4 tolerance
    ∷ first_at_fault (λ m ms. is_tolerable (context doc m ms)) ms
    -- 5 break inside
    ∷ first_at_fault (λ m ms. passes_breaks (context doc m ms)) ms
    -- 6 least text, float column height
    ∷ first_at_fault (λ m ms. has_room (context doc m ms)) ms
    -- 7 counts of areas
    ∷ first_at_fault (λ m ms. has_counts (context doc m ms) && has_wide_counts doc (next_column doc.style ms) m) ms
    -- 8 every float once
    ∷ option_or (first_at_fault (λ m ms. deals_floats doc (placed_of doc.style ms) m (context doc m ms)) ms) left
    -- 9 callout before float
    ∷ first_at_fault (λ m ms. has_callouts doc (placed_of doc.style ms) m) ms
    -- 10 distance of a float
    ∷ first_at_fault (is_near doc) ms
    -- 11 limit of notes
    ∷ first_at_fault (λ m ms. keeps_note_limits (context doc m ms)) ms
    -- 12 runs and spreads
    ∷ first_at_fault (λ m ms. has_run doc.style (next_run doc.style ms) m) ms
    -- 13 looseness
    ∷ first_at_fault (λ m ms. keeps_looseness (context doc m ms)) ms
    -- 14 barriers
    ∷ first_at_fault (λ m ms. keeps_barriers doc (placed_of doc.style ms) m) ms
    ∷ []

-- the galley's blocks and the style
abbrev pub document : GalleyValue → StyleValue → Document
document galley style = record { blocks = galley.blocks; style = style }

-- the same for a whole pagination: its end is spent, and all floats are placed
abbrev pub faults : Document → Pagination → List (Option ℕ)
faults doc plan =
    faults_with doc (reverse plan.pages) (columns plan)
    (unless (ends_spent doc (columns plan)) (length (columns plan)))
    (unless (has_dealt_all doc (placed_of doc.style (columns plan))) (length (columns plan)))

-- the first rule of the list with a column at fault, counted from this number
abbrev pub first_breach : ℕ → List (Option ℕ) → Option (ℕ × ℕ)
first_breach rule [] = None
first_breach rule (None ∷ rest) = first_breach (rule + 1) rest
first_breach rule (Some column ∷ rest) = Some (rule, column)

-- the least rule that is broken, and the least column at which it is
unfoldable pub breach : GalleyValue → StyleValue → Pagination → Option (ℕ × ℕ)
breach galley style plan = first_breach 1 (faults (document galley style) plan)

-- no rule is broken
pub record Legal (galley : GalleyValue) (style : StyleValue) (plan : Pagination) : Type 0 where
  pub unbroken : breach galley style plan ≡ None
