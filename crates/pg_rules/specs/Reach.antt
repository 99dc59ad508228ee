-- How far a column that starts at a place may go, and what an edit touches.
use Rattle.std.specs.Prelude.{◌≡◌, true, ℕ, ◌+◌, ◌≤◌, ◌==◌, ◌&&◌, min, Bool, List, [], ◌∷◌, length, map, take, Some, ℤ, ◌+ℤ◌, pos}
use Rattle.std.specs.Int.{int_max}
use Rattle.pg_list.specs.declared.item.Item.{Item}
use Rattle.pg_list.specs.declared.blocks.Block.{Block}
use Rattle.pg_list.specs.declared.galley.Place.{Place}
use Rattle.pg_list.specs.declared.galley.Edit.{Edit}
use Rattle.pg_list.specs.Places.{tail, spliced}
use Rattle.pg_style.specs.Values.{StyleValue}
use Rattle.pg_style.specs.declared.style.Class.{Class}
use Rattle.pg_style.specs.declared.style.Gap.{Gap}
use Rattle.pg_style.specs.declared.style.Kind.{Kind}
use Rattle.pg_style.specs.declared.style.Kind.TheVariants.{Note, Float}
use Rattle.pg_style.specs.declared.style.Run.{Run}
use Rattle.pg_list.specs.Badness.{is_over}
use Rattle.pg_list.specs.Break.{passes_between}
use Rattle.pg_list.specs.Flat.{FlatItem, flat_items_at, steps_to, fronts, picked_variants, blocks_at}
use Rattle.pg_list.specs.Totals.{trimmed, total, shrink}
use Rattle.pg_list.specs.Whole.{whole_sum_by}
use Rattle.pg_rules.specs.Floats.{area_give, gap_shrink}
use Rattle.pg_rules.specs.Room.{Document}

-- the most that a run adds
abbrev pub greatest_extra : List Run → ℤ
greatest_extra [] = pos 0
greatest_extra (run ∷ []) = run.extra
greatest_extra (run ∷ next ∷ runs) = int_max run.extra (greatest_extra (next ∷ runs))

-- what the skip of a class of notes gives
abbrev pub skip_give : (Gap → ℤ) → Kind → ℤ
skip_give part (Note skip limit) = part skip
skip_give part (Float area distance) = pos 0

-- the most that the gaps of two full areas give
abbrev pub greatest_areas : (Gap → ℤ) → StyleValue → ℤ
greatest_areas part style = area_give part style.top style.top.count +ℤ area_give part style.bottom style.bottom.count

-- the most that the skips of all note classes give
abbrev pub greatest_skips : (Gap → ℤ) → StyleValue → ℤ
greatest_skips part style = whole_sum_by (λ (class : Class). skip_give part class.kind) style.classes

-- the most that the gaps around a text give
abbrev pub greatest_give : (Gap → ℤ) → StyleValue → ℤ
greatest_give part style = greatest_areas part style +ℤ greatest_skips part style

-- over in the tallest room, without notes, where the gaps give all that they can
abbrev pub is_over_at_most : StyleValue → List Item → ℕ → Bool
is_over_at_most style items k =
    is_over (total style.topskip style.maxdepth (trimmed (take k items))) (shrink (trimmed (take k items)))
    ((style.height +ℤ greatest_extra style.runs) +ℤ greatest_give gap_shrink style)

-- some picks lead from the one place to the other, past no break that is forced or over
pub record Reaches (doc : Document) (from to : Place) : Type 0 where
  pub picks : List ℕ
  pub size : ℕ
  pub leads : steps_to doc.blocks (flat_items_at doc.blocks from picks) to ≡ Some size
  pub picked : ((fronts (flat_items_at doc.blocks from picks) size == length picks)
      && (length (picked_variants (blocks_at doc.blocks from) picks) == length picks)) ≡ true
  pub passes :
      passes_between (map (λ (it : FlatItem). it.item) (flat_items_at doc.blocks from picks))
      (is_over_at_most doc.style (map (λ (it : FlatItem). it.item) (flat_items_at doc.blocks from picks))) size ≡ true

-- one more than the greatest block of a place that is reached
pub record IsReach (doc : Document) (from : Place) (reach : ℕ) : Type 0 where
  pub last : Place
  pub reached : Reaches doc from last
  pub one_more : reach ≡ last.block + 1
  pub greatest : (to : Place) → Reaches doc from to → to.block + 1 ≤ reach

-- the least block that an edit touches: its own, or the one behind the last box or rule, before or after it
abbrev pub touched : List Block → Edit → ℕ
touched blocks edit = min edit.at (min (tail blocks) (tail (spliced blocks edit)))

-- the first t blocks are equal, and both galleys have boxes from there on
pub record AgreeBelow (t : ℕ) (a b : List Block) : Type 0 where
  pub same : take t a ≡ take t b
  pub first_tail : t ≤ tail a
  pub second_tail : t ≤ tail b
