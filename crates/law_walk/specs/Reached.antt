-- How far columns from a place may go: the walk without notes, over all picks, in the tallest room.
use Rattle.std.specs.Prelude.{◌≡◌, ◌≤◌, ◌⊎◌, Contains, ℕ, zero, suc, ◌+◌, max, if◌then◌else◌, List, [], ◌∷◌, length, Some, slice_get, ℤ, ◌+ℤ◌}
use Rattle.std.specs.Option.{option_map_or}
use Rattle.pg_list.specs.declared.galley.Place.{Place}
use Rattle.pg_list.specs.declared.variants.Variant.{Variant}
use Rattle.pg_list.specs.Flat.{FlatItem}
use Rattle.pg_rules.specs.Floats.{gap_shrink}
use Rattle.pg_rules.specs.Reach.{greatest_extra, greatest_give}
use Rattle.pg_rules.specs.Room.{Document}
use Rattle.pg_style.specs.Values.{StyleValue}
use Rattle.pg_column.specs.Passed.{Passed, fits, nothing, pass_item}
use Rattle.pg_table.specs.declared.table.Entry.{Entry}
use Rattle.law_walk.specs.Space.{WalkState}
use Rattle.law_walk.specs.Walk.{first_front, first_items, past_stretch, picked_front, picked_stretch, variants_at}

-- no notes, and each variant may be picked
abbrev pub quiet : Document → Document
quiet doc = record { blocks = doc.blocks; style = record doc.style { classes = []; max_looseness = 100 } }

-- the room of the tallest run, where all gaps around a text are shrunk
abbrev pub tallest : StyleValue → ℤ
tallest style = (style.height +ℤ greatest_extra style.runs) +ℤ greatest_give gap_shrink style

-- the greatest block that is reached along a stretch with the front b behind it
abbrev pub reach_along : Document → ℤ → ℕ → Passed → List FlatItem → ℕ
reach_along doc top b p [] = b
reach_along doc top b p (x ∷ xs) =
    max x.place.block
    (option_map_or (λ (q : Passed). if fits q.bound top then reach_along doc top b q xs else 0) (pass_item doc p x) 0)

-- the greatest of these numbers from a on, n of them, and b
abbrev pub greatest_from : (ℕ → ℕ) → ℕ → ℕ → ℕ → ℕ
greatest_from f b a zero = b
greatest_from f b a (suc n) = max (f a) (greatest_from f b (a + 1) n)

-- the greatest block that is reached from the front of a choice
abbrev pub reach_from : ℕ → Document → ℤ → ℕ → Passed → ℕ
reach_from zero doc top b p = b
reach_from (suc fuel) doc top b p =
    greatest_from
    (λ (pick : ℕ). option_map_or
    (λ (v : Variant). max (reach_along doc top (picked_front doc.blocks b) p (picked_stretch doc.blocks b pick))
    (option_map_or (λ (q : Passed). reach_from fuel doc top (picked_front doc.blocks b) q)
    (past_stretch doc top p (picked_stretch doc.blocks b pick)) 0))
    (slice_get (variants_at doc.blocks b) pick) b)
    b 0 (length (variants_at doc.blocks b))

-- the greatest block that is reached from a place
abbrev pub greatest_block : Document → ℤ → Place → ℕ
greatest_block doc top from =
    max (reach_along doc top (first_front doc.blocks from) nothing (first_items doc.blocks from))
    (option_map_or (λ (p : Passed). reach_from (length doc.blocks) doc top (first_front doc.blocks from) p)
    (past_stretch doc top nothing (first_items doc.blocks from)) 0)

-- one more than the greatest block that is reached from a place
unfoldable pub reach_of : Document → Place → ℕ
reach_of doc from = greatest_block (quiet doc) (tallest doc.style) from + 1

-- ---- from the labels of a filled table of the walk at the quiet document

-- the greatest block along the stretch of a pick at a label's front
pub record IsAlongLabel (doc : Document) (top : ℤ) (es : List (Entry WalkState ℕ)) (n : ℕ) : Type 0 where
  pub entry : Entry WalkState ℕ
  pub pick : ℕ
  pub variant : Variant
  pub listed : Contains es entry
  pub there : slice_get (variants_at doc.blocks entry.state.block) pick ≡ Some variant
  pub is : n ≡ reach_along doc top (picked_front doc.blocks entry.state.block) entry.state.passed
      (picked_stretch doc.blocks entry.state.block pick)

-- the greatest block along the first stretch
abbrev pub first_reach : Document → ℤ → Place → ℕ
first_reach doc top from = reach_along doc top (first_front doc.blocks from) nothing (first_items doc.blocks from)

-- the greatest along the first stretch and along those of the labels' picks
pub record IsGreatest (doc : Document) (top : ℤ) (from : Place) (es : List (Entry WalkState ℕ)) (n : ℕ) : Type 0 where
  pub one : (n ≡ first_reach doc top from) ⊎ IsAlongLabel doc top es n
  pub first : first_reach doc top from ≤ n
  pub labels : (m : ℕ) → IsAlongLabel doc top es m → m ≤ n
