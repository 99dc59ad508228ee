-- The candidates along the picks of labels.
use Rattle.std.specs.Prelude.{◌⊎◌, ◌<◌, ◌^◌, nat_abs, ℕ, ◌+◌, if◌then◌else◌, List, [], ◌∷◌, ◌++◌, Contains, reverse, ℤ, pos, ◌+ℤ◌}
use Rattle.pg_list.specs.Places.{place}
use Rattle.pg_list.specs.declared.variants.Variant.{Variant}
use Rattle.pg_column.specs.Judged.{is_loose_enough}
use Rattle.pg_rules.specs.Room.{Document}
use Rattle.pg_hops.specs.declared.state.State.{State}
use Rattle.pg_table.specs.Label.{IsTable, RunOf}
use Rattle.pg_table.specs.declared.table.Entry.{Entry}
use Rattle.law_walk.specs.Best.{IsAmong}
use Rattle.law_walk.specs.Candidates.{Candidate}
use Rattle.law_walk.specs.Space.{WalkState}
use Rattle.law_walk.specs.Walk.{ends_along, picked_front, picked_stretch, variants_at}
use Rattle.pg_walk.specs.Meaning.{IsOwn, space_meaning, state_of}

-- the ends along the stretch of a pick that is loose enough, behind these picks at this price
abbrev pub pick_ends : Document → ℤ → WalkState → ℤ → List ℕ → ℕ → Variant → List Candidate
pick_ends doc top u cost picks pick variant =
    if is_loose_enough doc.style variant
    then ends_along doc top (picks ++ pick ∷ []) (cost +ℤ pos variant.demerits)
    (place (picked_front doc.blocks u.block) 0 0) u.passed (picked_stretch doc.blocks u.block pick)
    else []

-- those of the picks from one on
abbrev pub ends_from : Document → ℤ → WalkState → ℤ → List ℕ → ℕ → List Variant → List Candidate
ends_from doc top u cost picks pick [] = []
ends_from doc top u cost picks pick (variant ∷ variants) =
    pick_ends doc top u cost picks pick variant ++ ends_from doc top u cost picks (pick + 1) variants

-- those of a label whose run has these picks
abbrev pub label_ends : Document → ℤ → Entry State ℕ → List ℕ → List Candidate
label_ends doc top e picks =
    ends_from doc top (state_of e.state) e.cost picks 0 (variants_at doc.blocks e.state.block)

-- the end is one of a label among these
pub record IsOfLabels (doc : Document) (top : ℤ) (es some : List (Entry State ℕ)) (c : Candidate) : Type 0 where
  pub entry : Entry State ℕ
  pub picks : List ℕ
  pub listed : Contains some entry
  pub run : RunOf es entry picks
  pub among : IsAmong c (label_ends doc top entry (reverse picks))

-- new has what old had and the ends of some labels
pub record HasEnds (doc : Document) (top : ℤ) (es some : List (Entry State ℕ)) (old new : List Candidate) : Type 0 where
  pub each : (c : Candidate) → IsAmong c new → IsAmong c old ⊎ IsOfLabels doc top es some c
  pub kept : (c : Candidate) → IsAmong c old → IsAmong c new
  pub labels : (c : Candidate) → IsOfLabels doc top es some c → IsAmong c new

-- new has what old had and the ends of all labels of a filled table
pub record Collects (doc : Document) (top : ℤ) (start : State) (old new : List Candidate) : Type 0 where
  pub es : List (Entry State ℕ)
  pub table : IsTable (space_meaning doc top start) es
  pub ends : HasEnds doc top es es old new

-- the states of labels are own states, and their costs small
pub record AreSmall (doc : Document) (top : ℤ) (es : List (Entry State ℕ)) : Type 0 where
  pub own : (e : Entry State ℕ) → Contains es e → IsOwn doc top e.state
  pub small : (e : Entry State ℕ) → Contains es e → nat_abs e.cost < 2 ^ 62
