-- The walk as a space: states at the fronts of choices with what was passed, picks as moves.
use Rattle.std.specs.Prelude.{◌≡◌, ◌⊎◌, ℕ, ◌+◌, ◌≤◌, Bool, true, false, ◌==◌, ◌&&◌, not, if◌then◌else◌, List, [], ◌∷◌, length, reverse, Contains, Some, slice_get, ℤ, pos, ◌+ℤ◌}
use Rattle.std.specs.Ordering.{int_eq, nat_cmp}
use Rattle.pg_list.specs.declared.galley.Place.{Place}
use Rattle.pg_list.specs.declared.variants.Variant.{Variant}
use Rattle.pg_list.specs.Places.{place}
use Rattle.pg_notes.specs.declared.sums.NoteSum.{NoteSum}
use Rattle.pg_rules.specs.Room.{Document}
use Rattle.pg_sums.specs.declared.totals.Totals.{Totals}
use Rattle.pg_table.specs.Label.{Covered, IsLabel, RunOf}
use Rattle.pg_table.specs.Space.{IsRun, Meaning, Reached}
use Rattle.pg_table.specs.declared.table.Entry.{Entry}
use Rattle.law_walk.specs.Best.{IsAmong}
use Rattle.law_walk.specs.Candidates.{Candidate, is_no_greater}
use Rattle.pg_column.specs.Passed.{Passed, nothing}
use Rattle.law_walk.specs.Walk.{ends_along, first_front, first_items, past_stretch, picked_front, picked_stretch, variants_at}
use Rattle.pg_column.specs.Judged.{is_loose_enough}

-- before the front of a choice, or at the end
pub record WalkState : Type 0 where
  pub block : ℕ
  pub passed : Passed

-- the front and the sums; the notes are those of the front whatever was picked, and need not stand in the key
pub record WalkKey : Type 0 where
  pub block : ℕ
  pub totals : Totals

-- of a state
abbrev pub key_of : WalkState → WalkKey
key_of u = record { block = u.block; totals = u.passed.totals }

-- two truth values alike
abbrev pub same_bool : Bool → Bool → Bool
same_bool a b = if a then b else not b

-- the same sums
abbrev pub same_totals : Totals → Totals → Bool
same_totals a b =
    int_eq a.total b.total && (int_eq a.depth b.depth && (same_bool a.has_box b.has_box
    && (int_eq a.finite b.finite && (int_eq a.fil b.fil && (int_eq a.fill b.fill
    && (int_eq a.filll b.filll && int_eq a.shrink b.shrink))))))

-- the same notes, class by class
abbrev pub same_notes : List NoteSum → List NoteSum → Bool
same_notes [] [] = true
same_notes [] (y ∷ ys) = false
same_notes (x ∷ xs) [] = false
same_notes (x ∷ xs) (y ∷ ys) = (x.size == y.size) && (same_bool x.is_there y.is_there && same_notes xs ys)

-- the same front and sums
abbrev pub same_key : WalkKey → WalkKey → Bool
same_key a b = (a.block == b.block) && same_totals a.totals b.totals

-- the same sums and notes at the same front, and a bound that is no greater
abbrev pub is_no_worse : WalkState → WalkState → Bool
is_no_worse u v =
    same_key (key_of u) (key_of v)
    && (same_notes u.passed.notes v.passed.notes && is_no_greater u.passed.bound v.passed.bound)

-- the pick leads from the front through its variant and the single blocks behind to the next front, past no forced
-- break and none that is over in the greatest room
pub record Picks (doc : Document) (top : ℤ) (u : WalkState) (pick : ℕ) (v : WalkState) (cost : ℤ) : Type 0 where
  pub variant : Variant
  pub there : slice_get (variants_at doc.blocks u.block) pick ≡ Some variant
  pub loose : is_loose_enough doc.style variant ≡ true
  pub past : past_stretch doc top u.passed (picked_stretch doc.blocks u.block pick) ≡ Some v.passed
  pub leads : v.block ≡ picked_front doc.blocks u.block
  pub pays : cost ≡ pos variant.demerits

-- states at fronts as a space of the table: a pick leads from front to front at the demerits of its variant
abbrev pub walk_meaning : Document → ℤ → WalkState → Meaning WalkState ℕ WalkKey
walk_meaning doc top start = record {
  start = start;
  Own = λ u. u.block ≤ length doc.blocks;
  Follow = Picks doc top;
  key = key_of;
  rank = λ u. u.block;
  block = λ u. u.block;
  reach = λ u. length doc.blocks + 1;
  is_done = λ u. false;
  no_worse = is_no_worse;
  order = nat_cmp;
}

-- ---- from the labels of a filled table

-- each entry is the state and cost of a run, and each run is bettered by one of them
pub record HasLabels {S M K : Type 0} (sp : Meaning S M K) (es : List (Entry S M)) : Type 0 where
  pub labels : (e : Entry S M) → Contains es e → IsLabel sp es e
  pub covered : (r : Reached S M) → IsRun sp r → Covered sp es r

-- the end is along the stretch of a pick at a label's front
pub record IsFromLabel (doc : Document) (top : ℤ) (es : List (Entry WalkState ℕ)) (c : Candidate) : Type 0 where
  pub entry : Entry WalkState ℕ
  pub picks : List ℕ
  pub pick : ℕ
  pub variant : Variant
  pub listed : Contains es entry
  pub run : RunOf es entry picks
  pub there : slice_get (variants_at doc.blocks entry.state.block) pick ≡ Some variant
  pub loose : is_loose_enough doc.style variant ≡ true
  pub along : IsAmong c (ends_along doc top (reverse (pick ∷ picks)) (entry.cost +ℤ pos variant.demerits)
      (place (picked_front doc.blocks entry.state.block) 0 0) entry.state.passed
      (picked_stretch doc.blocks entry.state.block pick))

-- the ends along the first stretch
abbrev pub first_ends : Document → ℤ → Place → List Candidate
first_ends doc top from =
    ends_along doc top [] (pos 0) (place (first_front doc.blocks from) 0 0) nothing (first_items doc.blocks from)

-- the candidates are the ends along the first stretch, and those along the stretches of the labels' picks
pub record AreCollected (doc : Document) (top : ℤ) (from : Place) (es : List (Entry WalkState ℕ))
    (cs : List Candidate) : Type 0 where
  pub each : (c : Candidate) → IsAmong c cs → (IsAmong c (first_ends doc top from)) ⊎ (IsFromLabel doc top es c)
  pub first : (c : Candidate) → IsAmong c (first_ends doc top from) → IsAmong c cs
  pub labels : (c : Candidate) → IsFromLabel doc top es c → IsAmong c cs

-- the state behind the first stretch
pub record IsStart (doc : Document) (top : ℤ) (from : Place) (start : WalkState) : Type 0 where
  pub block : start.block ≡ first_front doc.blocks from
  pub past : past_stretch doc top nothing (first_items doc.blocks from) ≡ Some start.passed
