-- The laws of the walk, each in the words of its contract.
use Rattle.std.specs.Prelude.{◌⊎◌, ◌+◌, ◌≡◌, ◌≤◌, ◌≤ℤ◌, ℤ, ℕ, Bool, true, List, [], ◌∷◌, length, None}
use Rattle.pg_list.specs.declared.galley.Place.{Place}
use Rattle.pg_rules.specs.IsState.{IsPlace}
use Rattle.pg_rules.specs.Reach.{IsReach}
use Rattle.pg_rules.specs.Room.{Document}
use Rattle.pg_table.specs.Space.{Lawful}
use Rattle.pg_table.specs.declared.table.Entry.{Entry}
use Rattle.pg_column.specs.Ends.{AreEnds}
use Rattle.pg_column.specs.declared.end.End.{End}
use Rattle.law_walk.specs.Best.{AreBest, IsAmong}
use Rattle.law_walk.specs.Candidates.{AreCandidates, Candidate, CoversIn, ends_in_each, kept_ends}
use Rattle.pg_column.specs.Passed.{nothing}
use Rattle.pg_column.specs.Numbers.{most_room}
use Rattle.pg_column.specs.declared.cost.TextRoom.{TextRoom}
use Rattle.law_walk.specs.Reached.{IsGreatest, first_reach, quiet, reach_of, tallest}
use Rattle.law_walk.specs.Space.{AreCollected, HasLabels, IsStart, WalkKey, WalkState, first_ends, walk_meaning}
use Rattle.law_walk.specs.Walk.{candidates_from, first_front, first_items, past_stretch, variants_at}

-- of candidates that suffice up to a greatest room the best are the ends in each room up to it
abbrev pub CandidatesGiveEnds : Document → Type 0
CandidatesGiveEnds doc = (from : Place) (top : ℤ) (room : TextRoom) (cs : List Candidate) (ends : List End) →
    most_room room ≤ℤ top →
    AreCandidates doc from top cs → AreBest (kept_ends doc room cs) ends → AreEnds doc from room ends

-- a list of ends for each room
abbrev pub AreEndsInEach : Document → Place → List TextRoom → List (List End) → Type 0
AreEndsInEach doc from [] [] = Unit {0}
AreEndsInEach doc from (room ∷ rooms) (ends ∷ lists) = AreEnds doc from room ends ×
    AreEndsInEach doc from rooms lists
AreEndsInEach doc from _ _ = ⊥

-- no room is above the greatest one
abbrev pub AreUpTo : ℤ → List TextRoom → Type 0
AreUpTo top [] = Unit {0}
AreUpTo top (room ∷ rooms) = (most_room room ≤ℤ top) × AreUpTo top rooms

-- one list of candidates serves each of these rooms
abbrev pub CandidatesServeRooms : Document → Type 0
CandidatesServeRooms doc = (from : Place) (top : ℤ) (rooms : List TextRoom) (cs : List Candidate) → AreUpTo top rooms →
    AreCandidates doc from top cs → AreEndsInEach doc from rooms (ends_in_each doc rooms cs)

-- fewer candidates that cover the others suffice too
abbrev pub FewerSuffice : Document → Type 0
FewerSuffice doc = (from : Place) (top : ℤ) (cs fewer : List Candidate) → AreCandidates doc from top cs →
    ((c : Candidate) → IsAmong c fewer → IsAmong c cs) → ((c : Candidate) → IsAmong c cs → CoversIn fewer c) →
    AreCandidates doc from top fewer

-- the walk by all picks finds candidates that suffice
abbrev pub WalkFindsCandidates : Document → Type 0
WalkFindsCandidates doc = (from : Place) (top : ℤ) → IsPlace doc.blocks from →
    AreCandidates doc from top (candidates_from doc top from)

-- the walk is a space, under any equality of its keys that decides
abbrev pub WalkIsSpace : Document → Type 0
WalkIsSpace doc = (top : ℤ) (start : WalkState) → start.block ≤ length doc.blocks →
    (eq : WalkKey → WalkKey → Bool) → ((a b : WalkKey) → eq a b ≡ true → a ≡ b) → ((a : WalkKey) → eq a a ≡ true) →
    Lawful eq (walk_meaning doc top start)

-- the ends along the stretches of the labels of a filled table suffice
abbrev pub LabelsSuffice : Document → Type 0
LabelsSuffice doc = (from : Place) (top : ℤ) (start : WalkState) (es : List (Entry WalkState ℕ)) (cs : List Candidate) →
    IsPlace doc.blocks from → IsStart doc top from start → HasLabels (walk_meaning doc top start) es →
    AreCollected doc top from es cs → AreCandidates doc from top cs

-- so do the ends along the first stretch alone, where it is not passed or no choice stands behind it
abbrev pub StretchSuffices : Document → Type 0
StretchSuffices doc = (from : Place) (top : ℤ) → IsPlace doc.blocks from →
    (past_stretch doc top nothing (first_items doc.blocks from) ≡ None)
    ⊎ (variants_at doc.blocks (first_front doc.blocks from) ≡ []) → AreCandidates doc from top (first_ends doc top from)

-- the walk over all picks in the tallest room tells the reach of each place
abbrev pub WalkTellsReach : Document → Type 0
WalkTellsReach doc = (from : Place) → IsPlace doc.blocks from → IsReach doc from (reach_of doc from)

-- so do the labels of a filled table of the walk at the quiet document
abbrev pub LabelsTellReach : Document → Type 0
LabelsTellReach doc = (from : Place) (start : WalkState) (es : List (Entry WalkState ℕ)) (n : ℕ) →
    IsPlace doc.blocks from →
    IsStart (quiet doc) (tallest doc.style) from start →
    HasLabels (walk_meaning (quiet doc) (tallest doc.style) start) es →
    IsGreatest (quiet doc) (tallest doc.style) from es n → IsReach doc from (n + 1)

-- so does the first stretch alone, where it is not passed or no choice stands behind it
abbrev pub StretchTellsReach : Document → Type 0
StretchTellsReach doc = (from : Place) → IsPlace doc.blocks from →
    (past_stretch (quiet doc) (tallest doc.style) nothing (first_items doc.blocks from) ≡ None)
    ⊎ (variants_at doc.blocks (first_front doc.blocks from) ≡ []) →
    IsReach doc from (first_reach (quiet doc) (tallest doc.style) from + 1)
