-- What is known of candidates while they are gone through one after another.
use Rattle.std.specs.Prelude.{◌≡◌, ◌<◌, ℕ, true, List, Option, Some, IfSome, ℤ, slice_get}
use Rattle.std.specs.List.{AllByRecursion}
use Rattle.pg_rules.specs.Room.{Document}
use Rattle.pg_column.specs.declared.cost.TextRoom.{TextRoom}
use Rattle.law_walk.specs.Best.{IsAmong}
use Rattle.law_walk.specs.Candidates.{Candidate, keeps_text}
use Rattle.pg_candidates.specs.Nears.{IsNearIn, IsWithin, IsWorst, NearValue, Serves, kind_at, needed_in}
use Rattle.pg_candidates.specs.declared.until.First.{First}

-- one of the candidates serves for this one
pub record HasServer (doc : Document) (room : TextRoom) (cs : List Candidate) (c : Candidate) : Type 0 where
  pub server : Candidate
  pub listed : IsAmong server cs
  pub serves : Serves doc room server c

-- for each of the candidates at these indices one that is needed serves
pub record AreServed (doc : Document) (most : ℤ) (cs : List Candidate) (seen : List ℕ) (nears : List NearValue) : Type 0 where
  pub right : AllByRecursion (IsNearIn doc most cs) nears
  pub served : (i : ℕ) (c : Candidate) (room : TextRoom) → IsWithin most room → IsAmong i seen →
      slice_get cs i ≡ Some c → keeps_text doc room c ≡ true → HasServer doc room (needed_in room.size cs nears) c

-- so it is for all that stand before an index
pub record AreServedBefore (doc : Document) (most : ℤ) (cs : List Candidate) (n : ℕ) (nears : List NearValue) : Type 0 where
  pub seen : List ℕ
  pub all : (i : ℕ) → i < n → IsAmong i seen
  pub are : AreServed doc most cs seen nears

-- the first candidate of a place, with a size of a room in which its badness is the worst; it is needed in each room where
-- it keeps the rules on its text
pub record IsLeading (doc : Document) (most : ℤ) (cs : List Candidate) (nears : List NearValue) (first : First) : Type 0 where
  pub candidate : Candidate
  pub there : slice_get cs first.at ≡ Some candidate
  pub kind : first.kind ≡ kind_at doc.blocks candidate.to
  pub worst : IfSome first.worst (IsWorst doc.style most candidate)
  pub needed : (room : TextRoom) → IsWithin most room → keeps_text doc room candidate ≡ true →
      IsAmong candidate (needed_in room.size cs nears)

-- both of the candidates gone through so far
pub record AreSeen (doc : Document) (most : ℤ) (cs : List Candidate) (seen : List ℕ) (first : Option First)
    (nears : List NearValue) : Type 0 where
  pub served : AreServed doc most cs seen nears
  pub leading : IfSome first (IsLeading doc most cs nears)
