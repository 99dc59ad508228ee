-- The ends of columns of text from a place, room by room.
use Rattle.std.specs.Prelude.{◌≡◌, ◌&&◌, ◌≤ℤ◌, ◌+ℤ◌, ◌-ℤ◌, ℕ, Bool, true, false, if◌then◌else◌, List, [], ◌∷◌, ◌++◌, map, take, drop, Option, Some, None, IfSome, ℤ}
use Rattle.std.specs.List.{AllByRecursion}
use Rattle.std.specs.Option.{option_map_or}
use Rattle.std.specs.Ordering.{int_eq}
use Rattle.pg_list.specs.declared.galley.Place.{Place}
use Rattle.pg_column.specs.Numbers.{most_room}
use Rattle.pg_column.specs.Passed.{fits}
use Rattle.pg_column.specs.declared.cost.TextRoom.{TextRoom}
use Rattle.pg_column.specs.declared.end.End.{End}
use Rattle.pg_rules.specs.Floats.{gap_stretch}
use Rattle.pg_rules.specs.Reach.{greatest_areas}
use Rattle.pg_rules.specs.Room.{Document}
use Rattle.pg_style.specs.Values.{StyleValue}
use Rattle.law_walk.specs.Best.{AreBest}
use Rattle.law_walk.specs.Candidates.{AreCandidates, Candidate, has_text, text_ends}
use Rattle.law_walk.specs.Reached.{tallest}
use Rattle.pg_candidates.specs.Nears.{AreNear, IsWithin, NearsValue}
use Rattle.pg_candidates.specs.RoomEnds.{ends_of}
use Rattle.pg_candidates.specs.declared.room_end.RoomEnd.{RoomEnd}
use Rattle.pg_sources.specs.Document.{before_of}
use Rattle.pg_walk.specs.Fronts.{AreApart, IsFrontWalkOf}
use Rattle.pg_walk.specs.Moved.{moved_candidate}
use Rattle.pg_walk.specs.Straight.{straight_candidates}
use Rattle.pg_rooms.specs.Calls.{AreCalls}
use Rattle.pg_rooms.specs.declared.calls.Call.{Call}
use Rattle.pg_rooms.specs.declared.grouping.Group.{Group}
use Rattle.pg_rooms.specs.declared.behind.Behind.{Behind}
use Rattle.pg_rooms.specs.declared.behind.FrontEnds.{FrontEnds}
use Rattle.pg_rooms.specs.declared.place_ends.PlaceEnds.{PlaceEnds}
use Rattle.pg_rooms.specs.declared.place_ends.RoomEnds.{RoomEnds}

-- a room of a page: not above that of the tallest run, nor beside gaps that give more than those of full areas
pub record IsPageRoom (style : StyleValue) (room : TextRoom) : Type 0 where
  pub low : most_room room ≤ℤ tallest style
  pub within : IsWithin (greatest_areas gap_stretch style) room

-- groups of ends that follow one another: before each end of a group, and before the last barrier in front of it, its
-- floats of each class are called
abbrev pub AreGroups : Document → List Group → List RoomEnd → Type 0
AreGroups doc [] ends = ends ≡ []
AreGroups doc (group ∷ groups) ends =
    AllByRecursion (λ (end : RoomEnd). group.before ≡ before_of doc end.to) (take group.count ends)
    × AreGroups doc groups (drop group.count ends)

-- what no room changes of these candidates, for the rooms of all pages
abbrev pub IsNearOnPages : Document → List Candidate → NearsValue → Type 0
IsNearOnPages doc cs near = AreNear doc (greatest_areas gap_stretch doc.style) cs near

-- the best ends of these candidates in a room of a page or in what one leaves, with picks by number from a list, and their
-- groups
pub record AreRoomEnds (doc : Document) (cs : List Candidate) (ps : List (List ℕ)) (it : RoomEnds) : Type 0 where
  pub page : IsPageRoom doc.style it.room
  pub best : AreBest (text_ends doc it.room cs) (ends_of ps it.ends.items)
  pub groups : AreGroups doc it.groups.items it.ends.items

-- what is kept behind a front: the walk to these candidates, and the ends in some rooms
pub record AreFrontEndsOf (doc : Document) (cs : List Candidate) (it : FrontEnds) : Type 0 where
  pub walk : IsFrontWalkOf doc cs it.walk
  pub rooms : AllByRecursion (AreRoomEnds doc cs it.walk.near.picks) it.rooms.items

-- to some candidates
pub record AreFrontEnds (doc : Document) (it : FrontEnds) : Type 0 where
  pub candidates : List Candidate
  pub are : AreFrontEndsOf doc candidates it

-- these candidates, as columns from a place come there
abbrev pub behind_candidates : Option Behind → List Candidate → List Candidate
behind_candidates None cs = []
behind_candidates (Some it) cs = map (moved_candidate it.by it.bound) cs

-- the same walk behind a front, to which columns come alike
pub record IsSameBehind (a b : Behind) : Type 0 where
  pub walk : b.ends.walk ≡ a.ends.walk
  pub by : b.by ≡ a.by
  pub bound : b.bound ≡ a.bound

-- candidates from a place up to the first choice: those that are listed with what no room changes of each, or, where the ends
-- are found room by room, all along the first stretch, and no picks are listed
abbrev pub AreFirst : Document → Place → List Candidate → Bool → NearsValue → Type 0
AreFirst doc from cs true near = (cs ≡ straight_candidates doc from) × (near.picks ≡ [])
AreFirst doc from cs false near = IsNearOnPages doc cs near

-- what a place keeps: candidates that suffice, those behind the front last, the ends in some rooms, and what is called
-- before them
pub record ArePlaceEnds (doc : Document) (from : Place) (it : PlaceEnds) : Type 0 where
  pub first : List Candidate
  pub later : List Candidate
  pub are_first : AreFirst doc from first it.is_straight it.walk.near
  pub candidates : AreCandidates doc from (tallest doc.style) (first ++ behind_candidates it.behind later)
  pub apart : AreApart first (behind_candidates it.behind later)
  pub rooms : AllByRecursion (AreRoomEnds doc first it.walk.near.picks) it.rooms.items
  pub behind : IfSome it.behind (λ (behind : Behind). AreFrontEndsOf doc later behind.ends)
  pub calls : AreCalls doc it.calls.items.items

-- the same size, beside gaps that give the same
abbrev pub is_same_room : TextRoom → TextRoom → Bool
is_same_room a b =
    (int_eq a.size b.size && int_eq a.give.stretch b.give.stretch) && int_eq a.give.shrink b.give.shrink

-- a room is among these
abbrev pub has_room : List RoomEnds → TextRoom → Bool
has_room [] room = false
has_room (first ∷ rooms) room = if is_same_room first.room room then true else has_room rooms room

-- the ends in one more room are kept; what was right of rooms and of calls is still right
pub record AddsRoom (doc : Document) (near : NearsValue) (room : TextRoom) (old new : List RoomEnds)
    (before after : List Call) : Type 0 where
  pub has : has_room new room ≡ true
  pub keeps : (other : TextRoom) → has_room old other ≡ true → has_room new other ≡ true
  pub right : (cs : List Candidate) → IsNearOnPages doc cs near → IsPageRoom doc.style room → AreCalls doc before →
      AllByRecursion (AreRoomEnds doc cs near.picks) old → AllByRecursion (AreRoomEnds doc cs near.picks) new
  pub calls : AreCalls doc before → AreCalls doc after

-- the ends in a room, where they are kept
abbrev pub ends_in : List RoomEnds → TextRoom → List RoomEnd
ends_in [] room = []
ends_in (first ∷ rooms) room = if is_same_room first.room room then first.ends.items else ends_in rooms room

-- and their groups
abbrev pub groups_in : List RoomEnds → TextRoom → List Group
groups_in [] room = []
groups_in (first ∷ rooms) room = if is_same_room first.room room then first.groups.items else groups_in rooms room

-- ---- behind a front

-- what a room leaves behind the front, if a column comes there in it
abbrev pub room_behind : Behind → TextRoom → Option TextRoom
room_behind it room =
    if fits it.bound (most_room room) then Some (record { size = room.size -ℤ it.by; give = room.give }) else None

-- what a room leaves is among the rooms that were asked for behind a front, if something is kept there
abbrev pub has_behind : Option Behind → TextRoom → Bool
has_behind None room = true
has_behind (Some it) room = option_map_or (has_room it.ends.rooms.items) (room_behind it room) true

-- the end with so much more height before it
abbrev pub higher_end : ℤ → End → End
higher_end by end =
    record end { cost = record end.cost { goal = end.cost.goal +ℤ by; total = end.cost.total +ℤ by } }

-- the ends behind the front in what a room leaves there
abbrev pub ends_left : Behind → TextRoom → List End
ends_left it left = ends_of it.ends.walk.near.picks (ends_in it.ends.rooms.items left)

-- those in the room
abbrev pub ends_behind : Option Behind → TextRoom → List End
ends_behind None room = []
ends_behind (Some it) room =
    option_map_or (λ (left : TextRoom). map (higher_end it.by) (ends_left it left)) (room_behind it room) []

-- all ends in a room: those along the first stretch, and those behind the front; none where the room is below the least
abbrev pub all_ends : StyleValue → PlaceEnds → TextRoom → List End
all_ends style it room =
    if has_text style room
    then ends_of it.walk.near.picks (ends_in it.rooms.items room) ++ ends_behind it.behind room
    else []
