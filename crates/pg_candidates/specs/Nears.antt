-- What is worked out once of candidates for several rooms.
use Rattle.std.specs.Prelude.{◌≡◌, ◌<◌, ◌^◌, ◌≤◌, ◌≤ℤ◌, ◌<ℤ◌, ◌+ℤ◌, ◌-ℤ◌, ◌&&◌, ℕ, Bool, true, false, if◌then◌else◌, not, List, [], ◌∷◌, flat_map, map, Option, Some, None, IfSome, ℤ, pos, int_le, int_lt, nat_abs, slice_get, unwrap_or}
use Rattle.std.specs.List.{AllByRecursion}
use Rattle.std.specs.declared.cmp.Ordering.TheVariants.{Equal}
use Rattle.pg_list.specs.declared.blocks.Block.{Block}
use Rattle.pg_list.specs.declared.galley.Place.{Place}
use Rattle.pg_breaks.specs.Near.{place_forced, place_penalty, place_spent}
use Rattle.pg_column.specs.Numbers.{cost_for, most_room}
use Rattle.pg_column.specs.Passed.{fits}
use Rattle.pg_column.specs.declared.cost.TextCost.{TextCost}
use Rattle.pg_column.specs.declared.cost.TextRoom.{TextRoom}
use Rattle.pg_notes.specs.NotesValue.{heights, skips}
use Rattle.pg_column.specs.declared.end.End.{End}
use Rattle.pg_rules.specs.Floats.{gap_stretch}
use Rattle.pg_rules.specs.Reach.{greatest_areas}
use Rattle.pg_rules.specs.Room.{Document}
use Rattle.pg_style.specs.Values.{StyleValue}
use Rattle.pg_style.specs.declared.style.Give.{Give}
use Rattle.pg_sums.specs.Step.{badness_by}
use Rattle.pg_sums.specs.declared.totals.Totals.{Totals}
use Rattle.law_walk.specs.Best.{IsAmong, IsUnder, end_cmp}
use Rattle.law_walk.specs.Candidates.{AreCandidates, Candidate, end_in, is_over_in, keeps_text, text_ends}
use Rattle.law_walk.specs.Reached.{tallest}
use Rattle.pg_candidates.specs.declared.kind.EndKind.{EndKind}

-- ---- what no room changes

-- what callers see of it: which candidate it is of, where its end is, the sums, the height of the notes of what was passed
-- and what their skips give, the demerits of its picks, what its end is, the room from which on that end is not needed, if
-- there is one, the least room for a column to it where the gaps of the areas are shrunk, and the numbers of the end at a
-- goal at which its badness is the worst, if one was found
pub record NearValue : Type 0 where
  pub at : ℕ
  pub to : Place
  pub totals : Totals
  pub notes : ℤ
  pub give : Give
  pub pick_demerits : ℤ
  pub kind : EndKind
  pub until : Option ℤ
  pub least : ℤ
  pub worst : Option TextCost

-- notes and skips that can be
pub record IsWellKept (notes : ℤ) (given : Give) : Type 0 where
  pub small : nat_abs notes < 2 ^ 51
  pub stretch : nat_abs given.stretch ≤ 2 ^ 34
  pub shrink : nat_abs given.shrink ≤ 2 ^ 34

-- the picks of candidates, and what no room changes of each
pub record NearsValue : Type 0 where
  pub picks : List (List ℕ)
  pub nears : List NearValue

-- those of candidates
abbrev pub all_picks : List Candidate → List (List ℕ)
all_picks cs = map (λ (c : Candidate). c.picks) cs

-- by its index these tell the picks of each candidate, where an index behind the last tells none
abbrev pub ArePicks : List Candidate → List (List ℕ) → Type 0
ArePicks cs ps = (i : ℕ) (c : Candidate) → slice_get cs i ≡ Some c → unwrap_or (slice_get ps i) [] ≡ c.picks

-- the gaps of a room's areas are stretched by no more than this, and shrunk by no less than 0
pub record IsWithin (most : ℤ) (room : TextRoom) : Type 0 where
  pub stretch : room.give.stretch ≤ℤ most
  pub shrink : pos 0 ≤ℤ room.give.shrink

-- the penalty of the break at a place, or 0 where there is none, and whether that is forced and spent
abbrev pub kind_at : List Block → Place → EndKind
kind_at blocks at = record {
  penalty = unwrap_or (place_penalty blocks at) (pos 0);
  is_forced = place_forced blocks at;
  is_spent = place_spent blocks at;
}

-- in a room what was passed is not over, and it is not below what that needs
abbrev pub is_room_for : Document → TextRoom → Candidate → Bool
is_room_for doc room c = not (is_over_in doc.style room c.passed) && fits c.passed.bound (most_room room)

-- so it is where the gaps of the areas leave this much or more, and in no other room
abbrev pub IsLeastRoom : Document → Candidate → ℤ → Type 0
IsLeastRoom doc c least = (room : TextRoom) → is_room_for doc room c ≡ int_le least (most_room room)

-- what fills a goal at most beside the gaps of areas that give no more than this
abbrev pub most_stretch : StyleValue → ℤ → Totals → Give → ℤ
most_stretch style most totals given = unwrap_or style.ragged (totals.finite +ℤ (most +ℤ given.stretch))

-- sums are so far below a goal that their badness is the worst, whatever such gaps give
pub record IsWorstAt (style : StyleValue) (most : ℤ) (totals : Totals) (given : Give) (goal : ℤ) : Type 0 where
  pub short : totals.total <ℤ goal
  pub bad : badness_by false goal (most_stretch style most totals given) (pos 0) totals ≡ 10000

-- so they are below a goal that is below 2^52 in size
pub record IsWorstGoal (style : StyleValue) (most : ℤ) (totals : Totals) (given : Give) (goal : ℤ) : Type 0 where
  pub size : nat_abs goal < 2 ^ 52
  pub worst : IsWorstAt style most totals given goal

-- the numbers of an end that is not spent, at a goal at which its badness is the worst
pub record IsWorstCost (style : StyleValue) (most : ℤ) (kind : EndKind) (totals : Totals) (given : Give) (cost : TextCost) : Type 0 where
  pub unspent : kind.is_spent ≡ false
  pub worst : IsWorstAt style most totals given cost.goal
  pub is : cost ≡ cost_for style cost.goal (record { stretch = most +ℤ given.stretch; shrink = pos 0 }) totals
      kind.is_spent kind.penalty

-- the same numbers at another goal
abbrev pub at_goal : ℤ → TextCost → TextCost
at_goal goal cost = record {
  goal = goal;
  total = cost.total;
  badness = cost.badness;
  fitness = cost.fitness;
  penalty = cost.penalty;
  demerits = cost.demerits;
}

-- the worst numbers at another goal, where that is not below theirs
abbrev pub worst_at : ℤ → Option TextCost → Option TextCost
worst_at goal None = None
worst_at goal (Some worst) = if int_lt goal worst.goal then None else Some (at_goal goal worst)

-- what no room changes of a candidate, for areas whose gaps give no more than this
pub record IsNear (doc : Document) (most : ℤ) (c : Candidate) (near : NearValue) : Type 0 where
  pub to : near.to ≡ c.to
  pub totals : near.totals ≡ c.passed.totals
  pub notes : near.notes ≡ pos (heights doc.style.classes c.passed.notes)
  pub give : near.give ≡ skips doc.style.classes c.passed.notes
  pub pick_demerits : near.pick_demerits ≡ c.pick_demerits
  pub kind : near.kind ≡ kind_at doc.blocks c.to
  pub least : IsLeastRoom doc c near.least
  pub worst : IfSome near.worst (IsWorstCost doc.style most near.kind near.totals near.give)

-- of the candidate at its index
pub record IsNearIn (doc : Document) (most : ℤ) (cs : List Candidate) (near : NearValue) : Type 0 where
  pub candidate : Candidate
  pub there : slice_get cs near.at ≡ Some candidate
  pub is : IsNear doc most candidate near

-- ---- what is needed in a room

-- the room is below the one from which on it is not
abbrev pub is_needed : ℤ → Option ℤ → Bool
is_needed room None = true
is_needed room (Some from) = int_lt room from

-- the candidate at an index, if there is one
abbrev pub one_at : Option Candidate → List Candidate
one_at None = []
one_at (Some c) = c ∷ []

-- the candidate, where it is needed
abbrev pub needed_of : ℤ → List Candidate → NearValue → List Candidate
needed_of room cs near = if is_needed room near.until then one_at (slice_get cs near.at) else []

-- the candidates that are needed in a room
abbrev pub needed_in : ℤ → List Candidate → List NearValue → List Candidate
needed_in room cs nears = flat_map (needed_of room cs) nears

-- some of all ends, among which each has one of its place and fitness that is no worse
pub record Suffice (all some : List End) : Type 0 where
  pub among : (x : End) → IsAmong x some → IsAmong x all
  pub there : (y : End) → IsAmong y all → (x : End) × (IsAmong x some × ((end_cmp x y ≡ Equal) × IsUnder x y))

-- what no room changes of these candidates, with their picks, and in each room the ends of those that are needed suffice,
-- where the gaps of the areas give no more than this
pub record AreNear (doc : Document) (most : ℤ) (cs : List Candidate) (it : NearsValue) : Type 0 where
  pub picks : ArePicks cs it.picks
  pub right : AllByRecursion (IsNearIn doc most cs) it.nears
  pub suffice : (room : TextRoom) → IsWithin most room →
      Suffice (text_ends doc room cs) (text_ends doc room (needed_in room.size cs it.nears))

-- of candidates that suffice from a place up to a greatest room
pub record AreNearFrom (doc : Document) (from : Place) (top most : ℤ) (it : NearsValue) : Type 0 where
  pub candidates : List Candidate
  pub found : AreCandidates doc from top candidates
  pub near : AreNear doc most candidates it

-- in the rooms of all pages: none is above that of the tallest run, nor beside gaps that give more than those of full areas
abbrev pub AreNearOnPages : Document → Place → NearsValue → Type 0
AreNearOnPages doc from it = AreNearFrom doc from (tallest doc.style) (greatest_areas gap_stretch doc.style) it

-- ---- which are not needed

-- in a room of this size what was passed is so far below its goal that its badness is the worst
abbrev pub IsWorst : StyleValue → ℤ → Candidate → ℤ → Type 0
IsWorst style most c size =
    IsWorstAt style most c.passed.totals (skips style.classes c.passed.notes)
    (size -ℤ pos (heights style.classes c.passed.notes))

-- in a room one candidate keeps the rules on its text, with an end of the other's place and fitness that is no worse
pub record Serves (doc : Document) (room : TextRoom) (one other : Candidate) : Type 0 where
  pub keeps : keeps_text doc room one ≡ true
  pub tied : end_cmp (end_in doc room one) (end_in doc room other) ≡ Equal
  pub under : IsUnder (end_in doc room one) (end_in doc room other)

-- from a size on no column to a candidate's end keeps the rules on its text
abbrev pub IsHopelessFrom : Document → ℤ → Candidate → ℤ → Type 0
IsHopelessFrom doc most c from = (room : TextRoom) → IsWithin most room → from ≤ℤ room.size →
    keeps_text doc room c ≡ false

-- from a size on one candidate serves for the other, where that keeps the rules on its text
abbrev pub IsServedFrom : Document → ℤ → Candidate → Candidate → ℤ → Type 0
IsServedFrom doc most one other from = (room : TextRoom) → IsWithin most room → from ≤ℤ room.size →
    keeps_text doc room other ≡ true → Serves doc room one other
