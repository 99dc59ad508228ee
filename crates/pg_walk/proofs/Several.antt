-- The ends in several rooms.
use Rattle.std.proofs.Common.{◌≡◌, refl, sym, ap, ◌∙◌, subst, ℕ, ◌≤◌, ◌-◌, List, [], ◌∷◌, ◌++◌, append-nil, length, take, drop, arith, Bool, true, false, Result, Ok, Err, IfOk, ℤ, ◌≤ℤ◌}
use Rattle.std.specs.Prelude.{get_or, if◌then◌else◌, int_lt, map}
use Rattle.std.specs.List.{AllByRecursion}
use Rattle.std.proofs.lemmas.Int.{ints}
use Rattle.std.proofs.lemmas.List.{append_assoc, take_all}
use Rattle.pg_list.specs.declared.galley.Place.{Place}
use Rattle.pg_column.specs.declared.cost.TextRoom.{TextRoom}
use Rattle.pg_column.specs.declared.end.End.{End}
use Rattle.pg_column.specs.Ends.{AreEnds}
use Rattle.pg_column.specs.Numbers.{most_room}
use Rattle.pg_rules.specs.Room.{Document}
use Rattle.pg_candidates.specs.Nears.{AreNearFrom, IsWithin, NearsValue}
use Rattle.law_walk.specs.Laws.{AreEndsInEach, AreUpTo}
use Rattle.pg_walk.specs.Rooms.{IsAsked, greatest_room}

-- ---- the greatest room

chosen : (g room : ℤ) (b : Bool) → int_lt g room ≡ b → (g ≤ℤ (if b then room else g)) ×
    (room ≤ℤ (if b then room else g))
chosen g room true e = (grind (arith, ints), grind (arith, ints))
chosen g room false e = (grind (arith, ints), grind (arith, ints))

at_least : (g : ℤ) (rooms : List ℤ) → g ≤ℤ greatest_room g rooms
at_least g [] = omega (arith, ints)
at_least g (room ∷ rooms) =
    let c = chosen g room (int_lt g room) refl in
    let r = at_least (if int_lt g room then room else g) rooms in omega (arith, ints, c.0, r)

abbrev pub stretches : List TextRoom → List ℤ
stretches rooms = map (λ (room : TextRoom). room.give.stretch) rooms

pub up_to : (g : ℤ) (rooms : List TextRoom) → AreUpTo (greatest_room g (map most_room rooms)) rooms
up_to g [] = tt
up_to g (room ∷ rooms) =
    let c = chosen g (most_room room) (int_lt g (most_room room)) refl in
    let r = at_least (if int_lt g (most_room room) then most_room room else g) (map most_room rooms) in
    (omega (arith, ints, c.1, r), up_to (if int_lt g (most_room room) then most_room room else g) rooms)

pub within : (g : ℤ) (rooms : List TextRoom) → AllByRecursion IsAsked rooms →
    AllByRecursion (IsWithin (greatest_room g (stretches rooms))) rooms
within g [] asked = tt
within g (room ∷ rooms) asked =
    let c = chosen g room.give.stretch (int_lt g room.give.stretch) refl in
    let r = at_least (if int_lt g room.give.stretch then room.give.stretch else g) (stretches rooms) in (
      record { stretch = omega (arith, ints, c.1, r); shrink = asked.0.shrink },
      within (if int_lt g room.give.stretch then room.give.stretch else g) rooms asked.1,
    )

-- a room is within its own gaps
pub in_room : (room : TextRoom) → IsAsked room → IsWithin room.give.stretch room
in_room room asked = record { stretch = omega (arith, ints); shrink = asked.shrink }

pub no_more : (a b : ℤ) → a ≡ b → a ≤ℤ b
no_more a b e = omega (arith, ints, e)

-- ---- all rooms

pub all_rooms : (doc : Document) (from : Place) (rooms left : List TextRoom) (lists : List (List End)) → left ≡ [] →
    ((more : List (List End)) → AreEndsInEach doc from left more → AreEndsInEach doc from rooms (lists ++ more)) →
    AreEndsInEach doc from rooms lists
all_rooms doc from rooms left lists e h =
    subst (AreEndsInEach doc from rooms) (append-nil lists)
    (h [] (subst (λ (xs : List TextRoom). AreEndsInEach doc from xs []) (sym e) tt))

pub for_each : {E : Type 0} (r : Result (List (List End)) E) (doc : Document) (from : Place) (top most : ℤ)
    (rooms : List TextRoom) (nears : NearsValue) → AreUpTo top rooms → AllByRecursion (IsWithin most) rooms →
    AreNearFrom doc from top most nears →
    IfOk r (λ lists. (from : Place) (top most : ℤ) → AreNearFrom doc from top most nears → AreUpTo top rooms →
    AllByRecursion (IsWithin most) rooms → AreEndsInEach doc from rooms lists) → IfOk r (AreEndsInEach doc from rooms)
for_each (Ok lists) doc from top most rooms nears upto inside near h = h from top most near upto inside
for_each (Err e) doc from top most rooms nears upto inside near h = tt

-- what is known of the rooms that are left
pub record AreLeft (doc : Document) (from : Place) (top most : ℤ) (rooms left : List TextRoom)
    (lists : List (List End)) : Type 0 where
  pub upto : AreUpTo top left
  pub within : AllByRecursion (IsWithin most) left
  pub more : (more : List (List End)) → AreEndsInEach doc from left more → AreEndsInEach doc from rooms (lists ++ more)

-- the first room of those left is done
pub next_room : (doc : Document) (from : Place) (top most : ℤ) (other : TextRoom) (rooms left : List TextRoom) (n : ℕ) →
    n ≡ length left → 1 ≤ length left → (lists new : List (List End)) (ends : List End) → new ≡ lists ++ ends ∷ [] →
    (IsWithin most (get_or left 0 other) → most_room (get_or left 0 other) ≤ℤ top →
    AreEnds doc from (get_or left 0 other) ends) → AreLeft doc from top most rooms left lists →
    AreLeft doc from top most rooms (take (n - 1) (drop 1 left)) new
next_room doc from top most other rooms [] n ne some lists new ends added are h = absurd (omega (arith, some))
next_room doc from top most other rooms (room ∷ rest) n ne some lists new ends added are h =
    let all : take (n - 1) rest ≡ rest = take_all (n - 1) rest (omega (arith, ne)) in
    subst (λ (rs : List TextRoom). AreLeft doc from top most rooms rs new) (sym all) (record {
      upto = h.upto.1;
      within = h.within.1;
      more = λ more ds. subst (AreEndsInEach doc from rooms)
          (sym (ap (λ (ls : List (List End)). ls ++ more) added ∙ append_assoc lists (ends ∷ []) more))
          (h.more (ends ∷ more) (are h.within.0 h.upto.0, ds));
    })
