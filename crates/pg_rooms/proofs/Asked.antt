-- Rooms of which the ends are asked for, one after another.
use Rattle.std.proofs.Common.{ℤ, ◌≡◌, ap, subst, ◌∙◌, ℕ, length, take, true, false, Bool, List, Option, None, Some, pos, ◌+ℤ◌, ◌≤ℤ◌, ◌^◌, arith}
use Rattle.std.specs.Prelude.{Contains}
use Rattle.std.specs.List.{AllByRecursion}
use Rattle.std.specs.Option.{option_map_or}
use Rattle.std.proofs.Math.Seq.{take-length}
use Rattle.std.proofs.lemmas.Int.{ints}
use Rattle.law_places.proofs.Tests.{le_int}
use Rattle.law_walk.specs.Candidates.{has_text}
use Rattle.pg_column.specs.declared.cost.TextRoom.{TextRoom}
use Rattle.pg_style.specs.Ranges.{IsStyle}
use Rattle.pg_style.specs.Values.{StyleValue}
use Rattle.pg_rooms.proofs.Kept.{all_contain}
use Rattle.pg_rooms.specs.PlaceEnds.{has_room}
use Rattle.pg_rooms.specs.declared.place_ends.RoomEnds.{RoomEnds}

-- of a room that is below the least one no ends are asked for
pub too_low : {A : Type 0} (b t : Bool) → b ≡ t → b ≡ false → t ≡ true → A
too_low b t e f h = absurd cc

-- what is told of something is not told of nothing
pub not_none : {A X : Type 0} (o : Option X) (x : X) → o ≡ Some x → o ≡ None → A
not_none o x e f = absurd cc

-- a room that is not below the least one is above -2^31
pub not_deep : (style : StyleValue) → IsStyle style → (room : TextRoom) → has_text style room ≡ true →
    pos 0 ≤ℤ (room.size +ℤ pos (2 ^ 31))
not_deep style style_in room t = up style.min_text room.size style_in.min_text_in.0 (le_int style.min_text room.size t)
  where
    up : (least size : ℤ) → pos 0 ≤ℤ least → least ≤ℤ size → pos 0 ≤ℤ (size +ℤ pos (2 ^ 31))
    up least size a b = omega (arith, ints, a, b)

-- what holds of each of the elements that were passed holds of each, where all were
pub all_passed : {X : Type 0} (P : X → Type 0) (xs : List X) (i : ℕ) → i ≡ length xs → AllByRecursion P (take i xs) →
    (x : X) → Contains xs x → P x
all_passed P xs i e all x among = all_contain P xs x
    (subst (AllByRecursion P) (ap (λ (n : ℕ). take n xs) e ∙ take-length xs) all) among

-- what a room leaves was asked for
pub left_asked : (o : Option TextRoom) (rooms : List RoomEnds) (left : TextRoom) → o ≡ Some left →
    has_room rooms left ≡ true → option_map_or (has_room rooms) o true ≡ true
left_asked o rooms left e h = ap (λ (it : Option TextRoom). option_map_or (has_room rooms) it true) e ∙ h

-- nothing is left
pub none_asked : (o : Option TextRoom) (rooms : List RoomEnds) → o ≡ None →
    option_map_or (has_room rooms) o true ≡ true
none_asked o rooms e = ap (λ (it : Option TextRoom). option_map_or (has_room rooms) it true) e

-- what is left of another one is still there
pub left_still : (o : Option TextRoom) (old new : List RoomEnds) →
    ((room : TextRoom) → has_room old room ≡ true → has_room new room ≡ true) →
    option_map_or (has_room old) o true ≡ true → option_map_or (has_room new) o true ≡ true
left_still None old new still h = h
left_still (Some left) old new still h = still left h
