-- What is kept of a place.
use Rattle.std.proofs.Common.{Ok, Err, Result, ◌≡◌, refl, sym, ap, subst, ◌∙◌, ℕ, zero, suc, ◌+◌, ◌<◌, true, false, Bool, ℤ, pos, ◌+ℤ◌, ◌-ℤ◌, ◌≤ℤ◌, arith, get_or, append-nil, Option, Some, None, IfSome, not}
use Rattle.std.specs.Prelude.{◌&&◌, List, [], ◌∷◌, ◌++◌, length, map, take, if◌then◌else◌, is_some, Contains, OnOk}
use Rattle.std.specs.Option.{option_map_or}
use Rattle.std.proofs.lemmas.Int.{ints}
use Rattle.std.proofs.lemmas.Option.{same_Some}
use Rattle.std.specs.List.{AllByRecursion}
use Rattle.std.specs.Ordering.{int_eq}
use Rattle.std.proofs.lemmas.Bool.Decides.{Decides-int_eq}
use Rattle.pg_column.specs.Ends.{AreEnds}
use Rattle.pg_column.specs.Numbers.{most_room}
use Rattle.pg_column.specs.Passed.{fits}
use Rattle.pg_column.specs.declared.cost.TextRoom.{TextRoom}
use Rattle.pg_column.specs.declared.end.End.{End}
use Rattle.pg_lemmas.proofs.Bools.{both, both_of, by_bool, if_false, if_true}
use Rattle.pg_lemmas.proofs.Lists.{all_append, none_among}
use Rattle.pg_rooms.specs.declared.laid.Laid.{Laid}
use Rattle.pg_list.specs.declared.galley.Place.{Place}
use Rattle.law_columns.proofs.Gives.{IsPart, IsTo, few_give, shrink_part, skips_to, stretch_part}
use Rattle.pg_rules.specs.Floats.{gap_shrink, gap_stretch}
use Rattle.pg_rules.specs.Reach.{greatest_areas, greatest_extra, greatest_skips}
use Rattle.pg_rules.specs.Room.{Document}
use Rattle.pg_style.specs.Ranges.{IsStyle}
use Rattle.pg_style.specs.Values.{StyleValue}
use Rattle.pg_style.specs.declared.style.Gap.{Gap}
use Rattle.pg_walk.specs.Fronts.{AreApart, IsFrontWalk, IsFrontWalkOf}
use Rattle.pg_walk.specs.Straight.{AreStraight, Tells, straight_candidates, tallest_room}
use Rattle.pg_walk.specs.Moved.{moved_candidate}
use Rattle.pg_walk.proofs.Lifted.{among_map, origin_of}
use Rattle.pg_walk.specs.declared.front.FrontWalk.{FrontWalk}
use Rattle.pg_walk.specs.declared.place.FirstWalk.{FirstWalk}
use Rattle.pg_walk.specs.declared.place.PlaceWalk.{PlaceWalk}
use Rattle.pg_walk.specs.declared.straight.StraightEnds.{StraightEnds}
use Rattle.law_walk.specs.Best.{AreBest, Ascend, IsAmong, IsFirst, IsUnder, end_cmp}
use Rattle.law_walk.specs.Candidates.{AreCandidates, Candidate, has_text, kept_ends, text_ends}
use Rattle.law_walk.specs.Laws.{CandidatesGiveEnds}
use Rattle.law_walk.specs.Reached.{tallest}
use Rattle.law_walk.proofs.BestLaws.{none_best}
use Rattle.law_walk.proofs.Ends.{kept_all, kept_none}
use Rattle.pg_candidates.specs.Nears.{AreNearOnPages, NearsValue}
use Rattle.pg_candidates.specs.RoomEnds.{ends_of}
use Rattle.pg_candidates.specs.declared.room_end.RoomEnd.{RoomEnd}
use Rattle.pg_rooms.proofs.Grouped.{all_more}
use Rattle.pg_rooms.specs.Calls.{AreCalls}
use Rattle.pg_rooms.proofs.Higher.{kept_moved, lower_room, none_moved}
use Rattle.pg_rooms.proofs.Joined.{best_append, kept_apart, kept_append}
use Rattle.pg_rooms.specs.PlaceEnds.{AreFirst, AreFrontEnds, AreFrontEndsOf, AreGroups, ArePlaceEnds, AreRoomEnds, IsNearOnPages, IsPageRoom, IsSameBehind, all_ends, behind_candidates, ends_behind, ends_in, ends_left, groups_in, has_behind, has_room, higher_end, is_same_room, room_behind}
use Rattle.pg_rooms.specs.declared.calls.Calls.{Calls}
use Rattle.pg_rooms.specs.declared.grouping.Group.{Group}
use Rattle.pg_rooms.specs.declared.behind.Behind.{Behind}
use Rattle.pg_rooms.specs.declared.behind.FrontEnds.{FrontEnds}
use Rattle.pg_rooms.specs.declared.place_ends.PlaceEnds.{PlaceEnds}
use Rattle.pg_rooms.specs.declared.place_ends.RoomEnds.{RoomEnds}

-- ---- rooms that are the same

same_itself : (room : TextRoom) → is_same_room room room ≡ true
same_itself room = both _ _ (both _ _ ((Decides-int_eq room.size room.size).1 refl)
    ((Decides-int_eq room.give.stretch room.give.stretch).1 refl))
    ((Decides-int_eq room.give.shrink room.give.shrink).1 refl)

same_is : (a b : TextRoom) → is_same_room a b ≡ true → a ≡ b
same_is a b e =
    let two = both_of (int_eq a.size b.size && int_eq a.give.stretch b.give.stretch) _ e in
    let one = both_of (int_eq a.size b.size) (int_eq a.give.stretch b.give.stretch) two.0 in
    make _ _ _ _ _ _ ((Decides-int_eq a.size b.size).0 one.0)
    ((Decides-int_eq a.give.stretch b.give.stretch).0 one.1) ((Decides-int_eq a.give.shrink b.give.shrink).0 two.1)
  where
    make : (s s' x x' y y' : ℤ) → s ≡ s' → x ≡ x' → y ≡ y' →
        ◌≡◌ {A = TextRoom} (record { size = s; give = record { stretch = x; shrink = y } })
        (record { size = s'; give = record { stretch = x'; shrink = y' } })
    make s s' x x' y y' p q r = cc

-- ---- a room more

has_last : (rooms : List RoomEnds) (it : RoomEnds) → has_room (rooms ++ it ∷ []) it.room ≡ true
has_last [] it = if_true (is_same_room it.room it.room) true false (same_itself it.room)
has_last (first ∷ rooms) it = by (is_same_room first.room it.room) (has_last rooms it)
  where
    by : (b : Bool) → has_room (rooms ++ it ∷ []) it.room ≡ true →
        (if b then true else has_room (rooms ++ it ∷ []) it.room) ≡ true
    by true h = refl
    by false h = h

has_front : (rooms more : List RoomEnds) (room : TextRoom) → has_room rooms room ≡ true →
    has_room (rooms ++ more) room ≡ true
has_front [] more room h = absurd cc
has_front (first ∷ rooms) more room h = by (is_same_room first.room room) h (has_front rooms more room)
  where
    by : (b : Bool) → (if b then true else has_room rooms room) ≡ true →
        (has_room rooms room ≡ true → has_room (rooms ++ more) room ≡ true) →
        (if b then true else has_room (rooms ++ more) room) ≡ true
    by true h f = refl
    by false h f = f h

-- the room that was added is kept
pub has_added : (rooms now : List RoomEnds) (it : RoomEnds) (room : TextRoom) → now ≡ rooms ++ it ∷ [] → it.room ≡ room →
    has_room now room ≡ true
has_added rooms now it room push is =
    subst (λ (xs : List RoomEnds). has_room xs room ≡ true) (sym push)
    (subst (λ (z : TextRoom). has_room (rooms ++ it ∷ []) z ≡ true) is (has_last rooms it))

-- the others still are
pub has_still : (rooms now : List RoomEnds) (it : RoomEnds) (room : TextRoom) → now ≡ rooms ++ it ∷ [] →
    has_room rooms room ≡ true → has_room now room ≡ true
has_still rooms now it room push h =
    subst (λ (xs : List RoomEnds). has_room xs room ≡ true) (sym push) (has_front rooms (it ∷ []) room h)

-- with it all ends are right
pub rooms_added : (doc : Document) (cs : List Candidate) (ps : List (List ℕ)) (old now : List RoomEnds) (it : RoomEnds) →
    now ≡ old ++ it ∷ [] → AllByRecursion (AreRoomEnds doc cs ps) old → AreRoomEnds doc cs ps it →
    AllByRecursion (AreRoomEnds doc cs ps) now
rooms_added doc cs ps old now it push are own = subst (AllByRecursion (AreRoomEnds doc cs ps)) (sym push)
    (all_append (AreRoomEnds doc cs ps) old (it ∷ []) are (own, tt))

-- ---- the rooms of layouts

-- what holds of each holds of an element
pub all_contain : {X : Type 0} (P : X → Type 0) (xs : List X) (x : X) → AllByRecursion P xs → Contains xs x → P x
all_contain P [] x a c = absurd (none_among x c)
all_contain P (y ∷ ys) x a (zero, l, e) = subst P e a.0
all_contain P (y ∷ ys) x a (suc k, l, e) = all_contain P ys x a.1 (k, omega arith, e)

-- those that were asked for still are kept, and one more is
pub asked_more : (P Q : TextRoom → Type 0) (laid : List Laid) (i : ℕ) (it : Laid) → i < length laid →
    it ≡ get_or laid i it → AllByRecursion (λ (x : Laid). P x.room) (take i laid) → Q it.room →
    ((room : TextRoom) → P room → Q room) → AllByRecursion (λ (x : Laid). Q x.room) (take (i + 1) laid)
asked_more P Q laid i it less is all own keeps =
    all_more (λ (x : Laid). Q x.room) laid i it less is (still (take i laid) all) own
  where
    still : (xs : List Laid) → AllByRecursion (λ (x : Laid). P x.room) xs → AllByRecursion (λ (x : Laid). Q x.room) xs
    still [] a = tt
    still (x ∷ xs) a = (keeps x.room a.0, still xs a.1)

-- ---- what is kept of a place before any room is asked for

-- what is kept behind a front, where something is
abbrev pub AreBehind : Document → List Candidate → Option Behind → Type 0
AreBehind doc cs o = IfSome o (λ (behind : Behind). AreFrontEndsOf doc cs behind.ends)

-- a walk is, with the calls of any places
pub begun : (doc : Document) (from : Place) (it : PlaceEnds) (walk : PlaceWalk) (calls : Calls) → it.walk ≡ walk →
    it.is_straight ≡ false → it.rooms.items ≡ [] → it.calls ≡ calls → it.behind ≡ None →
    AreNearOnPages doc from walk.near → AreCalls doc calls.items.items → ArePlaceEnds doc from it
begun doc from it walk calls w f r k b near are = record {
  first = near.candidates;
  later = [];
  are_first = subst (λ (x : PlaceWalk). AreFirst doc from near.candidates it.is_straight x.near) (sym w)
      (subst (λ (is_straight : Bool). AreFirst doc from near.candidates is_straight walk.near) (sym f) near.near);
  candidates = subst (λ (o : Option Behind).
      AreCandidates doc from (tallest doc.style) (near.candidates ++ behind_candidates o [])) (sym b)
      (subst (AreCandidates doc from (tallest doc.style)) (sym (append-nil near.candidates)) near.found);
  apart = λ c d a e. absurd (subst (λ (o : Option Behind). IsAmong d (behind_candidates o [])) b e);
  rooms = subst (AllByRecursion (AreRoomEnds doc near.candidates it.walk.near.picks)) (sym r) tt;
  behind = subst (AreBehind doc []) (sym b) tt;
  calls = subst (λ (kept : Calls). AreCalls doc kept.items.items) (sym k) are;
}

-- what the first stretch tells of its ends
pub told_first : (doc : Document) (from : Place) (cs : List Candidate) (first : FirstWalk) → Tells doc from cs first →
    AreFirst doc from cs (is_some first.straight) first.near
told_first doc from cs first tells = by first.straight refl tells.straight
  where
    by : (o : Option StraightEnds) → first.straight ≡ o → IfSome o (λ it. (first.near.picks ≡ [])
        × ((cs ≡ straight_candidates doc from) × ((it.room ≡ tallest_room doc.style) × AreStraight doc from it))) →
        AreFirst doc from cs (is_some o) first.near
    by None e told = tells.near e
    by (Some it) e told = (told.1.0, told.0)

-- and in the one room of the style
pub told_rooms : (doc : Document) (from : Place) (cs : List Candidate) (first : FirstWalk) (rooms : List RoomEnds) →
    Tells doc from cs first → (first.straight ≡ None → rooms ≡ []) →
    (IfSome first.straight (λ it. (it.room ≡ tallest_room doc.style)
    × AreBest (text_ends doc it.room cs) (ends_of [] it.ends.items)) → AllByRecursion (AreRoomEnds doc cs []) rooms) →
    AllByRecursion (AreRoomEnds doc cs first.near.picks) rooms
told_rooms doc from cs first rooms tells none are = by first.straight refl tells.straight
  where
    by : (o : Option StraightEnds) → first.straight ≡ o → IfSome o (λ it. (first.near.picks ≡ [])
        × ((cs ≡ straight_candidates doc from) × ((it.room ≡ tallest_room doc.style) × AreStraight doc from it))) →
        AllByRecursion (AreRoomEnds doc cs first.near.picks) rooms
    by None e told = subst (AllByRecursion (AreRoomEnds doc cs first.near.picks)) (sym (none e)) tt
    by (Some it) e told =
        subst (λ (ps : List (List ℕ)). AllByRecursion (AreRoomEnds doc cs ps) rooms) (sym told.0)
        (are (subst (λ (o : Option StraightEnds). IfSome o (λ x. (x.room ≡ tallest_room doc.style)
        × AreBest (text_ends doc x.room cs) (ends_of [] x.ends.items))) (sym e) (
          told.1.1.0,
          subst (λ (ds : List Candidate). AreBest (text_ends doc it.room ds) (ends_of [] it.ends.items))
              (sym told.1.0) told.1.1.1,
        )))

-- the room of the tallest run with no areas is one of a page
pub tallest_is_page : (style : StyleValue) → IsStyle style → (room : TextRoom) → room ≡ tallest_room style →
    IsPageRoom style room
tallest_is_page style style_in room e = subst (IsPageRoom style) (sym e) (record {
  low = low style.height (greatest_extra style.runs) (greatest_areas gap_shrink style)
      (greatest_skips gap_shrink style) (areas_from gap_shrink shrink_part) skips_from;
  within = record { stretch = areas_from gap_stretch stretch_part; shrink = omega (arith, ints) };
})
  where
    low : (h x a s : ℤ) → pos 0 ≤ℤ a → pos 0 ≤ℤ s → ((h +ℤ x) +ℤ pos 0) ≤ℤ ((h +ℤ x) +ℤ (a +ℤ s))
    low h x a s i j = omega (arith, ints)

    over : (m x : ℤ) → IsTo m x → pos 0 ≤ℤ m
    over m x to = past to.0 to.1
      where
        past : pos 0 ≤ℤ x → x ≤ℤ m → pos 0 ≤ℤ m
        past a b = omega (arith, ints)

    plus : (m n : ℤ) → pos 0 ≤ℤ m → pos 0 ≤ℤ n → pos 0 ≤ℤ (m +ℤ n)
    plus m n a b = omega (arith, ints)

    areas_from : (part : Gap → ℤ) → IsPart part → pos 0 ≤ℤ greatest_areas part style
    areas_from part sized = plus _ _
        (over _ _ (few_give part sized style.top style_in.top_in 0 (omega (arith))))
        (over _ _ (few_give part sized style.bottom style_in.bottom_in 0 (omega (arith))))

    skips_from : pos 0 ≤ℤ greatest_skips gap_shrink style
    skips_from =
        let all = skips_to gap_shrink shrink_part [] style.classes style_in.classes_in.each in
        over _ _ all

-- where the ends are found room by room, no picks are listed
pub straight_of : (doc : Document) (from : Place) (cs : List Candidate) (b : Bool) (near : NearsValue) → b ≡ true →
    AreFirst doc from cs b near → (cs ≡ straight_candidates doc from) × (near.picks ≡ [])
straight_of doc from cs true near e a = a
straight_of doc from cs false near e a = absurd cc

-- and where they are not, what no room changes of each is
pub listed_of : (doc : Document) (from : Place) (cs : List Candidate) (b : Bool) (near : NearsValue) → b ≡ false →
    AreFirst doc from cs b near → IsNearOnPages doc cs near
listed_of doc from cs true near e a = absurd cc
listed_of doc from cs false near e a = a

-- a walk behind a front is
pub front_begun : (doc : Document) (it : FrontEnds) (walk : FrontWalk) → it.walk ≡ walk → it.rooms.items ≡ [] →
    IsFrontWalk doc walk → AreFrontEnds doc it
front_begun doc it walk w r is = record {
  candidates = is.candidates;
  are = record {
    walk = subst (IsFrontWalkOf doc is.candidates) (sym w) is.are;
    rooms = subst (AllByRecursion (AreRoomEnds doc is.candidates it.walk.near.picks)) (sym r) tt;
  };
}

-- with rooms asked for there is still the same behind the front
pub still_kept : (doc : Document) (from : Place) (old new : PlaceEnds) → new.walk ≡ old.walk →
    new.is_straight ≡ old.is_straight →
    ((cs : List Candidate) → behind_candidates new.behind cs ≡ behind_candidates old.behind cs) →
    (are : ArePlaceEnds doc from old) → AllByRecursion (AreRoomEnds doc are.first old.walk.near.picks) new.rooms.items →
    AreBehind doc are.later new.behind → AreCalls doc new.calls.items.items → ArePlaceEnds doc from new
still_kept doc from old new w f b are rooms behind calls = record {
  first = are.first;
  later = are.later;
  are_first = subst (λ (x : PlaceWalk). AreFirst doc from are.first new.is_straight x.near) (sym w)
      (subst (λ (is_straight : Bool). AreFirst doc from are.first is_straight old.walk.near) (sym f) are.are_first);
  candidates = subst (λ (ds : List Candidate). AreCandidates doc from (tallest doc.style) (are.first ++ ds))
      (sym (b are.later)) are.candidates;
  apart = subst (AreApart are.first) (sym (b are.later)) are.apart;
  rooms = subst (λ (x : PlaceWalk). AllByRecursion (AreRoomEnds doc are.first x.near.picks) new.rooms.items) (sym w)
      rooms;
  behind = behind;
  calls = calls;
}

-- ---- behind a front

-- it is so much lower
pub left_is : (it : Behind) (room left : TextRoom) → room_behind it room ≡ Some left → lower_room it.by room ≡ left
left_is it room left e = by_bool (fits it.bound (most_room room))
    (λ t. same_Some (lower_room it.by room) left
    (sym (if_true (fits it.bound (most_room room)) (Some (lower_room it.by room)) None t) ∙ e))
    (λ f. absurd (none_is left
    (sym (if_false (fits it.bound (most_room room)) (Some (lower_room it.by room)) None f) ∙ e)))
  where
    none_is : (left : TextRoom) → None ≡ Some left → ⊥
    none_is left e = absurd cc

-- what a room of a page leaves there is one too
pub left_page : (style : StyleValue) (room left : TextRoom) (it : Behind) → pos 0 ≤ℤ it.by →
    room_behind it room ≡ Some left → IsPageRoom style room → IsPageRoom style left
left_page style room left it up e page = subst (IsPageRoom style) (left_is it room left e) (record {
  low = low room.size room.give.shrink it.by (tallest style) up page.low;
  within = record { stretch = page.within.stretch; shrink = page.within.shrink };
})
  where
    low : (size shrink by top : ℤ) → pos 0 ≤ℤ by → (size +ℤ shrink) ≤ℤ top → ((size -ℤ by) +ℤ shrink) ≤ℤ top
    low size shrink by top u l = omega (arith, ints, u, l)

-- with more rooms asked for there the same candidates stand behind the front
pub same_candidates : (a b : Behind) → IsSameBehind a b → (cs : List Candidate) →
    behind_candidates (Some b) cs ≡ behind_candidates (Some a) cs
same_candidates a b s cs = same _ _ _ _ s.by s.bound
  where
    same : (m n : ℤ) (o p : Option ℤ) → m ≡ n → o ≡ p →
        map (moved_candidate m o) cs ≡ map (moved_candidate n p) cs
    same m n o p e f = rw (e, f) refl

-- the ends of candidates with more height before them are the best, where the ends in the lower room are
best_higher : (by : ℤ) (es bs : List End) → AreBest es bs → AreBest (map (higher_end by) es) (map (higher_end by) bs)
best_higher by es bs best = record {
  ascend = ascend bs best.ascend;
  among = λ x a. let w = origin_of (higher_end by) bs x a in
      subst (λ (y : End). IsAmong y (map (higher_end by) es)) w.is
      (among_map (higher_end by) es w.origin (best.among w.origin w.among));
  under = λ x y a b t.
      let v = origin_of (higher_end by) bs x a in
      let w = origin_of (higher_end by) es y b in
      subst (λ (z : End). IsUnder z y) v.is (subst (IsUnder (higher_end by v.origin)) w.is
      (best.under v.origin w.origin v.among w.among
      (ap (λ (z : End). end_cmp z (higher_end by w.origin)) v.is ∙ (ap (end_cmp x) w.is ∙ t))));
  there = λ y b.
      let w = origin_of (higher_end by) es y b in
      let u = best.there w.origin w.among in
      (higher_end by u.0, (among_map (higher_end by) bs u.0 u.1.0, sym (ap (end_cmp (higher_end by u.0)) w.is) ∙ u.1.1));
}
  where
    first : (b : End) (cs : List End) → IsFirst b cs → IsFirst (higher_end by b) (map (higher_end by) cs)
    first b [] h = tt
    first b (c ∷ cs) h = (h.0, first b cs h.1)

    ascend : (cs : List End) → Ascend cs → Ascend (map (higher_end by) cs)
    ascend [] h = tt
    ascend (c ∷ cs) h = (first c cs h.0, ascend cs h.1)

-- ---- the ends in a room

-- those of the one list in front of those of the other, where all of the one are before all of the other
joined : (doc : Document) (room : TextRoom) (cs ds : List Candidate) (bs es : List End) → AreApart cs ds →
    AreBest (kept_ends doc room cs) bs → AreBest (kept_ends doc room ds) es →
    AreBest (kept_ends doc room (cs ++ ds)) (bs ++ es)
joined doc room cs ds bs es apart first rest =
    subst (λ (all : List End). AreBest all (bs ++ es)) (sym (kept_append doc room cs ds))
    (best_append (kept_ends doc room cs) (kept_ends doc room ds) bs es first rest
    (kept_apart doc room cs ds apart))

-- in a room that is kept of some candidates
pub room_best : (doc : Document) (cs : List Candidate) (ps : List (List ℕ)) (rooms : List RoomEnds) (room : TextRoom) →
    AllByRecursion (AreRoomEnds doc cs ps) rooms → has_room rooms room ≡ true →
    AreBest (text_ends doc room cs) (ends_of ps (ends_in rooms room))
room_best doc cs ps [] room all h = absurd cc
room_best doc cs ps (first ∷ rooms) room all h = by_bool (is_same_room first.room room)
    (λ t. subst AreOf (sym (if_true (is_same_room first.room room) first.ends.items (ends_in rooms room) t))
    (subst (λ (z : TextRoom). AreBest (text_ends doc z cs) (ends_of ps first.ends.items))
    (same_is first.room room t) all.0.best))
    (λ f. subst AreOf (sym (if_false (is_same_room first.room room) first.ends.items (ends_in rooms room) f))
    (room_best doc cs ps rooms room all.1
    (sym (if_false (is_same_room first.room room) true (has_room rooms room) f) ∙ h)))
  where
    AreOf : List RoomEnd → Type 0
    AreOf ends = AreBest (text_ends doc room cs) (ends_of ps ends)

module _ (doc : Document) (room : TextRoom) (text : has_text doc.style room ≡ true) where
  left_best : (cs : List Candidate) (it : Behind) → AreFrontEndsOf doc cs it.ends → has_behind (Some it) room ≡ true →
      AreBest (kept_ends doc room (behind_candidates (Some it) cs)) (ends_behind (Some it) room)
  left_best cs it are h = by_bool (fits it.bound (most_room room))
      (λ f.
      let left = if_true (fits it.bound (most_room room)) (Some (lower_room it.by room)) None f in
      subst (AreBest (kept_ends doc room (behind_candidates (Some it) cs))) (sym (ap (λ (o : Option TextRoom).
      option_map_or (λ (r : TextRoom). map (higher_end it.by) (ends_left it r)) o []) left))
      (subst (λ (es : List End). AreBest es (map (higher_end it.by) (ends_left it (lower_room it.by room))))
      (sym (kept_moved doc room it.by it.bound text f cs))
      (best_higher it.by _ _ (room_best doc cs it.ends.walk.near.picks it.ends.rooms.items
      (lower_room it.by room) are.rooms (sym (ap (λ (o : Option TextRoom). option_map_or (has_room it.ends.rooms.items) o true) left) ∙ h)))))
      (λ f.
      let left = if_false (fits it.bound (most_room room)) (Some (lower_room it.by room)) None f in
      subst (AreBest (kept_ends doc room (behind_candidates (Some it) cs))) (sym (ap (λ (o : Option TextRoom).
      option_map_or (λ (r : TextRoom). map (higher_end it.by) (ends_left it r)) o []) left))
      (subst (λ (es : List End). AreBest es [])
      (sym (none_moved doc room it.by it.bound text f cs)) none_best))

  behind_best : (cs : List Candidate) (o : Option Behind) → AreBehind doc cs o → has_behind o room ≡ true →
      AreBest (kept_ends doc room (behind_candidates o cs)) (ends_behind o room)
  behind_best cs None are h = none_best
  behind_best cs (Some it) are h = left_best cs it are h

  both_best : (from : Place) (it : PlaceEnds) (are : ArePlaceEnds doc from it) → has_room it.rooms.items room ≡ true →
      has_behind it.behind room ≡ true →
      AreBest (kept_ends doc room (are.first ++ behind_candidates it.behind are.later))
      (ends_of it.walk.near.picks (ends_in it.rooms.items room) ++ ends_behind it.behind room)
  both_best from it are h b =
      joined doc room are.first (behind_candidates it.behind are.later) _ _ are.apart
      (subst (λ (es : List End). AreBest es (ends_of it.walk.near.picks (ends_in it.rooms.items room)))
      (sym (kept_all doc room text are.first))
      (room_best doc are.first it.walk.near.picks it.rooms.items room are.rooms h))
      (behind_best are.later it.behind are.behind b)

-- all ends in a room that was asked for, where it is not below the least one
pub room_right : (doc : Document) → CandidatesGiveEnds doc → (from : Place) (it : PlaceEnds) (room : TextRoom) →
    IsPageRoom doc.style room → ArePlaceEnds doc from it →
    (has_text doc.style room ≡ true → has_room it.rooms.items room ≡ true) →
    (has_text doc.style room ≡ true → has_behind it.behind room ≡ true) →
    AreEnds doc from room (all_ends doc.style it room)
room_right doc law from it room page are h b =
    law from (tallest doc.style) room (are.first ++ behind_candidates it.behind are.later)
    (all_ends doc.style it room) page.low are.candidates
    (by_bool (has_text doc.style room)
    (λ t. subst (AreBest (kept_ends doc room (are.first ++ behind_candidates it.behind are.later)))
    (sym (if_true (has_text doc.style room)
    (ends_of it.walk.near.picks (ends_in it.rooms.items room) ++ ends_behind it.behind room) [] t))
    (both_best doc room t from it are (h t) (b t)))
    (λ f. subst (AreBest (kept_ends doc room (are.first ++ behind_candidates it.behind are.later)))
    (sym (if_false (has_text doc.style room)
    (ends_of it.walk.near.picks (ends_in it.rooms.items room) ++ ends_behind it.behind room) [] f))
    (subst (λ (es : List End). AreBest es [])
    (sym (kept_none doc room f (are.first ++ behind_candidates it.behind are.later))) none_best)))

-- the groups of ends, also where the room is not kept
pub groups_right : (doc : Document) (cs : List Candidate) (ps : List (List ℕ)) (rooms : List RoomEnds) (room : TextRoom) →
    AllByRecursion (AreRoomEnds doc cs ps) rooms → AreGroups doc (groups_in rooms room) (ends_in rooms room)
groups_right doc cs ps [] room all = refl
groups_right doc cs ps (first ∷ rooms) room all = either (is_same_room first.room room) first.groups.items
    (groups_in rooms room) first.ends.items (ends_in rooms room) all.0.groups
    (groups_right doc cs ps rooms room all.1)
  where
    either : (b : Bool) (gs hs : List Group) (xs ys : List RoomEnd) → AreGroups doc gs xs → AreGroups doc hs ys →
        AreGroups doc (if b then gs else hs) (if b then xs else ys)
    either true gs hs xs ys p q = p
    either false gs hs xs ys p q = q

-- two clauses of an answer as one
pub on_both : {T E P Q R : Type 0} (r : Result T E) → (P → Q → R) → OnOk r P → OnOk r Q → OnOk r R
on_both (Ok x) f p q = f p q
on_both (Err e) f p q = tt

-- what has nothing is none
pub none_by : {X : Type 0} (o : Option X) (r : Bool) → is_some o ≡ not r → r ≡ true → o ≡ None
none_by None r e t = refl
none_by (Some x) r e t = absurd cc

-- and three
pub on_three : {T E P Q R S : Type 0} (r : Result T E) → (P → Q → R → S) → OnOk r P → OnOk r Q → OnOk r R → OnOk r S
on_three (Ok x) f p q r = f p q r
on_three (Err e) f p q r = tt
