-- The ends along the first stretch, which have no picks.
use Rattle.std.proofs.Common.{◌≡◌, refl, sym, subst, ◌∙◌, ◌⊎◌, inl, inr, ℕ, List, [], ◌∷◌, Bool, true, false, Option, Some, None, ℤ, pos}
use Rattle.std.specs.Prelude.{◌&&◌, if◌then◌else◌}
use Rattle.std.specs.List.{AllByRecursion}
use Rattle.std.specs.Option.{option_map_or}
use Rattle.pg_column.specs.Passed.{Passed, are_within, fits, is_end_here, nothing, pass_item}
use Rattle.pg_lemmas.proofs.Lists.{all_append}
use Rattle.pg_list.specs.Flat.{FlatItem}
use Rattle.pg_list.specs.GalleyValue.{GalleyValue}
use Rattle.pg_list.specs.declared.galley.Place.{Place}
use Rattle.pg_rules.specs.Legal.{document}
use Rattle.pg_rules.specs.Room.{Document}
use Rattle.pg_style.specs.Values.{StyleValue}
use Rattle.law_walk.specs.Best.{AreBest}
use Rattle.law_walk.specs.Candidates.{Candidate, text_ends}
use Rattle.law_walk.specs.Space.{first_ends}
use Rattle.law_walk.specs.Walk.{end_here, ends_along, first_front, first_items, past_stretch, variants_at}
use Rattle.pg_hops.specs.declared.state.State.{State}
use Rattle.pg_walk.specs.Blocks.{HasStart, IsLast}
use Rattle.pg_candidates.specs.View.{passed_of}
use Rattle.law_walk.proofs.BestLaws.{none_best}
use Rattle.pg_candidates.specs.RoomEnds.{ends_of}
use Rattle.pg_candidates.specs.Taken.{HasBest, IsPlain, TookIn}
use Rattle.pg_candidates.specs.declared.one_room.OneRoom.{OneRoom}
use Rattle.pg_candidates.specs.declared.room_end.RoomEnd.{RoomEnd}

plain_here : (doc : Document) (at : Place) (p : Passed) → AllByRecursion IsPlain (end_here doc [] (pos 0) at p)
plain_here doc at p = by (is_end_here doc.blocks p at && are_within doc.style p)
  where
    by : (b : Bool) → AllByRecursion IsPlain
        (if b then record { to = at; picks = []; passed = p; pick_demerits = pos 0 } ∷ [] else [])
    by true = ((refl, refl), tt)
    by false = tt

plain_along : (doc : Document) (top : ℤ) (last : Place) (p : Passed) (xs : List FlatItem) →
    AllByRecursion IsPlain (ends_along doc top [] (pos 0) last p xs)
plain_along doc top last p [] = plain_here doc last p
plain_along doc top last p (x ∷ xs) =
    all_append IsPlain (end_here doc [] (pos 0) x.place p) _ (plain_here doc x.place p)
    (behind (λ (q : Passed). plain_along doc top last q xs) (pass_item doc p x))
  where
    within : (q : Passed) (b : Bool) → AllByRecursion IsPlain (ends_along doc top [] (pos 0) last q xs) →
        AllByRecursion IsPlain (if b then ends_along doc top [] (pos 0) last q xs else [])
    within q true all = all
    within q false all = tt

    behind : ((q : Passed) → AllByRecursion IsPlain (ends_along doc top [] (pos 0) last q xs)) → (o : Option Passed) →
        AllByRecursion IsPlain (option_map_or (λ (q : Passed).
        if fits q.bound top then ends_along doc top [] (pos 0) last q xs else []) o [])
    behind all None = tt
    behind all (Some q) = within q (fits q.bound top) (all q)

pub first_plain : (doc : Document) (top : ℤ) (from : Place) → AllByRecursion IsPlain (first_ends doc top from)
first_plain doc top from = plain_along doc top _ _ (first_items doc.blocks from)

-- what was taken of them in a room are the best
pub first_best : (g : GalleyValue) (s : StyleValue) (z top : ℤ) → z ≡ top → (from : Place) (one new : OneRoom) →
    one.galley.now ≡ g → one.ends.items ≡ [] → TookIn s one new (first_ends (document g s) z from) →
    AreBest (text_ends (document g s) new.room (first_ends (document g s) top from)) (ends_of [] new.ends.items)
first_best g s z top t from one new eg none took =
    subst (λ (y : ℤ). AreBest (text_ends (document g s) new.room (first_ends (document g s) y from))
    (ends_of [] new.ends.items)) t
    (subst (λ (x : GalleyValue). AreBest (text_ends (document x s) new.room ends) (ends_of [] new.ends.items))
    (took.galley ∙ eg) (took.best plain [] begun))
  where
    ends : List Candidate
    ends = first_ends (document g s) z from

    plain : AllByRecursion IsPlain ends
    plain = first_plain (document g s) z from

    begun : HasBest s one []
    begun = subst (λ (xs : List RoomEnd). AreBest [] (ends_of [] xs)) (sym none) none_best

-- where no choice stands behind the first stretch it is all there is
pub last_alone : (doc : Document) (top : ℤ) (from : Place) (start : Option State) → HasStart doc top from start →
    IsLast doc.blocks start → (past_stretch doc top nothing (first_items doc.blocks from) ≡ None)
    ⊎ (variants_at doc.blocks (first_front doc.blocks from) ≡ [])
last_alone doc top from None has last = inl (sym has.past)
last_alone doc top from (Some s) has last = inr (subst (λ (b : ℕ). variants_at doc.blocks b ≡ []) has.front last)

pub last_told : (doc : Document) (top : ℤ) (from : Place) (start : Option State) → HasStart doc top from start →
    IsLast doc.blocks start → (passed_of start ≡ None) ⊎ (variants_at doc.blocks (first_front doc.blocks from) ≡ [])
last_told doc top from None has last = inl refl
last_told doc top from (Some s) has last = inr (subst (λ (b : ℕ). variants_at doc.blocks b ≡ []) has.front last)
