-- The least room for a column to a candidate's end.
use Rattle.std.proofs.Common.{◌≡◌, refl, sym, ap, ◌∙◌, subst, List, [], ◌∷◌, ◌++◌, arith, Bool, true, false, Option, Some, None, ℤ, ◌<ℤ◌, ◌≤ℤ◌}
use Rattle.std.specs.Prelude.{◌&&◌, ◌||◌, not, if◌then◌else◌, int_le, nat_le, slice_get}
use Rattle.std.proofs.lemmas.Int.{ints}
use Rattle.pg_breaks.specs.Near.{place_forced}
use Rattle.pg_column.specs.Numbers.{most_room}
use Rattle.pg_column.specs.Passed.{fits, least_notes, least_room, raised}
use Rattle.pg_column.specs.declared.cost.TextRoom.{TextRoom}
use Rattle.pg_column.proofs.Passing.{fits_raised, over_least}
use Rattle.pg_column.specs.declared.end.End.{End}
use Rattle.pg_hops.specs.Needs.{AreNeeds}
use Rattle.pg_hops.specs.declared.needs.Needs.{Needs}
use Rattle.pg_lemmas.proofs.Bools.{both_of, if_false}
use Rattle.pg_rules.specs.Room.{Document}
use Rattle.law_walk.specs.Best.{AreBest}
use Rattle.law_walk.specs.Candidates.{Candidate, cost_in, has_text, is_over_in, keeps_text, kept_ends, text_ends}
use Rattle.law_walk.proofs.BestLaws.{best_are}
use Rattle.law_walk.proofs.Ends.{kept_all, kept_none}
use Rattle.pg_candidates.specs.Nears.{IsLeastRoom, IsNearIn, NearValue, is_needed, needed_of, one_at}
use Rattle.pg_candidates.proofs.Kept.{keep_more}
use Rattle.pg_candidates.proofs.Nears.{best_same}

-- ---- the least room

rearranged : (over a f : Bool) → over ≡ not a → (not over && f) ≡ (f && a)
rearranged over true true e = rw e refl
rearranged over true false e = rw e refl
rearranged over false true e = rw e refl
rearranged over false false e = rw e refl

pub least_is : (doc : Document) (c : Candidate) (least own : ℤ) → least ≡ least_room doc.style c.passed →
    ((z : ℤ) → int_le own z ≡ (fits c.passed.bound z && int_le least z)) → IsLeastRoom doc c own
least_is doc c least own is whole room =
    rearranged (is_over_in doc.style room c.passed) (int_le least (most_room room)) (fits c.passed.bound (most_room room))
    (over_least c.passed.totals.total c.passed.totals.shrink (least_notes doc.style c.passed) (most_room room)
    ∙ ap (λ (z : ℤ). not (int_le z (most_room room))) (sym is))
    ∙ sym (whole (most_room room))

bound_both : (o : Option ℤ) (least own : ℤ) → raised o least ≡ Some own → (z : ℤ) →
    int_le own z ≡ (fits o z && int_le least z)
bound_both o least own e z = ap (λ (p : Option ℤ). fits p z) (sym e) ∙ fits_raised o least z

-- a raised bound is not below either
module _ (o : Option ℤ) (least own : ℤ) (e : raised o least ≡ Some own) where
  not_below : (fits o own && int_le least own) ≡ true
  not_below = let same : int_le own own ≡ true = grind (arith, ints) in sym (bound_both o least own e own) ∙ same

  pub raised_fits : fits o own ≡ true
  raised_fits = (both_of (fits o own) (int_le least own) not_below).0

  pub raised_above : least ≤ℤ own
  raised_above = let up : int_le least own ≡ true = (both_of (fits o own) (int_le least own) not_below).1 in
      grind (arith, ints, up)

-- the bound past a break at its end
pub needs_least : (doc : Document) (c : Candidate) (needs : Needs) → AreNeeds doc.style c.passed needs →
    IsLeastRoom doc c needs.bound
needs_least doc c needs are = least_is doc c (least_room doc.style c.passed) needs.bound refl
    (bound_both c.passed.bound (least_room doc.style c.passed) needs.bound are.bound)

-- ---- one that is not asked

no_way : (over good suits : Bool) → (not over && suits) ≡ false → ((not over && good) && suits) ≡ false
no_way true good suits h = refl
no_way false true suits h = h
no_way false false suits h = refl

hopeless_below : (doc : Document) (c : Candidate) (least : ℤ) (room : TextRoom) → IsLeastRoom doc c least →
    most_room room <ℤ least → keeps_text doc room c ≡ false
hopeless_below doc c least room is low =
    let below : int_le least (most_room room) ≡ false = grind (arith, ints, low) in
    no_way (is_over_in doc.style room c.passed)
    (place_forced doc.blocks c.to || nat_le (cost_in doc room c).badness doc.style.tolerance)
    (fits c.passed.bound (most_room room)) (is room ∙ below)

-- its end is none of the best
pub best_too_low : (doc : Document) (room : TextRoom) (cs : List Candidate) (c : Candidate) (least : ℤ) (bs : List End) →
    most_room room <ℤ least → IsLeastRoom doc c least → AreBest (text_ends doc room cs) bs →
    AreBest (text_ends doc room (cs ++ c ∷ [])) bs
best_too_low doc room cs c least bs low is best = subst (AreBest (text_ends doc room (cs ++ c ∷ [])))
    (if_false (keeps_text doc room c) _ _ (hopeless_below doc c least room is low)) (keep_more doc room cs c bs best)

pub best_below : (doc : Document) (most : ℤ) (room : TextRoom) (cs ds : List Candidate) (near : NearValue)
    (bs : List End) → most_room room <ℤ near.least → IsNearIn doc most ds near → AreBest (text_ends doc room cs) bs →
    AreBest (text_ends doc room (cs ++ needed_of room.size ds near)) bs
best_below doc most room cs ds near bs low is best =
    subst (λ (o : Option Candidate).
    AreBest (text_ends doc room (cs ++ (if is_needed room.size near.until then one_at o else []))) bs) (sym is.there)
    (by (is_needed room.size near.until))
  where
    by : (b : Bool) → AreBest (text_ends doc room (cs ++ (if b then is.candidate ∷ [] else []))) bs
    by false = best_same doc room cs bs best
    by true = best_too_low doc room cs is.candidate near.least bs low is.is.least best

-- ---- a room below the least one of a text

-- no column to any end keeps the rules
pub best_none : (doc : Document) (room : TextRoom) → has_text doc.style room ≡ false → (cs : List Candidate) →
    AreBest (kept_ends doc room cs) []
best_none doc room low cs = subst (λ (es : List End). AreBest es []) (sym (kept_none doc room low cs)) (best_are [])

-- ---- a room that is not

-- the best of those that keep the rules on their text are the best of those that keep the rules
pub best_text : (doc : Document) (room : TextRoom) → has_text doc.style room ≡ true → (cs : List Candidate)
    (bs : List End) → AreBest (text_ends doc room cs) bs → AreBest (kept_ends doc room cs) bs
best_text doc room text cs bs best = subst (λ (es : List End). AreBest es bs) (sym (kept_all doc room text cs)) best
