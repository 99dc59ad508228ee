-- A candidate's end in a room.
use Rattle.std.proofs.Common.{◌≡◌, refl, sym, ap, ◌∙◌, subst, ℕ, ℤ, List, [], ◌∷◌, ◌++◌, append-nil, arith, Bool, false, true, ◌-ℤ◌}
use Rattle.std.specs.Prelude.{◌&&◌, ◌||◌, not, int_le, int_lt, nat_le}
use Rattle.std.specs.List.{AllByRecursion}
use Rattle.std.proofs.lemmas.Int.{ints}
use Rattle.pg_breaks.specs.Near.{place_forced}
use Rattle.pg_column.specs.Numbers.{cost_for, give_by, goal_by, most_room}
use Rattle.pg_column.specs.Passed.{fits}
use Rattle.pg_column.specs.declared.cost.TextCost.{TextCost}
use Rattle.pg_column.specs.declared.cost.TextRoom.{TextRoom}
use Rattle.pg_style.specs.Plain.{plus_give}
use Rattle.pg_style.specs.declared.style.Give.{Give}
use Rattle.pg_column.specs.declared.end.End.{End}
use Rattle.pg_lemmas.proofs.Bools.{if_false, if_true}
use Rattle.pg_list.proofs.BodyLemmas.{all_front}
use Rattle.pg_rules.specs.Room.{Document}
use Rattle.pg_sums.specs.declared.totals.Totals.{Totals}
use Rattle.law_walk.specs.Best.{AreBest, insert_end}
use Rattle.law_walk.specs.Candidates.{Candidate, cost_in, end_in, is_over_in, keeps_text, text_ends}
use Rattle.pg_candidates.specs.Nears.{IsNear, IsNearIn, NearValue, needed_in, needed_of}
use Rattle.pg_candidates.specs.RoomEnds.{end_by, end_of, picks_at}
use Rattle.pg_candidates.specs.declared.kind.EndKind.{EndKind}
use Rattle.pg_candidates.proofs.Kept.{end_same, keep_more}
use Rattle.pg_candidates.proofs.Needed.{needed_more}

-- ---- in a room

not_below : (z least : ℤ) → int_lt z least ≡ false → int_le least z ≡ true
not_below z least h = grind (arith, ints, h)

tolerable_alone : (over tolerable suits : Bool) → (not over && suits) ≡ true → ((not over && tolerable) && suits) ≡ tolerable
tolerable_alone true tolerable suits h = absurd cc
tolerable_alone false true suits h = h
tolerable_alone false false suits h = refl

module _ (doc : Document) (most : ℤ) (room : TextRoom) (it : Candidate) (near : NearValue) (is : IsNear doc most it near)
    (cost : TextCost) (made : cost ≡ cost_for doc.style (room.size -ℤ near.notes) (plus_give room.give near.give)
    near.totals near.kind.is_spent near.kind.penalty) where
  cost_is : cost ≡ cost_in doc room it
  cost_is = made
      ∙ (ap (λ (t : Totals). cost_for doc.style (room.size -ℤ near.notes) (plus_give room.give near.give) t
      near.kind.is_spent near.kind.penalty) is.totals
      ∙ (ap (λ (z : ℤ). cost_for doc.style (room.size -ℤ z) (plus_give room.give near.give) it.passed.totals
      near.kind.is_spent near.kind.penalty) is.notes
      ∙ (ap (λ (g : Give). cost_for doc.style (goal_by doc.style room it.passed.notes) (plus_give room.give g)
      it.passed.totals near.kind.is_spent near.kind.penalty) is.give
      ∙ ap (λ (k : EndKind). cost_for doc.style (goal_by doc.style room it.passed.notes)
      (give_by doc.style room it.passed.notes) it.passed.totals k.is_spent k.penalty) is.kind)))

  tolerable_is : (near.kind.is_forced || nat_le cost.badness doc.style.tolerance)
      ≡ (place_forced doc.blocks it.to || nat_le (cost_in doc room it).badness doc.style.tolerance)
  tolerable_is =
      ap (λ (k : EndKind). k.is_forced || nat_le cost.badness doc.style.tolerance) is.kind
      ∙ ap (λ (k : TextCost). place_forced doc.blocks it.to || nat_le k.badness doc.style.tolerance) cost_is

  pub keeps_is : int_lt (most_room room) near.least ≡ false →
      keeps_text doc room it ≡ (near.kind.is_forced || nat_le cost.badness doc.style.tolerance)
  keeps_is high = tolerable_alone (is_over_in doc.style room it.passed)
      (place_forced doc.blocks it.to || nat_le (cost_in doc room it).badness doc.style.tolerance)
      (fits it.passed.bound (most_room room)) (is.least room ∙ not_below (most_room room) near.least high)
      ∙ sym tolerable_is

  pub end_is : (ps : List (List ℕ)) → picks_at ps near.at ≡ it.picks → end_of ps (end_by near cost) ≡ end_in doc room it
  end_is ps there = end_same near.to it.to (picks_at ps near.at) it.picks cost (cost_in doc room it) near.pick_demerits
      it.pick_demerits is.to there cost_is is.pick_demerits

  -- the best with this candidate's end
  module _ (cs : List Candidate) (ps : List (List ℕ)) (there : picks_at ps near.at ≡ it.picks) (bs : List End)
      (best : AreBest (text_ends doc room cs) bs) (high : int_lt (most_room room) near.least ≡ false) where
    pub best_refused : (near.kind.is_forced || nat_le cost.badness doc.style.tolerance) ≡ false →
        AreBest (text_ends doc room (cs ++ it ∷ [])) bs
    best_refused off = subst (AreBest (text_ends doc room (cs ++ it ∷ [])))
        (if_false (keeps_text doc room it) _ _ (keeps_is high ∙ off)) (keep_more doc room cs it bs best)

    pub best_kept : (near.kind.is_forced || nat_le cost.badness doc.style.tolerance) ≡ true → (new : List End) →
        new ≡ insert_end (end_of ps (end_by near cost)) bs → AreBest (text_ends doc room (cs ++ it ∷ [])) new
    best_kept on new e = subst (AreBest (text_ends doc room (cs ++ it ∷ [])))
        (if_true (keeps_text doc room it) _ _ (keeps_is high ∙ on)
        ∙ (ap (λ (x : End). insert_end x bs) (sym (end_is ps there)) ∙ sym e)) (keep_more doc room cs it bs best)

-- ---- one turn of the loop

pub best_near : (doc : Document) (most : ℤ) (room : TextRoom) (cs : List Candidate) (more nears : List NearValue)
    (near : NearValue) (bs new : List End) → more ≡ nears ++ near ∷ [] →
    (AllByRecursion (IsNearIn doc most cs) nears → AreBest (text_ends doc room (needed_in room.size cs nears)) bs) →
    (IsNearIn doc most cs near → AreBest (text_ends doc room (needed_in room.size cs nears)) bs →
    AreBest (text_ends doc room (needed_in room.size cs nears ++ needed_of room.size cs near)) new) →
    AllByRecursion (IsNearIn doc most cs) more → AreBest (text_ends doc room (needed_in room.size cs more)) new
best_near doc most room cs more nears near bs new e best step all =
    let parts = all_front (IsNearIn doc most cs) nears near (subst (AllByRecursion (IsNearIn doc most cs)) e all) in
    subst (λ (ns : List NearValue). AreBest (text_ends doc room (needed_in room.size cs ns)) new) (sym e)
    (subst (λ (ds : List Candidate). AreBest (text_ends doc room ds) new) (sym (needed_more room.size cs nears near))
    (step parts.1 (best parts.0)))

-- with what is needed of one candidate
pub best_with : (doc : Document) (room : TextRoom) (cs ds own : List Candidate) (near : NearValue)
    (old new : List End) → needed_of room.size ds near ≡ own →
    (AreBest (text_ends doc room cs) old → AreBest (text_ends doc room (cs ++ own)) new) →
    AreBest (text_ends doc room cs) old → AreBest (text_ends doc room (cs ++ needed_of room.size ds near)) new
best_with doc room cs ds own near old new is step best =
    subst (λ (xs : List Candidate). AreBest (text_ends doc room (cs ++ xs)) new) (sym is) (step best)

-- with nothing
pub best_same : (doc : Document) (room : TextRoom) (cs : List Candidate) (bs : List End) →
    AreBest (text_ends doc room cs) bs → AreBest (text_ends doc room (cs ++ [])) bs
best_same doc room cs bs best =
    subst (λ (xs : List Candidate). AreBest (text_ends doc room xs) bs) (sym (append-nil cs)) best

-- of the whole list
pub best_of_all : (doc : Document) (most : ℤ) (room : TextRoom) (cs : List Candidate) (nears whole : List NearValue) →
    whole ≡ nears → (bs : List End) →
    (AllByRecursion (IsNearIn doc most cs) whole → AreBest (text_ends doc room (needed_in room.size cs whole)) bs) →
    AllByRecursion (IsNearIn doc most cs) nears → AreBest (text_ends doc room (needed_in room.size cs nears)) bs
best_of_all doc most room cs nears whole all bs h =
    subst (λ (ns : List NearValue). AllByRecursion (IsNearIn doc most cs) ns →
    AreBest (text_ends doc room (needed_in room.size cs ns)) bs) all h
