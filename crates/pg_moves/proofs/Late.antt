-- Ends of which is remembered that they come too late, and those that are left.
use Rattle.std.proofs.Common.{◌≡◌, refl, sym, ap, subst, ◌<◌, ℕ, Bool, List, [], ◌∷◌, ◌++◌, append_assoc, ◌∙◌, length, length-append, arith, ℤ}
use Rattle.std.specs.Prelude.{◌+ℤ◌, Option, Some, None, true}
use Rattle.std.proofs.lemmas.Int.{ints}
use Rattle.std.specs.List.{AllByRecursion}
use Rattle.pg_lemmas.proofs.Lists.{all_append, all_parts}
use Rattle.law_moves.specs.Steps.{fitness_cost, kept_fitness}
use Rattle.pg_candidates.specs.RoomEnds.{picks_at}
use Rattle.pg_candidates.specs.declared.room_end.RoomEnd.{RoomEnd}
use Rattle.pg_layouts.specs.Layouts.{move_of}
use Rattle.pg_plan.specs.declared.pages.PageMove.{PageMove}
use Rattle.pg_plan.specs.declared.states.State.{State}
use Rattle.pg_rooms.specs.Laid.{laid_of}
use Rattle.pg_rooms.specs.declared.laid.Laid.{Laid}
use Rattle.pg_rules.specs.Room.{Document}
use Rattle.pg_states.specs.Marks.{Marks, along, is_marked}
use Rattle.pg_states.specs.declared.settling.Settled.{Settled}
use Rattle.pg_style.specs.Values.{StyleValue}
use Rattle.pg_table.specs.declared.step.Step.{Step}
use Rattle.pg_moves.specs.Outdone.{AreLeft, AreSameMarks, AreSpared, IsAsked, IsLate, IsLateBy, IsSkipping, marked_at}
use Rattle.pg_moves.specs.Stepping.{IsBehind, IsOpenAt}
use Rattle.pg_moves.specs.Thinned.{Adds}
use Rattle.pg_moves.specs.declared.behind.Behind.{Behind}
use Rattle.pg_moves.specs.declared.behind.Reached.{Reached}
use Rattle.pg_moves.proofs.Added.{adds_more, adds_none, adds_same}
use Rattle.pg_moves.proofs.Built.{asked_is, late_at, step}
use Rattle.pg_moves.proofs.Stepped.{Going, going_more, listed_append, listed_of, outdone_step}

-- ---- what is remembered

-- of nothing nothing is told
pub none_told : (spared : State → ℤ → Bool) (page : ℤ) (it : Option Reached) → it ≡ None → (v : State) (pays : ℤ) →
    marked_at it v pays ≡ true → spared v (page +ℤ pays) ≡ true
none_told spared page None e v pays h = absurd cc
none_told spared page (Some it) e v pays h = absurd cc

-- what is told of moves from a label is told beside what the column pays for its page
pub told_at : (spared : State → ℤ → Bool) (line marks : Marks) (cost page sum : ℤ) → line ≡ marks →
    sum ≡ cost +ℤ page →
    ((v : State) (pays : ℤ) → is_marked marks v (cost +ℤ pays) ≡ true → spared v pays ≡ true) →
    (v : State) (pays : ℤ) → is_marked line v (sum +ℤ pays) ≡ true → spared v (page +ℤ pays) ≡ true
told_at spared line marks cost page sum m s told v pays h = told v (page +ℤ pays)
    (subst (λ (it : Marks). is_marked it v (cost +ℤ (page +ℤ pays)) ≡ true) m
    (subst (λ (c : ℤ). is_marked line v c ≡ true) in_order h))
  where
    in_order : sum +ℤ pays ≡ cost +ℤ (page +ℤ pays)
    in_order = omega (arith, ints, s)

-- ---- ends that are left

pub none_left : {X : Type 0} (xs : List X) → length xs < 1 → xs ≡ []
none_left [] less = refl
none_left (x ∷ xs) less = absurd (omega (arith, less))

-- before any end is looked at
pub all_left : (style : StyleValue) (u : State) (it : Behind) (ends : List RoomEnd) → AreLeft style u it ends ends
all_left style u it ends = record { first = []; whole = refl; late = tt }

-- one end more comes too late
pub late_more : (style : StyleValue) (u : State) (it : Behind) (ends rest after : List RoomEnd) (end : RoomEnd) →
    rest ≡ end ∷ after → AreLeft style u it ends rest → IsLate style u it end → AreLeft style u it ends after
late_more style u it ends rest after end is left late = record {
  first = left.first ++ end ∷ [];
  whole = left.whole ∙ (subst (λ (xs : List RoomEnd). left.first ++ rest ≡ left.first ++ xs) is refl
      ∙ sym (append_assoc left.first (end ∷ []) after));
  late = all_append (IsLate style u it) left.first (end ∷ []) left.late (late, tt);
}

-- fewer are left than before one more was looked at
pub left_fewer : (style : StyleValue) (u : State) (it : Behind) (rest after left : List RoomEnd) (end : RoomEnd) →
    rest ≡ end ∷ after → AreLeft style u it after left → length left < length rest
left_fewer style u it rest after left end split are =
    let longer = ap length split in
    let parts = ap length are.whole in
    omega (arith, longer, parts, length-append are.first left)

-- ---- while they are passed over

-- what is marked does not depend on whom is asked
same_late : (style : StyleValue) (u line : State) (own it : Reached) (end : RoomEnd) → AreSameMarks own it →
    IsLateBy style u line (Some it) end → IsLateBy style u line (Some own) end
same_late style u line own it end same late =
    let there = along line end.to (kept_fitness style end.cost.fitness) in
    let pays = (end.cost.demerits +ℤ end.pick_demerits) +ℤ fitness_cost style u.fitness end.cost.fitness in
    subst (λ m. is_marked m.now there (own.cost +ℤ pays) ≡ true) same.marks
    (subst (λ (cost : ℤ). is_marked it.line.marks.now there (cost +ℤ pays) ≡ true) same.cost late)

-- before any end is looked at
pub skip_none : (style : StyleValue) (u : State) (it : Behind) (ends : List RoomEnd) (own : Reached) →
    it.reached ≡ Some own → IsAsked it.state own → IsSkipping style u it ends own ends
skip_none style u it ends own is asked = record {
  left = all_left style u it ends;
  asked = asked;
  own = (own, (is, record { marks = refl; cost = refl }));
}

-- one end more comes too late
pub skip_more : (style : StyleValue) (u : State) (it : Behind) (ends rest after : List RoomEnd) (end : RoomEnd)
    (reached next : Reached) → rest ≡ end ∷ after → IsSkipping style u it ends reached rest → IsAsked it.state next →
    AreSameMarks reached next → IsLateBy style u it.state (Some reached) end → IsSkipping style u it ends next after
skip_more style u it ends rest after end reached next is skips asked same late =
    let own = skips.own.0 in
    let was = skips.own.1.1 in
    record {
      left = late_more style u it ends rest after end is skips.left
          (subst (λ (o : Option Reached). IsLateBy style u it.state o end) (sym skips.own.1.0)
          (same_late style u it.state own reached end was late));
      asked = asked;
      own = (own, (skips.own.1.0, record { marks = same.marks ∙ was.marks; cost = same.cost ∙ was.cost }));
    }

-- ---- their steps

module _ (doc : Document) (u : State) (laid : Laid) (is : laid ≡ laid_of doc u laid.layout) (spared : State → ℤ → Bool)
    (cs : List (List ℕ)) (settled : Settled) where
  -- a place at which the column may end
  abbrev IsOpen : RoomEnd → Type 0
  IsOpen end = IsOpenAt doc u laid settled end.to

  module _ (it : Behind) (behind : IsBehind doc.style u laid settled it) (are : AreSpared spared it) where
    late_step : (end : RoomEnd) (old : List (Step State PageMove)) → IsLate doc.style u it end → IsOpen end →
        Adds spared old (listed_of doc u cs laid.layout (end ∷ [])) old
    late_step end old late goes =
        let text = end.cost.demerits +ℤ end.pick_demerits in
        let pays = fitness_cost doc.style u.fitness end.cost.fitness in
        let there = along it.state end.to (kept_fitness doc.style end.cost.fitness) in
        outdone_step doc u laid is spared cs end settled
        (step doc u laid is there (move_of u laid.layout end.to (picks_at cs end.at)) (text +ℤ (it.page +ℤ pays)))
        (asked_is doc u laid is cs end settled it (record it { state = there }) _ refl behind refl) goes old
        (late_at doc.style u spared it there text pays are late)

    late_steps : (first : List RoomEnd) (old : List (Step State PageMove)) →
        AllByRecursion (IsLate doc.style u it) first → AllByRecursion IsOpen first →
        Adds spared old (listed_of doc u cs laid.layout first) old
    late_steps [] old late goes = adds_none spared old
    late_steps (end ∷ ends) old late goes = adds_same spared old old
        (listed_of doc u cs laid.layout (end ∷ []) ++ listed_of doc u cs laid.layout ends)
        (listed_of doc u cs laid.layout (end ∷ ends)) (sym (listed_append doc u cs laid.layout (end ∷ []) ends))
        (adds_more spared old old old (listed_of doc u cs laid.layout (end ∷ []))
        (listed_of doc u cs laid.layout ends) (late_step end old late.0 goes.0) (late_steps ends old late.1 goes.1))

    -- ends that come too late are passed over
    pub skipped : (ends rest left : List RoomEnd) (old mid : List (Step State PageMove)) →
        AreLeft doc.style u it rest left →
        AllByRecursion IsOpen rest × Going doc u spared cs laid.layout ends rest old mid →
        AllByRecursion IsOpen left × Going doc u spared cs laid.layout ends left old mid
    skipped ends rest left old mid skips (goes, going) =
        let both = all_parts IsOpen skips.first left (subst (AllByRecursion IsOpen) skips.whole goes) in (
          both.1,
          going_more doc u spared cs laid.layout ends rest skips.first left old mid mid skips.whole going
              (late_steps skips.first mid skips.late both.0),
        )

  -- the step to one end more
  pub one_more : (ends rest after : List RoomEnd) (end : RoomEnd) (old mid new : List (Step State PageMove)) →
      rest ≡ end ∷ after → (IsOpen end → Adds spared mid (listed_of doc u cs laid.layout (end ∷ [])) new) →
      AllByRecursion IsOpen rest × Going doc u spared cs laid.layout ends rest old mid →
      AllByRecursion IsOpen after × Going doc u spared cs laid.layout ends after old new
  one_more ends rest after end old mid new split adds (goes, going) =
      let here : AllByRecursion IsOpen (end ∷ after) = subst (AllByRecursion IsOpen) split goes in (
        here.1,
        going_more doc u spared cs laid.layout ends rest (end ∷ []) after old mid new split going (adds here.0),
      )
