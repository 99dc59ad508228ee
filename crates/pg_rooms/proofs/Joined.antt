-- The ends in a room of two lists of candidates, of which the one stand before the other.
use Rattle.std.proofs.Common.{◌≡◌, refl, ap, ◌∙◌, inl, inr, true, false, Bool, List, [], ◌∷◌, ◌++◌, map}
use Rattle.std.specs.Prelude.{if◌then◌else◌}
use Rattle.std.specs.List.{filter}
use Rattle.std.specs.Ordering.{nat_cmp, ordering_reverse, ordering_then}
use Rattle.std.specs.declared.cmp.Ordering.{Ordering}
use Rattle.std.specs.declared.cmp.Ordering.TheVariants.{Less, Equal, Greater}
use Rattle.pg_column.specs.declared.cost.TextRoom.{TextRoom}
use Rattle.pg_column.specs.declared.end.End.{End}
use Rattle.pg_list.specs.declared.galley.Place.{Place}
use Rattle.pg_plan.specs.Order.{place_cmp}
use Rattle.pg_rules.specs.Room.{Document}
use Rattle.law_walk.specs.Best.{AreBest, Ascend, IsAmong, IsFirst, end_cmp}
use Rattle.law_walk.specs.Candidates.{Candidate, end_in, keeps_in, kept_ends}
use Rattle.law_walk.proofs.BestLaws.{end_total, not_both}
use Rattle.law_walk.proofs.Complete.{among_left, among_right}
use Rattle.law_walk.proofs.Ends.{IsKept, kept_of}
use Rattle.pg_walk.proofs.Moves.{among_cases}
use Rattle.pg_walk.specs.Fronts.{AreApart}

-- each of the one is before each of the other
abbrev pub ComeBefore : List End → List End → Type 0
ComeBefore es fs = (x y : End) → IsAmong x es → IsAmong y fs → end_cmp x y ≡ Less

-- ---- the ends of both lists

pub kept_append : (doc : Document) (room : TextRoom) (cs ds : List Candidate) →
    kept_ends doc room (cs ++ ds) ≡ kept_ends doc room cs ++ kept_ends doc room ds
kept_append doc room [] ds = refl
kept_append doc room (c ∷ cs) ds = by (keeps_in doc room c) (kept_append doc room cs ds)
  where
    by : (b : Bool) → kept_ends doc room (cs ++ ds) ≡ kept_ends doc room cs ++ kept_ends doc room ds →
        map (end_in doc room) (if b then c ∷ filter (keeps_in doc room) (cs ++ ds)
        else filter (keeps_in doc room) (cs ++ ds))
        ≡ map (end_in doc room) (if b then c ∷ filter (keeps_in doc room) cs else filter (keeps_in doc room) cs)
        ++ kept_ends doc room ds
    by true e = ap (λ (es : List End). end_in doc room c ∷ es) e
    by false e = e

pub kept_apart : (doc : Document) (room : TextRoom) (cs ds : List Candidate) → AreApart cs ds →
    ComeBefore (kept_ends doc room cs) (kept_ends doc room ds)
kept_apart doc room cs ds apart x y a b =
    let c : IsKept doc room (keeps_in doc room) cs x = kept_of doc room (keeps_in doc room) cs x a in
    let d : IsKept doc room (keeps_in doc room) ds y = kept_of doc room (keeps_in doc room) ds y b in
    let at : x.to ≡ c.candidate.to = ap (λ (e : End). e.to) c.is in
    let to : y.to ≡ d.candidate.to = ap (λ (e : End). e.to) d.is in
    ap (λ (o : Ordering). ordering_then o (nat_cmp x.cost.fitness y.cost.fitness))
    (ap (λ (p : Place). place_cmp p y.to) at ∙ (ap (place_cmp c.candidate.to) to
    ∙ apart c.candidate d.candidate c.listed d.listed))

-- ---- the best of them

less_back : (x y : End) → end_cmp x y ≡ Less → end_cmp y x ≡ Greater
less_back x y e = end_total.antisymm y x ∙ ap ordering_reverse e

not_greater : {P : Type 0} (o : Ordering) → o ≡ Greater → o ≡ Equal → P
not_greater Less p q = absurd cc
not_greater Equal p q = absurd cc
not_greater Greater p q = absurd cc

first_append : (e : End) (bs es : List End) → IsFirst e bs → ((y : End) → IsAmong y es → end_cmp e y ≡ Less) →
    IsFirst e (bs ++ es)
first_append e [] [] h less = tt
first_append e [] (y ∷ es) h less = (less y (inl refl), first_append e [] es tt (λ z a. less z (inr a)))
first_append e (b ∷ bs) es h less = (h.0, first_append e bs es h.1 less)

ascend_append : (bs es : List End) → Ascend bs → Ascend es → ComeBefore bs es → Ascend (bs ++ es)
ascend_append [] es p q less = q
ascend_append (b ∷ bs) es p q less = (
  first_append b bs es p.0 (λ y a. less b y (inl refl) a),
  ascend_append bs es p.1 q (λ x y a c. less x y (inr a) c),
)

pub best_append : (xs ys bs es : List End) → AreBest xs bs → AreBest ys es → ComeBefore xs ys →
    AreBest (xs ++ ys) (bs ++ es)
best_append xs ys bs es first rest less = record {
  ascend = ascend_append bs es first.ascend rest.ascend
      (λ x y a b. less x y (first.among x a) (rest.among y b));
  among = λ x a. elim (among_cases bs es x a) [
    | inl p ↦ among_left x xs ys (first.among x p)
    | inr q ↦ among_right x xs ys (rest.among x q)
  ];
  under = λ x y a b t. elim (among_cases bs es x a) [
    | inl p ↦ elim (among_cases xs ys y b) [
      | inl c ↦ first.under x y p c t
      | inr c ↦ not_both (end_cmp x y) (less x y (first.among x p) c) t
    ]
    | inr q ↦ elim (among_cases xs ys y b) [
      | inl c ↦ not_greater (end_cmp x y) (less_back y x (less y x c (rest.among x q))) t
      | inr c ↦ rest.under x y q c t
    ]
  ];
  there = λ y b. elim (among_cases xs ys y b) [
    | inl p ↦ let w = first.there y p in (w.0, (among_left w.0 bs es w.1.0, w.1.1))
    | inr q ↦ let w = rest.there y q in (w.0, (among_right w.0 bs es w.1.0, w.1.1))
  ];
}
