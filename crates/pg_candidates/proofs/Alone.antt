-- What no room changes of candidates that are each the only one of their place, one after another.
use Rattle.std.proofs.Common.{◌≡◌, refl, sym, ap, ◌∙◌, subst, ℕ, zero, suc, ◌+◌, List, [], ◌∷◌, ◌++◌, append-nil, length, drop, arith, Some, ℤ}
use Rattle.std.specs.Prelude.{slice_get}
use Rattle.std.specs.List.{AllByRecursion}
use Rattle.std.proofs.lemmas.List.{append_assoc}
use Rattle.pg_lemmas.proofs.Lists.{get_all}
use Rattle.pg_rules.specs.Room.{Document}
use Rattle.law_walk.specs.Candidates.{Candidate}
use Rattle.pg_candidates.specs.Alone.{AreNearAlone, IsNearAlone}
use Rattle.pg_candidates.specs.Nears.{AreNear, ArePicks, NearValue}
use Rattle.pg_candidates.specs.Seen.{AreServedBefore}
use Rattle.pg_candidates.specs.Taken.{IsPlain}
use Rattle.pg_candidates.proofs.Needed.{near_all, none_served, served_next}

-- the first of what is left stands at the index, and the others are left behind it
cut_at : {X : Type 0} (n : ℕ) (xs : List X) (y : X) (ys : List X) → drop n xs ≡ y ∷ ys →
    (slice_get xs n ≡ Some y) × (drop (n + 1) xs ≡ ys)
cut_at zero [] y ys e = absurd cc
cut_at (suc n) [] y ys e = absurd cc
cut_at zero (x ∷ xs) y ys e = (ap (λ zs. slice_get zs 0) e, ap (drop 1) e)
cut_at (suc n) (x ∷ xs) y ys e =
    let q : suc n + 1 ≡ suc (n + 1) = omega arith in
    let there = cut_at n xs y ys e in
    (there.0, ap (λ (k : ℕ). drop k (x ∷ xs)) q ∙ there.1)

-- candidates without picks
no_picks : (cs : List Candidate) → AllByRecursion IsPlain cs → ArePicks cs []
no_picks cs plain = λ i c e. sym (get_all IsPlain cs i c plain e).0

module _ (doc : Document) (most : ℤ) where
  -- one for each
  pub as_many : (n : ℕ) (cs : List Candidate) (nears : List NearValue) → AreNearAlone doc most n cs nears →
      length nears ≡ length cs
  as_many n [] [] all = refl
  as_many n [] (near ∷ nears) all = absurd all
  as_many n (c ∷ cs) [] all = absurd all
  as_many n (c ∷ cs) (near ∷ nears) all = ap suc (as_many (n + 1) cs nears all.1)

  -- and one more behind the others
  pub alone_next : (n : ℕ) (cs : List Candidate) (nears : List NearValue) (c : Candidate) (near : NearValue) →
      AreNearAlone doc most n cs nears → IsNearAlone doc most (n + length nears) c near →
      AreNearAlone doc most n (cs ++ c ∷ []) (nears ++ near ∷ [])
  alone_next n [] [] c near all own =
      let q : n + 0 ≡ n = omega arith in
      (subst (λ (k : ℕ). IsNearAlone doc most k c near) q own, tt)
  alone_next n [] (x ∷ xs) c near all own = absurd all
  alone_next n (d ∷ cs) [] c near all own = absurd all
  alone_next n (d ∷ cs) (x ∷ xs) c near all own =
      let q : n + suc (length xs) ≡ (n + 1) + length xs = omega arith in
      (all.0, alone_next (n + 1) cs xs c near all.1 (subst (λ (k : ℕ). IsNearAlone doc most k c near) q own))

  -- of those left from an index on, where so it is for all before
  served_on : (all : List Candidate) (n : ℕ) (cs : List Candidate) (olds nears : List NearValue) → drop n all ≡ cs →
      AreServedBefore doc most all n olds → AreNearAlone doc most n cs nears →
      AreServedBefore doc most all (n + length cs) (olds ++ nears)
  served_on all n [] olds [] e served are =
      let q : n ≡ n + 0 = omega arith in
      subst (AreServedBefore doc most all (n + 0)) (sym (append-nil olds))
      (subst (λ (k : ℕ). AreServedBefore doc most all k olds) q served)
  served_on all n [] olds (near ∷ nears) e served are = absurd are
  served_on all n (c ∷ cs) olds [] e served are = absurd are
  served_on all n (c ∷ cs) olds (near ∷ nears) e served are =
      let there = cut_at n all c cs e in
      let q : (n + 1) + length cs ≡ n + suc (length cs) = omega arith in
      subst (λ (k : ℕ). AreServedBefore doc most all k (olds ++ near ∷ nears)) q
      (subst (AreServedBefore doc most all ((n + 1) + length cs)) (append_assoc olds (near ∷ []) nears)
      (served_on all (n + 1) cs (olds ++ near ∷ []) nears there.1
      (served_next doc most all n olds served near are.0.at c there.0 are.0.near are.0.until) are.1))

  -- so these are what no room changes of the candidates, where none has picks
  pub near_alone : (cs : List Candidate) (ps : List (List ℕ)) (nears : List NearValue) → ps ≡ [] →
      AllByRecursion IsPlain cs → AreNearAlone doc most 0 cs nears →
      AreNear doc most cs (record { picks = ps; nears = nears })
  near_alone cs ps nears none plain are =
      let q : 0 + length cs ≡ length cs = omega arith in
      let served = subst (λ (k : ℕ). AreServedBefore doc most cs k nears) q
      (served_on cs 0 cs [] nears refl (none_served doc most cs) are) in
      near_all doc most cs ps served.seen nears (subst (ArePicks cs) (sym none) (no_picks cs plain)) served.all served.are
