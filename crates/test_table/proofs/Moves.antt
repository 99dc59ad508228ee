-- The moves of a number.
use Rattle.std.proofs.Common.{◌≡◌, ◌≢◌, ℕ, ◌+◌, ◌≤◌, ◌<◌, ◌⊎◌, inl, inr, Bool, true, false, List, [], ◌∷◌, ◌++◌, get_or, refl, sym, ◌∙◌, ap, subst, arith}
use Rattle.std.specs.Prelude.{ℤ, pos, Contains, AllPairs, nat_le, if◌then◌else◌}
use Rattle.std.proofs.lemmas.List.Elements.{Contains-get_or, Contains-push, Contains-push_cases, Contains-append_left}
use Rattle.std.proofs.lemmas.Bool.Decides.{nat_tests}
use Rattle.std.proofs.lemmas.List.Quantifiers.{all_pairs_push}
use Rattle.std.specs.Ordering.{nat_cmp}
use Rattle.std.proofs.lemmas.Cmp.{by_ranked, ranked}
use Rattle.pg_table.specs.Space.{AreMoves}
use Rattle.pg_table.specs.declared.step.Step.{Step}
use Rattle.test_table.specs.Numbers.{Adds, numbers, with_step}
use Rattle.std.proofs.lemmas.Bool.{leb-true}

abbrev step_by : ℕ → ℕ → Step ℕ ℕ
step_by u m = record { to = u + m; by = m; cost = pos 1 }

-- the steps are those by a number of at most n
record AreUpTo (last u n : ℕ) (steps : List (Step ℕ ℕ)) : Type 0 where
  sound : (s : Step ℕ ℕ) → Contains steps s → Adds last u s.by s.to s.cost
  below : (s : Step ℕ ℕ) → Contains steps s → s.by ≤ n
  whole : (m v : ℕ) (c : ℤ) → Adds last u m v c → m ≤ n → Contains steps (record { to = v; by = m; cost = c })
  once : AllPairs (λ s t. s.by ≢ t.by) steps

none_up_to : (last u : ℕ) → AreUpTo last u 0 []
none_up_to last u = record {
  sound = λ s c. absurd (let l : c.0 < 0 = c.1 in omega arith);
  below = λ s c. absurd (let l : c.0 < 0 = c.1 in omega arith);
  whole = λ m v c a l. absurd (let p : 0 < m = a.some in omega arith);
  once = λ i j d l k. absurd (omega arith);
}

same_step : (last u m v : ℕ) (c : ℤ) (n : ℕ) → m ≡ n → Adds last u m v c → ◌≡◌ {A = Step ℕ ℕ} (step_by u n)
    (record { to = v; by = m; cost = c })
same_step last u m v c n e a = let p : v ≡ u + n = a.sum ∙ ap (λ k. u + k) e in let q : c ≡ pos 1 = a.cost in
    cc

too_far : (k last : ℕ) → nat_le k last ≡ false → k ≤ last → ⊥
too_far k last h l = grind (arith, nat_tests)

one_more : (last u n : ℕ) (steps new : List (Step ℕ ℕ)) → n < 2 → AreUpTo last u n steps →
    new ≡ with_step last u (n + 1) steps → AreUpTo last u (n + 1) new
one_more last u n steps new few k e = by (nat_le (u + (n + 1)) last) refl e
  where
    split : (m : ℕ) → m ≤ n + 1 → (m ≤ n) ⊎ (m ≡ n + 1)
    split m h = by_ranked (m < n + 1) (m ≡ n + 1) (n + 1 < m) (nat_cmp m (n + 1)) (ranked m (n + 1)
        (nat_cmp m (n + 1)) refl) (λ _ p. inl (omega arith)) (λ _ p. inr p) (λ _ p. absurd (omega arith))

    by : (b : Bool) → nat_le (u + (n + 1)) last ≡ b → new ≡ (if b then steps ++ step_by u
        (n + 1) ∷ [] else steps) → AreUpTo last u (n + 1) new
    by true t e = subst (AreUpTo last u (n + 1)) (sym e) (record {
      sound = λ s c. elim (Contains-push_cases steps (step_by u (n + 1)) s c) [
        | inl h ↦ k.sound s h
        | inr h ↦ subst (λ z. Adds last u z.by z.to z.cost) h (record {
          some = omega arith;
          few = omega arith;
          sum = refl;
          within = leb-true (u + (n + 1)) last t;
          cost = refl;
        })
      ];
      below = λ s c. elim (Contains-push_cases steps (step_by u (n + 1)) s c) [
        | inl h ↦ let l : s.by ≤ n =
            k.below s h in omega arith
        | inr h ↦ let l : n + 1 ≡ s.by = ap (λ z. z.by) h in omega arith
      ];
      whole = λ m v c a l. elim (split m l) [
        | inl h ↦ Contains-append_left steps (step_by u (n + 1) ∷ [])
            (record { to = v; by = m; cost = c }) (k.whole m v c a h)
        | inr h ↦ subst
            (Contains (steps ++ step_by u (n + 1) ∷ [])) (same_step last u m v c (n + 1) h a)
            (Contains-push steps (step_by u (n + 1)))
      ];
      once = all_pairs_push (λ s t. s.by ≢ t.by) steps (step_by u (n + 1)) k.once (λ i d l. λ same. let b :
          (get_or steps i d).by ≤ n = k.below (get_or steps i d) (Contains-get_or steps i d l) in
          omega arith);
    })
    by false t e = subst (AreUpTo last u (n + 1)) (sym e) (record {
      sound = k.sound;
      below = λ s c. let l : s.by ≤ n = k.below s c in omega arith;
      whole = λ m v c a l. elim (split m l) [
        | inl h ↦ k.whole m v c a h
        | inr h ↦ absurd (let p : v ≡ u + m =
            a.sum in let q : v ≤ last = a.within in let r : u + (n + 1) ≤ last →
            ⊥ = too_far (u + (n + 1)) last t in r (omega arith))
      ];
      once = k.once;
    })

pub two_moves : (last u : ℕ) (one two : List (Step ℕ ℕ)) → one ≡ with_step last u 1 [] →
    two ≡ with_step last u 2 one → AreMoves (numbers last) u two
two_moves last u one two e f =
    let k : AreUpTo last u 2 two = one_more last u 1 one two (omega arith) (one_more last u 0 [] one
    (omega arith) (none_up_to last u) e) f in
    record {
      sound = λ s c. k.sound s c;
      whole = λ m v c a. k.whole m v c a a.few;
      once = k.once;
    }
