-- The place of a label's key, found by a hint.
use Rattle.std.proofs.Common.{◌≡◌, ℕ, ◌<◌, inl, inr, ◌∷◌, zero, suc, Bool, true, false, List, length, refl, sym, ◌∙◌, subst, arith, Some}
use Rattle.std.specs.Prelude.{slice_get, ◌==◌}
use Rattle.std.specs.Cmp.{IsEquivalence}
use Rattle.std.specs.BinaryHeap.{IsHeap}
use Rattle.std.specs.List.Sorted.{IsPermutation}
use Rattle.std.specs.declared.cmp.Reverse.{Reverse}
use Rattle.std.proofs.lemmas.Option.{slice_get_within, same_Some}
use Rattle.pg_lemmas.proofs.Lists.{some_at}
use Rattle.pg_table.specs.Space.{Meaning, Lawful}
use Rattle.pg_table.specs.Pending.{IsMetAt, Placed, HasTurn, Seated, Stored, turn_order}
use Rattle.pg_table.specs.Bucket.{Labels}
use Rattle.pg_table.specs.declared.table.Entry.{Entry}
use Rattle.pg_table.specs.declared.pending.Turn.{Turn}
use Rattle.pg_table.proofs.Labels.{label_own}
use Rattle.pg_table.proofs.Lists.{contains_at, some_length}

-- what is met in a bucket tells the place of the key
pub met_seated : {S M K : Type 0} (eq : K → K → Bool) (laws : IsEquivalence eq) (sp : Meaning S M K)
    (law : Lawful eq sp) (es : List (Entry S M)) (ks : List K) (bs : List (Labels S M))
    (ts : List (Reverse Turn)) → Stored eq sp es ks bs ts → (u : S) → sp.Own u → (i : ℕ) →
    IsMetAt sp u bs i → Seated eq sp u ks bs ts ks bs ts i
met_seated {S} {M} {K} eq laws sp law es ks bs ts s u own i m = record {
  placed = record { found = (key.0, (key.1, same)); either = inl (refl, inl refl) };
  turns = record {
    either = inl (
      refl,
      λ b bat. subst (λ z. 0 < length z.items) (same_Some m.bucket b (sym m.is ∙ bat))
          (some_length m.bucket.items m.label m.among),
    );
  };
  heap = λ h. h;
}
  where
    key : (k : K) × (slice_get ks i ≡ Some k)
    key = let l : i < length bs = slice_get_within bs i m.bucket m.is in some_at ks i (omega (arith, s.long))

    held : sp.Own m.label.state
    held = label_own eq sp law es m.label (s.labels m.label (i, (m.bucket, (m.is, m.among))))

    same : eq (sp.key u) key.0 ≡ true
    same = laws.congr (sp.key u) (sp.key m.label.state) key.0
        (law.one_key u m.label.state own held m.no_worse) ∙ (laws.symm (sp.key m.label.state) key.0 ∙
        s.keyed i m.bucket m.label key.0 m.is m.among key.1)

-- a bucket that is empty gets a turn
pub turn_added : {S M K : Type 0} (sp : Meaning S M K) (u : S) (i : ℕ) (bs : List (Labels S M))
    (old new : List (Reverse Turn)) (b : Labels S M) (turn : Turn) → slice_get bs i ≡ Some b → length b.items ≡ 0
    → turn.block ≡ sp.block u → turn.rank ≡ sp.rank u → turn.place ≡ i
    → IsPermutation (record { 0 = turn } ∷ old) new → HasTurn sp u i bs old new
turn_added sp u i bs old new b turn at none block rank place sorted = record {
  either = inr (
    subst (λ (t : Turn). IsPermutation (record { 0 = t } ∷ old) new) (own turn block rank place) sorted,
    λ x there. subst (λ z. length z.items ≡ 0) (same_Some b x (sym at ∙ there)) none,
  );
}
  where
    make : (b r p b' r' p' : ℕ) → b ≡ b' → r ≡ r' → p ≡ p'
        → ◌≡◌ {A = Turn} (record { block = b; rank = r; place = p }) (record { block = b'; rank = r'; place = p' })
    make b r p b' r' p' e f g = cc

    own : (t : Turn) → t.block ≡ sp.block u → t.rank ≡ sp.rank u → t.place ≡ i
        → t ≡ record { block = sp.block u; rank = sp.rank u; place = i }
    own t p q r = make t.block t.rank t.place (sp.block u) (sp.rank u) i p q r

-- one that is not has one
pub turn_kept : {S M K : Type 0} (sp : Meaning S M K) (u : S) (i : ℕ) (bs : List (Labels S M))
    (old : List (Reverse Turn)) (b : Labels S M) → slice_get bs i ≡ Some b → (length b.items == 0) ≡ false
    → HasTurn sp u i bs old old
turn_kept sp u i bs old b at some = record {
  either = inl (
    refl,
    λ x there. subst (λ z. 0 < length z.items) (same_Some b x (sym at ∙ there)) (not_zero (length b.items) some),
  );
}
  where
    not_zero : (n : ℕ) → (n == 0) ≡ false → 0 < n
    not_zero zero e = absurd cc
    not_zero (suc n) e = omega arith

-- the key was looked up, and its bucket has a turn
pub put_seated : {S M K : Type 0} (eq : K → K → Bool) (sp : Meaning S M K) (u : S) (ks ks₁ ks₂ : List K)
    (bs bs₁ bs₂ : List (Labels S M)) (ts ts₁ ts₂ : List (Reverse Turn)) (key : K) (i : ℕ) → key ≡ sp.key u →
    Placed eq ks bs key ks₁ bs₁ i → ts₁ ≡ ts → ks₂ ≡ ks₁ → bs₂ ≡ bs₁ → HasTurn sp u i bs₁ ts₁ ts₂ →
    (IsHeap (λ x y. turn_order y.0 x.0) ts₁ → IsHeap (λ x y. turn_order y.0 x.0) ts₂) →
    Seated eq sp u ks bs ts ks₂ bs₂ ts₂ i
put_seated eq sp u ks ks₁ ks₂ bs bs₁ bs₂ ts ts₁ ts₂ key i is placed turns keys buckets turn heap = record {
  placed = subst (λ z. Placed eq ks bs (sp.key u) z bs₂ i) (sym keys)
      (subst (λ z. Placed eq ks bs (sp.key u) ks₁ z i) (sym buckets)
      (subst (λ z. Placed eq ks bs z ks₁ bs₁ i) is placed));
  turns = subst (λ z. HasTurn sp u i z ts ts₂) (sym buckets) (subst (λ z. HasTurn sp u i bs₁ z ts₂) turns turn);
  heap = subst (λ z. IsHeap (λ x y. turn_order y.0 x.0) z → IsHeap (λ x y. turn_order y.0 x.0) ts₂) turns heap;
}

-- what a hint found in a bucket, than which the state is no worse
pub met_in : {S M K : Type 0} (sp : Meaning S M K) (u : S) (bs : List (Labels S M)) (i j : ℕ) (b : Labels S M)
    (p : Entry S M) → slice_get bs i ≡ Some b → Some p ≡ slice_get b.items j → sp.no_worse u p.state ≡ true →
    IsMetAt sp u bs i
met_in sp u bs i j b p is at no_worse = record {
  bucket = b;
  is = is;
  label = p;
  among = contains_at b.items j p (sym at);
  no_worse = no_worse;
}
