-- What taking a label from the bucket whose turn is first keeps.
use Rattle.std.proofs.Common.{inl, inr, ◌≡◌, ℕ, ◌+◌, ◌≤◌, ◌<◌, Bool, true, false, List, [], ◌∷◌, ◌++◌, length, set, refl, sym, ◌∙◌, ap, subst, arith, Some, eq-eqb}
use Rattle.std.proofs.lemmas.Bool.{eqb-true}
use Rattle.std.specs.Prelude.{◌==◌, ◌≢◌, Contains, slice_get}
use Rattle.std.specs.Cmp.{IsEquivalence}
use Rattle.std.specs.Ordering.{nat_cmp}
use Rattle.std.specs.List.Sorted.{IsPermutation}
use Rattle.std.specs.BinaryHeap.{IsHeap, IsUpperBound}
use Rattle.std.specs.declared.cmp.Reverse.{Reverse}
use Rattle.std.proofs.lemmas.Cmp.{by_ranked, ranked}
use Rattle.std.proofs.lemmas.Option.{slice_get_within, same_Some}
use Rattle.pg_table.specs.Space.{Meaning, Lawful}
use Rattle.pg_table.specs.Searching.{Taken, weight}
use Rattle.pg_table.specs.Pending.{IsHeld, IsClosed, Exact, Stored, load, turn_order}
use Rattle.pg_table.specs.Bucket.{Labels}
use Rattle.pg_table.specs.declared.table.Entry.{Entry}
use Rattle.pg_table.specs.declared.pending.Turn.{Turn}
use Rattle.pg_table.proofs.Lists.{set_same, set_other}
use Rattle.pg_table.proofs.Store.{stored_done, load_done, stored_taken, taken_held, load_taken, held_open, held_closed, stored_closed, load_closed}
use Rattle.pg_table.proofs.Turns.{exact_done}

-- the bucket of a turn has a label
pub filled_bucket : {S M : Type 0} (bs : List (Labels S M)) (ts : List (Reverse Turn)) →
    Exact bs ts → (t : Reverse Turn) → Contains ts t → (b : Labels S M) →
    slice_get bs t.0.place ≡ Some b → 0 < length b.items
filled_bucket {S} {M} bs ts x t among b bat =
    let f : (d : Labels S M) × ((slice_get bs t.0.place ≡ Some d) × (0 < length d.items)) =
    x.filled t among in
    let same : f.0 ≡ b = same_Some f.0 b (sym f.1.0 ∙ bat) in
    subst (λ z. 0 < length z.items) same f.1.1

pub turn_within : {S M : Type 0} (bs : List (Labels S M)) (ts : List (Reverse Turn)) →
    Exact bs ts → (t : Reverse Turn) → Contains ts t → t.0.place < length bs
turn_within bs ts x t among = slice_get_within bs t.0.place (x.filled t among).0 (x.filled t among).1.0

pub not_closed : {S M : Type 0} (bs : List (Labels S M)) (i : ℕ) (a c : Labels S M)
    (r : Bool) → i < length bs → slice_get (set bs i c) i ≡ Some a → r ≡ (length a.items == 0) → r ≡ false →
    0 < length c.items
not_closed bs i a c r within at e f =
    let same : a ≡ c = same_Some a c (sym at ∙ set_same bs i c within) in
    by_ranked (length c.items < 0) (length c.items ≡ 0) (0 < length c.items) (nat_cmp (length c.items) 0)
    (ranked (length c.items) 0 (nat_cmp (length c.items) 0) refl)
    (λ _ h. absurd (omega arith))
    (λ _ z. absurd (let t : (length a.items == 0) ≡ true = eq-eqb (length a.items) 0 (ap (λ v. length v.items) same ∙
    z) in cc))
    (λ _ h. h)

pub is_closed : {S M : Type 0} (bs : List (Labels S M)) (i : ℕ) (a c : Labels S M)
    (r : Bool) → i < length bs → slice_get (set bs i c) i ≡ Some a → r ≡ (length a.items == 0) → r ≡ true →
    length c.items ≡ 0
is_closed bs i a c r within at e f =
    let same : a ≡ c = same_Some a c (sym at ∙ set_same bs i c within) in
    sym (ap (λ v. length v.items) same) ∙ eqb-true (length a.items) 0 (sym e ∙ f)

taken_alike : {S M K : Type 0} (sp : Meaning S M K) (es : List (Entry S M)) (y : Entry S M)
    (P Q R : Entry S M → Type 0) → ((p : Entry S M) → R p → Q p) → ((p : Entry S M) → Q p → R p) →
    Taken sp es y P Q → Taken sp es y P R
taken_alike {S} {M} sp es y P Q R to from t = record {
  among = t.among;
  fewer = λ p h. t.fewer p (to p h);
  cases = λ p h. elim (t.cases p h) [ inl q ↦ inl (from p q) | inr e ↦ inr e ];
  apart = λ p h. t.apart p (to p h);
  first = t.first;
}

module _ {S M K : Type 0} (eq : K → K → Bool) (laws : IsEquivalence eq) (sp : Meaning S M K)
    (law : Lawful eq sp) (es : List (Entry S M)) (ks : List K) (bs : List (Labels S M))
    (ts : List (Reverse Turn)) (s : Stored eq sp es ks bs ts) (x : Exact bs ts)
    (t : Reverse Turn) (among : Contains ts t) (least : IsUpperBound (λ x y. turn_order y.0 x.0) t ts)
    (b : Labels S M) (bat : slice_get bs t.0.place ≡ Some b) (y : Entry S M)
    (c : Labels S M) (is : b.items ≡ c.items ++ y ∷ []) where
  within : t.0.place < length bs
  within = slice_get_within bs t.0.place b bat

  abbrev left : List (Labels S M)
  left = set bs t.0.place c

  stored_left : Stored eq sp es ks left ts
  stored_left = stored_taken eq laws sp law es ks bs ts s t among least b bat y c is

  -- that was the last label of the bucket, which is closed
  module _ (none : length c.items ≡ 0) (ts' : List (Reverse Turn)) (perm : IsPermutation ts (t ∷ ts'))
      (heap : IsHeap (λ x y. turn_order y.0 x.0) ts') (bs' : List (Labels S M))
      (closed : IsClosed t.0.place left bs') where
    at : slice_get left t.0.place ≡ Some c
    at = set_same bs t.0.place c within

    pub last_stored : Stored eq sp es ks bs' ts'
    last_stored = stored_closed eq laws sp law es ks left ts' t.0.place c at none bs' closed
        (stored_done eq laws sp law es ks left ts stored_left t ts' perm c at none heap)

    pub last_exact : Exact bs' ts'
    last_exact = exact_done bs ts x t ts' perm bs' same
      where
        same : (j : ℕ) (d : Labels S M) → j ≢ t.0.place → slice_get bs j ≡ Some d →
            slice_get bs' j ≡ Some d
        same j d n at =
            subst (λ z. slice_get z j ≡ Some d) (sym closed.1.1) (set_other left t.0.place closed.0
            (slice_get_within left t.0.place c (set_same bs t.0.place c within)) j d n
            (set_other bs t.0.place c within j d n at))

    pub last_taken : Taken sp es y (IsHeld bs) (IsHeld bs')
    last_taken =
        taken_alike sp es y (IsHeld bs) (IsHeld left) (IsHeld bs')
        (held_open eq laws sp law es ks left ts t.0.place c at none bs' closed)
        (held_closed eq laws sp law es ks left ts t.0.place c at none bs' closed)
        (taken_held eq laws sp law es ks bs ts s t among least b bat y c is)

    pub last_load : load sp bs' ts' + weight (sp.rank y.state) ≤ load sp bs ts
    last_load =
        let l : load sp left ts + weight (sp.rank y.state) ≤ load sp bs ts =
        load_taken eq laws sp law es ks bs ts s t among least b bat y c is in
        let m : load sp left ts' ≤ load sp left ts =
        load_done eq laws sp law es ks left ts stored_left t ts' perm c at none heap in
        let n : load sp bs' ts' ≡ load sp left ts' =
        load_closed eq laws sp law es ks left ts' t.0.place c at none bs' closed in
        omega arith
