-- Orders that go down only so far, as induction.
use Rattle.std.proofs.Common.{◌≡◌, refl, sym, subst, ◌∙◌, ℕ, zero, suc, ◌≤◌, ◌<◌, List, [], ◌∷◌, length, arith}
use Rattle.std.specs.Prelude.{ℤ, pos, negsuc, ◌+ℤ◌, ◌-ℤ◌, ◌≤ℤ◌, ◌<ℤ◌}
use Rattle.std.specs.List.{AllByRecursion}
use Rattle.std.specs.Ordering.{nat_cmp, int_cmp, ordering_then}
use Rattle.std.specs.declared.cmp.Ordering.{Ordering}
use Rattle.std.specs.declared.cmp.Ordering.TheVariants.{Less, Equal, Greater}
use Rattle.std.specs.Cmp.Lexicographic.{slice_cmp}
use Rattle.std.proofs.lemmas.Cmp.{by_ranked, int_ranked}
use Rattle.std.proofs.lemmas.Int.{ints}
use Rattle.pg_lemmas.proofs.Orders.{nat_less}

-- what holds of each thing, where it holds of all before it, holds of all
abbrev pub IsWell : {A : Type 0} → (A → A → Ordering) → (A → Type 0) → Type 1
IsWell {A} cmp Q = (P : A → Type 0) →
    ((x : A) → Q x → ((y : A) → Q y → cmp y x ≡ Less → P y) → P x) → (x : A) → Q x → P x

less_int : (a b : ℤ) → int_cmp a b ≡ Less → a <ℤ b
less_int a b e = by_ranked (a <ℤ b) (a ≡ b) (b <ℤ a) (int_cmp a b) (int_ranked a b (int_cmp a b) refl)
    (λ _ p. p) (λ o _. absurd cc) (λ o _. absurd cc)

pub nats_well : IsWell nat_cmp (λ _. Unit {0})
nats_well P step x q = below (suc x) x (omega arith)
  where
    below : (n x : ℕ) → x < n → P x
    below zero x h = absurd (omega arith)
    below (suc n) x h = step x tt (λ y _ less. let k : y < x = nat_less y x less in below n y (omega arith))

-- whole numbers from one on
pub ints_well : (low : ℤ) → IsWell int_cmp (λ c. low ≤ℤ c)
ints_well low P step c q = by (c -ℤ low) refl
  where
    below : (n : ℕ) (x : ℤ) → low ≤ℤ x → x <ℤ (low +ℤ pos n) → P x
    below zero x h l = absurd (omega (arith, ints))
    below (suc n) x h l = step x h (λ y k less. below n y k (under y (less_int y x less)))
      where
        under : (y : ℤ) → y <ℤ x → y <ℤ (low +ℤ pos n)
        under y less = omega (arith, ints)

    by : (d : ℤ) → d ≡ c -ℤ low → P c
    by (pos k) e = below (suc k) c q (omega (arith, ints))
    by (negsuc k) e = absurd (omega (arith, ints))

-- by a value first, and then by another order
pub then_well : {A U : Type 0} (f : A → U) (c : U → U → Ordering) (QU : U → Type 0) →
    ((u w : U) → c u w ≡ Equal → u ≡ w) → (R : A → A → Ordering) (Q : A → Type 0) → ((x : A) → Q x → QU (f x)) →
    IsWell c QU → IsWell R Q → IsWell (λ a b. ordering_then (c (f a) (f b)) (R a b)) Q
then_well {A} {U} f c QU equal R Q inside first second P step x q = outer (f x) (inside x q) x q refl
  where
    split : (o p : Ordering) → ordering_then o p ≡ Less → (G : Type 0) → (o ≡ Less → G) →
        (o ≡ Equal → p ≡ Less → G) → G
    split Less p e G l m = l refl
    split Equal p e G l m = m refl e
    split Greater p e G l m = absurd cc

    outer : (u : U) → QU u → (x : A) → Q x → f x ≡ u → P x
    outer = first (λ u. (x : A) → Q x → f x ≡ u → P x)
        (λ u _ before x q e. second (λ x. f x ≡ u → P x)
        (λ x q within e. step x q (λ y k less. split (c (f y) (f x)) (R y x) less (P y)
        (λ l. before (f y) (inside y k) (subst (λ (z : U). c (f y) z ≡ Less) e l) y k refl)
        (λ l m. within y k m (equal (f y) (f x) l ∙ e)))) x q e)

-- by a value
pub on_well : {A U : Type 0} (f : A → U) (c : U → U → Ordering) (QU : U → Type 0) (Q : A → Type 0) →
    ((x : A) → Q x → QU (f x)) → IsWell c QU → IsWell (λ a b. c (f a) (f b)) Q
on_well {A} {U} f c QU Q inside well P step x q =
    well (λ u. (x : A) → Q x → f x ≡ u → P x)
    (λ u _ before x q e. step x q (λ y k less. before (f y) (inside y k) (subst (λ (z : U). c (f y) z ≡ Less) e less) y
    k refl)) (f x) (inside x q) x q refl

longer_well : {A : Type 0} (c : A → A → Ordering) (Q : A → Type 0) → ((a b : A) → c a b ≡ Equal → a ≡ b) →
    IsWell c Q → (n : ℕ) → IsWell (slice_cmp c) (λ xs. (length xs ≤ n) × AllByRecursion Q xs) →
    IsWell (slice_cmp c) (λ xs. (length xs ≤ suc n) × AllByRecursion Q xs)
longer_well {A} c Q equal well n shorter P step xs q = each xs q
  where
    empty : P []
    empty = step [] (omega arith, tt) none
      where
        none : (ys : List A) → (length ys ≤ suc n) × AllByRecursion Q ys → slice_cmp c ys [] ≡ Less → P ys
        none [] k e = absurd cc
        none (y ∷ ys) k e = absurd cc

    split : (o p : Ordering) → ordering_then o p ≡ Less → (G : Type 0) → (o ≡ Less → G) →
        (o ≡ Equal → p ≡ Less → G) → G
    split Less p e G l m = l refl
    split Equal p e G l m = m refl e
    split Greater p e G l m = absurd cc

    heads : (x : A) → Q x → (xs : List A) → (length xs ≤ n) × AllByRecursion Q xs → P (x ∷ xs)
    heads = well (λ x. (xs : List A) → (length xs ≤ n) × AllByRecursion Q xs → P (x ∷ xs))
        (λ x q before xs k. shorter (λ xs. P (x ∷ xs))
        (λ xs k within. step (x ∷ xs) (longer x xs k.0, (q, k.1)) (under x q before xs within)) xs k)
      where
        longer : (x : A) (xs : List A) → length xs ≤ n → length (x ∷ xs) ≤ suc n
        longer x xs h = omega arith

        under : (x : A) → Q x →
            ((y : A) → Q y → c y x ≡ Less → (xs : List A) → (length xs ≤ n) × AllByRecursion Q xs → P (y ∷ xs)) →
            (xs : List A) →
            ((ys : List A) → (length ys ≤ n) × AllByRecursion Q ys → slice_cmp c ys xs ≡ Less → P (x ∷ ys)) →
            (ys : List A) → (length ys ≤ suc n) × AllByRecursion Q ys → slice_cmp c ys (x ∷ xs) ≡ Less → P ys
        under x q before xs within [] k less = empty
        under x q before xs within (y ∷ ys) k less = split (c y x) (slice_cmp c ys xs) less (P (y ∷ ys))
            (λ l. before y k.1.0 l ys (fewer, k.1.1))
            (λ l m. subst (λ (z : A). P (z ∷ ys)) (sym (equal y x l)) (within ys (fewer, k.1.1) m))
          where
            fewer : length ys ≤ n
            fewer = let h : length (y ∷ ys) ≤ suc n = k.0 in omega arith

    each : (xs : List A) → (length xs ≤ suc n) × AllByRecursion Q xs → P xs
    each [] k = empty
    each (x ∷ xs) k = heads x k.1.0 xs (let h : length (x ∷ xs) ≤ suc n = k.0 in omega arith, k.1.1)

no_lists_well : {A : Type 0} (c : A → A → Ordering) (Q : A → Type 0) →
    IsWell (slice_cmp c) (λ xs. (length xs ≤ 0) × AllByRecursion Q xs)
no_lists_well {A} c Q P step [] q = step [] q none
  where
    none : (ys : List A) → (length ys ≤ 0) × AllByRecursion Q ys → slice_cmp c ys [] ≡ Less → P ys
    none [] k e = absurd cc
    none (y ∷ ys) k e = absurd cc
no_lists_well {A} c Q P step (x ∷ xs) q = absurd (let h : length (x ∷ xs) ≤ 0 = q.0 in omega arith)

-- lists of at most so many
pub lists_well : {A : Type 0} (c : A → A → Ordering) (Q : A → Type 0) → ((a b : A) → c a b ≡ Equal → a ≡ b) →
    IsWell c Q → (n : ℕ) → IsWell (slice_cmp c) (λ xs. (length xs ≤ n) × AllByRecursion Q xs)
lists_well c Q equal well zero = no_lists_well c Q
lists_well c Q equal well (suc n) = longer_well c Q equal well n (lists_well c Q equal well n)
