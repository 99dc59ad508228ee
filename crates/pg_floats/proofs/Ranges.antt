-- One more number of a range.
use Rattle.std.proofs.Common.{◌≡◌, refl, ap, ◌∙◌, ℕ, zero, suc, ◌+◌, ◌<◌, ◌≤◌, arith, List, [], ◌∷◌, ◌++◌, map, Bool, true, false}
use Rattle.std.specs.Prelude.{◌&&◌}
use Rattle.std.specs.List.{list_all, range_with_len, sum_by}
use Rattle.std.proofs.lemmas.List.{map-append}
use Rattle.std.proofs.lemmas.List.Sums.{sum_by-append, sum_by-cons}
use Rattle.pg_lemmas.proofs.Lists.{range_more}

pub next_range : (n : ℕ) → range_with_len 0 (n + 1) ≡ range_with_len 0 n ++ n ∷ []
next_range n =
    let s : n + 1 ≡ suc n = omega arith in
    let z : 0 + n ≡ n = omega arith in
    ap (range_with_len 0) s ∙ (range_more 0 n ∙ ap (λ (k : ℕ). range_with_len 0 n ++ k ∷ []) z)

pub next_sum : (f : ℕ → ℕ) (n : ℕ) → sum_by f (range_with_len 0 (n + 1)) ≡ sum_by f (range_with_len 0 n) + f n
next_sum f n = ap (sum_by f) (next_range n) ∙ (sum_by-append f (range_with_len 0 n) (n ∷ [])
    ∙ (let e = sum_by-cons f n [] in omega (arith, e)))

pub next_map : {X : Type 0} (f : ℕ → X) (n : ℕ) → map f (range_with_len 0 (n + 1)) ≡ map f (range_with_len 0 n) ++ f n ∷ []
next_map f n = ap (map f) (next_range n) ∙ map-append f (range_with_len 0 n) (n ∷ [])

pub all_append_is : {X : Type 0} (p : X → Bool) (xs ys : List X) → list_all p (xs ++ ys) ≡ (list_all p xs && list_all p ys)
all_append_is p [] ys = refl
all_append_is p (x ∷ xs) ys = ap (λ (b : Bool). p x && b) (all_append_is p xs ys)
    ∙ grouped (p x) (list_all p xs) (list_all p ys)
  where
    grouped : (a b c : Bool) → (a && (b && c)) ≡ ((a && b) && c)
    grouped true b c = refl
    grouped false b c = refl

-- all but the last, and the last
pub next_all : (p : ℕ → Bool) (n : ℕ) → list_all p (range_with_len 0 n) ≡ true → p n ≡ true →
    list_all p (range_with_len 0 (n + 1)) ≡ true
next_all p n a b = ap (list_all p) (next_range n) ∙ (all_append_is p (range_with_len 0 n) (n ∷ []) ∙ rw (a, b) refl)

later : (s t : Bool) (a i : ℕ) → a ≤ i → (a ≡ i → s ≡ t) → s ≡ true → t ≡ false → a + 1 ≤ i
later s t zero zero l h e f = let k : s ≡ t = h refl in absurd cc
later s t zero (suc i) l h e f = omega arith
later s t (suc a) zero l h e f = absurd (omega (arith, l))
later s t (suc a) (suc i) l h e f =
    let r = later s t a i (omega (arith, l)) (λ k. h (ap suc k)) e f in omega (arith, r)

-- one that fails
not_all_from : (p : ℕ → Bool) (a n i : ℕ) → a ≤ i → i < a + n → p i ≡ false → list_all p (range_with_len a n) ≡ false
not_all_from p a zero i l h f = absurd (omega (arith, l, h))
not_all_from p a (suc n) i l h f =
    by (p a) (λ e. not_all_from p (a + 1) n i (later (p a) (p i) a i l (λ s. ap p s) e f) (omega (arith, h)) f)
  where
    by : (b : Bool) → (b ≡ true → list_all p (range_with_len (a + 1) n) ≡ false) →
        (b && list_all p (range_with_len (a + 1) n)) ≡ false
    by false e = refl
    by true e = e refl

pub not_all : (p : ℕ → Bool) (n i : ℕ) → i < n → p i ≡ false → list_all p (range_with_len 0 n) ≡ false
not_all p n i h f = not_all_from p 0 n i (omega arith) (omega (arith, h)) f
