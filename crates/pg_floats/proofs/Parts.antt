-- A list in two parts by a test, and the point between them.
use Rattle.std.proofs.Common.{◌≡◌, refl, ap, ℕ, zero, suc, ◌+◌, ◌<◌, ◌≤◌, List, [], ◌∷◌, ◌++◌, length, length-append}
use Rattle.std.proofs.Common.{get_or, drop, subst, take}
use Rattle.std.proofs.Common.{arith, Bool, true, false, ◌⊎◌, inl, inr}
use Rattle.std.specs.List.{AllByRecursion}
use Rattle.std.specs.List.Sorted.{IsPartitionedBy, IsPartitionPoint}

data Order (m n : ℕ) : Type 0 where
  less : m < n → Order m n
  same : m ≡ n → Order m n
  more : n < m → Order m n

module _ {X : Type 0} (p : X → Bool) where
  get-true : (xs ys : List X) (k : ℕ) (d : X) → AllByRecursion (λ (x : X). p x ≡ true) xs →
      k < length xs → p (get_or (xs ++ ys) k d) ≡ true
  get-true [] ys k d all h = absurd (omega arith)
  get-true (x ∷ xs) ys zero d all h = all.0
  get-true (x ∷ xs) ys (suc k) d all h = get-true xs ys k d all.1 (omega arith)

  get-false : (xs ys : List X) (k : ℕ) (d : X) → AllByRecursion (λ (x : X). p x ≡ false) ys →
      length xs ≤ k → k < length (xs ++ ys) → p (get_or (xs ++ ys) k d) ≡ false
  get-false [] [] k d all h l = absurd (omega arith)
  get-false [] (y ∷ ys) zero d all h l = all.0
  get-false [] (y ∷ ys) (suc k) d all h l = get-false [] ys k d all.1 (omega arith) (omega arith)
  get-false (x ∷ xs) ys zero d all h l = absurd (omega arith)
  get-false (x ∷ xs) ys (suc k) d all h l = get-false xs ys k d all (omega arith) (omega arith)

  parted : (xs ys : List X) → AllByRecursion (λ (x : X). p x ≡ true) xs →
      AllByRecursion (λ (x : X). p x ≡ false) ys → IsPartitionedBy p (xs ++ ys)
  parted xs ys a b i j d le l t = by (below j (length xs))
    where
      below : (m n : ℕ) → (m < n) ⊎ (n ≤ m)
      below zero zero = inr (omega arith)
      below zero (suc n) = inl (omega arith)
      below (suc m) zero = inr (omega arith)
      below (suc m) (suc n) = more m n (below m n)
        where
          more : (m n : ℕ) → (m < n) ⊎ (n ≤ m) → (suc m < suc n) ⊎ (suc n ≤ suc m)
          more m n (inl h) = inl (omega (arith, h))
          more m n (inr h) = inr (omega (arith, h))

      by : (j < length xs) ⊎ (length xs ≤ j) → p (get_or (xs ++ ys) i d) ≡ true
      by (inl h) = get-true xs ys i d a (omega (arith, h, le))
      by (inr h) = let f = get-false xs ys j d b h l in absurd (cc)

  point-is : (d : X) (xs ys : List X) (n : ℕ) → AllByRecursion (λ (x : X). p x ≡ true) xs →
      AllByRecursion (λ (x : X). p x ≡ false) ys →
      n ≤ length (xs ++ ys) →
      IsPartitionPoint (λ (x : X). p x ≡ true) (λ (x : X). p x ≡ false) (xs ++ ys) n → n ≡ length xs
  point-is d xs ys n a b le point = by (compare n (length xs))
    where
      compare : (m n : ℕ) → Order m n
      compare zero zero = same refl
      compare zero (suc n) = less (omega arith)
      compare (suc m) zero = more (omega arith)
      compare (suc m) (suc n) =
          elim (compare m n) [
            | less h ↦ less (omega (arith, h))
            | same h ↦ same (ap suc h)
            | more h ↦
                more (omega (arith, h))
          ]

      long : length (xs ++ ys) ≡ length xs + length ys
      long = length-append xs ys

      by : Order n (length xs) → n ≡ length xs
      by (less h) =
          let t = get-true xs ys n d a h in
          let f = point.1 n d (omega arith) (omega (arith, h, long)) in
          absurd (cc)
      by (same h) = h
      by (more h) =
          let t = point.0 (length xs) d (omega arith) h in
          let f = get-false xs ys (length xs) d b (omega arith) (omega (arith, h, le)) in
          absurd (cc)

-- where a search by halves ends in a list of two parts
pub found : {X : Type 0} (p : X → Bool) (d : X) (xs ys zs : List X) (n : ℕ) → zs ≡ xs ++ ys →
    AllByRecursion (λ (x : X). p x ≡ true) xs → AllByRecursion (λ (x : X). p x ≡ false) ys → n ≤ length zs →
    (IsPartitionedBy p zs → IsPartitionPoint (λ (x : X). p x ≡ true) (λ (x : X). p x ≡ false) zs n) →
    n ≡ length xs
found {X} p d xs ys zs n e a b le point =
    let P : List X → Type 0 = λ zs. IsPartitionedBy p zs →
    IsPartitionPoint (λ (x : X). p x ≡ true) (λ (x : X). p x ≡ false) zs n in
    let there = subst P e point in
    point-is p d xs ys n a b (subst (λ (zs : List X). n ≤ length zs) e le) (there (parted p xs ys a b))

pub drop_front : {X : Type 0} (xs ys : List X) → drop (length xs) (xs ++ ys) ≡ ys
drop_front [] ys = refl
drop_front (x ∷ xs) ys = drop_front xs ys

pub take_short : {X : Type 0} (n : ℕ) (xs : List X) → length (take n xs) ≤ n
take_short zero xs = omega arith
take_short (suc n) [] = omega arith
take_short (suc n) (x ∷ xs) = let r = take_short n xs in omega (arith, r)
