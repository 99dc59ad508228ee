-- One element more, or one fewer, among the first of an array.
use Rattle.std.proofs.Common.{◌≡◌, ◌∙◌, refl, sym, ap, subst, arith, add-one, ℕ, zero, suc, ◌+◌, ◌-◌, ◌<◌, ◌≤◌, List, [], ◌∷◌, ◌++◌, take, drop, length, get_or, append_assoc, length-append, length-drop}
use Rattle.std.specs.Prelude.{slice_set}
use Rattle.std.specs.List.{copy_within, insert, remove}
use Rattle.std.proofs.lemmas.List.{length-take, length-take-le, take-take, drop-take, take_at, take_more, set_at}

shifted : {X : Type 0} (p m r : List X) (y x : X) (i n : ℕ) → length p ≡ i → length m + i ≡ n
    → take (n + 1) (slice_set (p ++ y ∷ [] ++ m ++ r) i x) ≡ p ++ x ∷ m
shifted p m r y x i n front middle =
    ap (λ zs. take (n + 1) (slice_set zs i x)) (append_assoc (p ++ y ∷ []) m r ∙ append_assoc p (y ∷ []) (m ++ r))
    ∙ ap (λ zs. take (n + 1) zs) (set_at p y (m ++ r) x i front ∙ sym (append_assoc p (x ∷ m) r))
    ∙ take_at (p ++ x ∷ m) r (n + 1) (omega (arith, length-append p (x ∷ m), front, middle))

middle_is : {X : Type 0} (xs : List X) (i n : ℕ) → i ≤ n → drop i (take n xs) ≡ take (n - i) (drop i xs)
middle_is xs i n h =
    let whole : i + (n - i) ≡ n = omega (arith, h) in
    subst (λ (k : ℕ). drop i (take k xs) ≡ take (n - i) (drop i xs)) whole (drop-take i (n - i) xs)

middle_length : {X : Type 0} (xs : List X) (i n : ℕ) → i ≤ n → n ≤ length xs → length (take (n - i) (drop i xs)) + i ≡ n
middle_length xs i n h l =
    let within : n - i ≤ length (drop i xs) = omega (arith, length-drop i xs, h, l) in
    omega (arith, length-take-le (n - i) (drop i xs) within, h)

-- the later ones moved up, and the new one put in their way
pub one_in : {X : Type 0} (xs : List X) (n i : ℕ) (x : X) → i ≤ n → n < length xs
    → take (n + 1) (slice_set (copy_within xs i n (i + 1)) i x) ≡ insert (take n xs) i x
one_in xs n i x h l =
    let m = take (n - i) (drop i xs) in
    let r = drop (i + 1 + (n - i)) xs in
    ap (λ front. take (n + 1) (slice_set (front ++ m ++ r) i x)) (take_more xs i x (omega (arith, h, l)))
    ∙ shifted (take i xs) m r (get_or xs i x) x i n (length-take-le i xs (omega (arith, h, l))) (middle_length xs i n h (omega (arith, l)))
    ∙ sym (ap (λ front. front ++ x ∷ drop i (take n xs)) (take-take i n xs h) ∙ ap (λ back. take i xs ++ x ∷ back) (middle_is xs i n h))

-- the later ones moved down over one
one_out : {X : Type 0} (xs : List X) (n i : ℕ) → i < n → n ≤ length xs
    → take (n - 1) (copy_within xs (i + 1) n i) ≡ remove (take n xs) i
one_out xs n i h l =
    let m = take (n - (i + 1)) (drop (i + 1) xs) in
    let front : length (take i xs) ≡ i = length-take-le i xs (omega (arith, h, l)) in
    let back = middle_length xs (i + 1) n (omega (arith, h)) l in
    take_at (take i xs ++ m) (drop (i + (n - (i + 1))) xs) (n - 1) (omega (arith, length-append (take i xs) m, front, back, h))
    ∙ sym (ap (λ part. part ++ drop (suc i) (take n xs)) (take-take i n xs (omega (arith, h)))
    ∙ ap (λ part. take i xs ++ part) (ap (λ k. drop k (take n xs)) (sym (add-one i)) ∙ middle_is xs (i + 1) n (omega (arith, h))))

-- a write among the first is a write to the array
pub set_among : {X : Type 0} (xs : List X) (n i : ℕ) (x : X) → take n (slice_set xs i x) ≡ slice_set (take n xs) i x
set_among xs zero i x = refl
set_among [] (suc n) i x = refl
set_among (y ∷ xs) (suc n) zero x = refl
set_among (y ∷ xs) (suc n) (suc i) x = ap (λ zs. y ∷ zs) (set_among xs n i x)

-- an element is gone from the first of the places
pub taken_out : {X : Type 0} (xs moved old : List X) (n i : ℕ) → take n xs ≡ old → n ≤ length xs → i < length old
    → moved ≡ copy_within xs (i + 1) n i → take (n - 1) moved ≡ remove old i
taken_out xs moved old n i view l h move =
    let among : i < length (take n xs) = subst (λ zs. i < length zs) (sym view) h in
    ap (λ zs. take (n - 1) zs) move ∙ one_out xs n i (omega (arith, length-take n xs, among)) l ∙ ap (λ zs. remove zs i) view
