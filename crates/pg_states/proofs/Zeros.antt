-- Numbers that are written one after another over zeros.
use Rattle.std.proofs.Common.{◌≡◌, refl, sym, ap, ◌∙◌, ℕ, ◌+◌, ◌-◌, ◌<◌, List, [], ◌∷◌, ◌++◌, length, map, replicate, subst, suc, arith}
use Rattle.std.specs.Prelude.{slice_set}
use Rattle.std.specs.List.{range_with_len}
use Rattle.std.proofs.lemmas.List.{append_assoc, append-nil, length-append, length-replicate}
use Rattle.std.proofs.lemmas.List.FromFn.{length-map-range_with_len, map-range_with_len_more}

-- the number behind the first ones is written
set_behind : (xs ys : List ℕ) (y x : ℕ) → slice_set (xs ++ y ∷ ys) (length xs) x ≡ xs ++ x ∷ ys
set_behind [] ys y x = refl
set_behind (z ∷ xs) ys y x = ap (λ (zs : List ℕ). z ∷ zs) (set_behind xs ys y x)

-- the first numbers of a function, and zeros up to so many
abbrev pub written : (ℕ → ℕ) → ℕ → ℕ → List ℕ
written f n i = map f (range_with_len 0 i) ++ replicate (n - i) 0

zeros_left : (n i : ℕ) → i < n → replicate {A = ℕ} (n - i) 0 ≡ 0 ∷ replicate (n - (i + 1)) 0
zeros_left n i less =
    let one : n - i ≡ suc (n - (i + 1)) = omega (arith, less) in ap (λ (k : ℕ). replicate {A = ℕ} k 0) one

-- one more is written
pub write_next : (f : ℕ → ℕ) (n i x : ℕ) (old new : List ℕ) → i < n → old ≡ written f n i → x ≡ f i →
    new ≡ slice_set old i x → new ≡ written f n (i + 1)
write_next f n i x old new less p q r =
    let first : List ℕ = map f (range_with_len 0 i) in
    let rest : List ℕ = replicate (n - (i + 1)) 0 in
    let long : length first ≡ i = length-map-range_with_len f 0 i in
    r ∙ (ap (λ (zs : List ℕ). slice_set zs i x) (p ∙ ap (λ (zs : List ℕ). first ++ zs) (zeros_left n i less))
    ∙ (ap (λ (k : ℕ). slice_set (first ++ 0 ∷ rest) k x) (sym long)
    ∙ (set_behind first rest 0 x
    ∙ (ap (λ (y : ℕ). first ++ y ∷ rest) q
    ∙ (sym (append_assoc first (f i ∷ []) rest)
    ∙ ap (λ (zs : List ℕ). zs ++ rest) (sym (map-range_with_len_more f 0 i i (omega arith))))))))

-- there is a number to be written
pub is_within : (f : ℕ → ℕ) (n i : ℕ) (old : List ℕ) → i < n → old ≡ written f n i → i < length old
is_within f n i old less p =
    let first : List ℕ = map f (range_with_len 0 i) in
    let long : length first ≡ i = length-map-range_with_len f 0 i in
    let rest : List ℕ = replicate (n - i) 0 in
    let zeros : length rest ≡ n - i = length-replicate (n - i) 0 in
    let all : length old ≡ length first + length rest = ap length p ∙ length-append first rest in
    omega (arith, less, long, zeros, all)

-- all are written
pub all_written : (f : ℕ → ℕ) (n i : ℕ) (old : List ℕ) → i ≡ n → old ≡ written f n i →
    old ≡ map f (range_with_len 0 n)
all_written f n i old e p =
    let none : n - n ≡ 0 = omega arith in
    subst (λ (k : ℕ). old ≡ written f n k) e p
    ∙ (ap (λ (k : ℕ). map f (range_with_len 0 n) ++ replicate k 0) none ∙ append-nil (map f (range_with_len 0 n)))
