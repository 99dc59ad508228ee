-- Numbers in a row.
use Rattle.std.proofs.Common.{◌≡◌, ◌∙◌, refl, sym, ap, ap₂, arith, ℕ, zero, suc, ◌+◌, ◌*◌, ◌<◌, ◌≤◌, List, [], ◌∷◌, ◌++◌, map, length, replicate, take, drop, append_assoc, suc-mul}
use Rattle.std.specs.Prelude.{reverse}
use Rattle.std.specs.List.{range_with_len, flat_map}
use Rattle.std.proofs.lemmas.List.{map-append, append-nil}
use Rattle.std.proofs.lemmas.Grind.{flat_map-append}
use Rattle.std.proofs.Math.Seq.{take-append_seam, drop-append_seam}
use Rattle.std.proofs.lemmas.List.FromFn.{map-range_with_len_more}
use Rattle.pg_lemmas.proofs.Lists.{range_more, reverse_cons}
use Rattle.pg_fold.specs.Folding.{parts}

-- two functions that say the same of two rows
pub alike : {A : Type 0} (f g : ℕ → A) (a b n : ℕ) → ((i : ℕ) → i < n → f (a + i) ≡ g (b + i)) →
    map f (range_with_len a n) ≡ map g (range_with_len b n)
alike f g a b zero same = refl
alike f g a b (suc n) same = ap₂ (λ x xs. x ∷ xs)
    (let a0 : a ≡ a + 0 = omega arith in let b0 : b + 0 ≡ b = omega arith in ap f a0 ∙ (same 0 (omega arith) ∙ ap g b0))
    (alike f g (a + 1) (b + 1) n (λ i l.
    let ai : (a + 1) + i ≡ a + suc i = omega arith in
    let bi : b + suc i ≡ (b + 1) + i = omega arith in
    ap f ai ∙ (same (suc i) (omega (arith, l)) ∙ ap g bi)))

pub range_append : (a n m : ℕ) → range_with_len a (n + m) ≡ range_with_len a n ++ range_with_len (a + n) m
range_append a zero m =
    let e : 0 + m ≡ m = omega arith in let s : a ≡ a + 0 = omega arith in
    ap (range_with_len a) e ∙ ap (λ k. range_with_len k m) s
range_append a (suc n) m =
    let e : suc n + m ≡ suc (n + m) = omega arith in let s : (a + 1) + n ≡ a + suc n = omega arith in
    ap (range_with_len a) e ∙ ap (λ xs. a ∷ xs)
    (range_append (a + 1) n m ∙ ap (λ k. range_with_len (a + 1) n ++ range_with_len k m) s)

pub map_append_range : {A : Type 0} (f : ℕ → A) (a n m : ℕ) →
    map f (range_with_len a (n + m)) ≡ map f (range_with_len a n) ++ map f (range_with_len (a + n) m)
map_append_range f a n m = ap (map f) (range_append a n m)
    ∙ map-append f (range_with_len a n) (range_with_len (a + n) m)

-- runs of one length, one behind another
pub joined : {A : Type 0} (v : ℕ → A) (run : ℕ → List A) (a start size n : ℕ) →
    ((i : ℕ) → i < n → run (a + i) ≡ map v (range_with_len (start + i * size) size)) →
    flat_map run (range_with_len a n) ≡ map v (range_with_len start (n * size))
joined v run a start size zero same = let z : 0 ≡ 0 * size = omega arith in ap (λ k. map v (range_with_len start k)) z
joined v run a start size (suc n) same =
    let head : run a ≡ map v (range_with_len start size) =
    let a0 : a ≡ a + 0 = omega arith in
    let s0 : start + 0 * size ≡ start = omega arith in
    ap run a0 ∙ (same 0 (omega arith) ∙ ap (λ k. map v (range_with_len k size)) s0) in
    let rest : flat_map run (range_with_len (a + 1) n) ≡ map v (range_with_len (start + size) (n * size)) =
    joined v run (a + 1) (start + size) size n (λ i l.
    let ai : (a + 1) + i ≡ a + suc i = omega arith in
    let e : suc i * size ≡ i * size + size = suc-mul i size in
    let si : start + suc i * size ≡ (start + size) + i * size = omega (arith, e) in
    ap run ai ∙ (same (suc i) (omega (arith, l)) ∙ ap (λ k. map v (range_with_len k size)) si)) in
    let count : size + n * size ≡ suc n * size = let e : suc n * size ≡ n * size + size =
    suc-mul n size in omega (arith, e) in
    ap₂ (λ x y. x ++ y) head rest
    ∙ (sym (map_append_range v start size (n * size)) ∙ ap (λ k. map v (range_with_len start k)) count)

-- the same from the last to the first: the i-th of n stands n - 1 - i runs behind the start
pub joined_back : {A : Type 0} (v : ℕ → A) (run : ℕ → List A) (start size n behind : ℕ) →
    ((i later : ℕ) → i + suc later ≡ n + behind → run i ≡ map v (range_with_len (start + later * size) size)) →
    flat_map run (reverse (range_with_len 0 n)) ≡ map v (range_with_len (start + behind * size) (n * size))
joined_back v run start size zero behind same =
    let z : 0 ≡ 0 * size = omega arith in ap (λ k. map v (range_with_len (start + behind * size) k)) z
joined_back v run start size (suc n) behind same =
    let turn : reverse (range_with_len 0 (suc n)) ≡ n ∷ reverse (range_with_len 0 n) =
    ap reverse (range_more 0 n)
    ∙ (turned (range_with_len 0 n) (0 + n)
    ∙ ap (λ k. k ∷ reverse (range_with_len 0 n)) (let z : 0 + n ≡ n = omega arith in z)) in
    let head : run n ≡ map v (range_with_len (start + behind * size) size) = same n behind (omega arith) in
    let rest : flat_map run (reverse (range_with_len 0 n))
    ≡ map v (range_with_len (start + suc behind * size) (n * size)) =
    joined_back v run start size n (suc behind) (λ i later e. same i later (omega (arith, e))) in
    let more : start + suc behind * size ≡ (start + behind * size) + size =
    let e : suc behind * size ≡ behind * size + size = suc-mul behind size in omega (arith, e) in
    let count : size + n * size ≡ suc n * size = let e : suc n * size ≡ n * size + size =
    suc-mul n size in omega (arith, e) in
    ap (flat_map run) turn
    ∙ (ap₂ (λ x y. x ++ y) head (rest ∙ ap (λ k. map v (range_with_len k (n * size))) more)
    ∙ (sym (map_append_range v (start + behind * size) size (n * size))
    ∙ ap (λ k. map v (range_with_len (start + behind * size) k)) count))
  where
    turned : (xs : List ℕ) (x : ℕ) → reverse (xs ++ x ∷ []) ≡ x ∷ reverse xs
    turned [] x = refl
    turned (y ∷ xs) x = reverse_cons y (xs ++ x ∷ []) ∙ (ap (λ ys. ys ++ y ∷ []) (turned xs x)
        ∙ ap (λ ys. x ∷ ys) (sym (reverse_cons y xs)))

-- lists of one length, joined and cut apart
pub cut_joined : {A : Type 0} (run : ℕ → List A) (size a n : ℕ) → ((i : ℕ) → length (run i) ≡ size) →
    parts n size (flat_map run (range_with_len a n)) ≡ map run (range_with_len a n)
cut_joined run size a zero long = refl
cut_joined run size a (suc n) long = ap₂ (λ x xs. x ∷ xs)
    (ap (λ k. take k (run a ++ flat_map run (range_with_len (a + 1) n))) (sym (long a))
    ∙ take-append_seam (run a) (flat_map run (range_with_len (a + 1) n)))
    (ap (λ k. parts n size (drop k (run a ++ flat_map run (range_with_len (a + 1) n)))) (sym (long a))
    ∙ (ap (parts n size) (drop-append_seam (run a) (flat_map run (range_with_len (a + 1) n)))
    ∙ cut_joined run size (a + 1) n long))

pub all_zero : (f : ℕ → ℕ) (a n : ℕ) → ((i : ℕ) → a ≤ i → f i ≡ 0) → map f (range_with_len a n) ≡ replicate n 0
all_zero f a zero zeros = refl
all_zero f a (suc n) zeros =
    ap₂ (λ x xs. x ∷ xs) (zeros a (omega arith)) (all_zero f (a + 1) n (λ i l. zeros i (omega (arith, l))))

pub map_same : {A : Type 0} (f : ℕ → ℕ) (a n : ℕ) → (v : ℕ → A) →
    map (λ i. v (f i)) (range_with_len a n) ≡ map v (map f (range_with_len a n))
map_same f a zero v = refl
map_same f a (suc n) v = ap (λ xs. v (f a) ∷ xs) (map_same f (a + 1) n v)

-- one more run
pub joined_more : {A : Type 0} (run : ℕ → List A) (n : ℕ) →
    flat_map run (range_with_len 0 (n + 1)) ≡ flat_map run (range_with_len 0 n) ++ run n
joined_more run n =
    let z : 0 + n ≡ n = omega arith in
    ap (flat_map run) (range_append 0 n 1 ∙ ap (λ k. range_with_len 0 n ++ k ∷ []) z)
    ∙ (flat_map-append run (range_with_len 0 n) (n ∷ [])
    ∙ ap (λ xs. flat_map run (range_with_len 0 n) ++ xs) (append-nil (run n)))

pub joined_next : {A : Type 0} (run : ℕ → List A) (n : ℕ) (old new : List A) →
    old ≡ flat_map run (range_with_len 0 n) → new ≡ old ++ run n → new ≡ flat_map run (range_with_len 0 (n + 1))
joined_next run n old new before after = after ∙ (ap (λ xs. xs ++ run n) before ∙ sym (joined_more run n))

pub mapped_next : {A : Type 0} (f : ℕ → A) (n : ℕ) (front old new : List A) →
    old ≡ front ++ map f (range_with_len 0 n) → new ≡ old ++ f n ∷ [] → new ≡ front ++ map f (range_with_len 0 (n + 1))
mapped_next f n front old new before after =
    let z : 0 + n ≡ n = omega arith in
    after ∙ (ap (λ xs. xs ++ f n ∷ []) before ∙ (append_assoc front (map f (range_with_len 0 n)) (f n ∷ [])
    ∙ ap (λ xs. front ++ xs) (sym (map-range_with_len_more f 0 n n z))))
