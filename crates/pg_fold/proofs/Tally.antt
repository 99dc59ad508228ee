-- Sums over cells, in whatever order they stand.
use Rattle.std.proofs.Common.{◌≡◌, ◌∙◌, refl, sym, ap, ap₂, arith, ℕ, zero, suc, ◌+◌, ◌<◌, ◌≤◌, Bool, true, false, List, [], ◌∷◌, ◌++◌, map, replicate}
use Rattle.std.specs.Prelude.{◌==◌, cond, if◌then◌else◌, Option, Some, None, reverse}
use Rattle.std.specs.List.{range_with_len, flat_map, sum_by}
use Rattle.std.specs.Option.{option_map, option_map_or}
use Rattle.std.proofs.lemmas.Option.{same_Some}
use Rattle.std.proofs.lemmas.List.{append-nil}
use Rattle.std.proofs.lemmas.List.Sums.{sum_by-append}
use Rattle.std.proofs.lemmas.Grind.{flat_map-append}
use borrow.Author.Tests.{eqb-true, eqb-false, ne_eqb}
use Rattle.pg_lemmas.proofs.Lists.{reverse_cons}
use Rattle.pg_fold.specs.declared.face.Side.{Side}
use Rattle.pg_fold.specs.declared.face.Side.TheVariants.{Front, Back}

abbrev pub tally : {A : Type 0} → (A → ℕ) → List A → ℕ
tally f [] = 0
tally f (x ∷ xs) = f x + tally f xs

pub tally_is : {A : Type 0} (f : A → ℕ) (xs : List A) → sum_by f xs ≡ tally f xs
tally_is f [] = refl
tally_is f (x ∷ xs) =
    let one : sum_by f (x ∷ []) ≡ f x = omega arith in
    omega (arith, sum_by-append f (x ∷ []) xs, one, tally_is f xs)

pub tally_append : {A : Type 0} (f : A → ℕ) (xs ys : List A) → tally f (xs ++ ys) ≡ tally f xs + tally f ys
tally_append f [] ys = let z : tally f ys ≡ 0 + tally f ys = omega arith in z
tally_append f (x ∷ xs) ys = omega (arith, tally_append f xs ys)

pub tally_map : {A B : Type 0} (f : B → ℕ) (g : A → B) (xs : List A) → tally f (map g xs) ≡ tally (λ x. f (g x)) xs
tally_map f g [] = refl
tally_map f g (x ∷ xs) = ap (λ n. f (g x) + n) (tally_map f g xs)

pub tally_back : {A B : Type 0} (f : B → ℕ) (run : A → List B) (xs : List A) →
    tally f (flat_map run (reverse xs)) ≡ tally f (flat_map run xs)
tally_back f run [] = refl
tally_back f run (x ∷ xs) =
    ap (λ ys. tally f (flat_map run ys)) (reverse_cons x xs)
    ∙ (ap (tally f) (flat_map-append run (reverse xs) (x ∷ []) ∙ ap (λ ys. flat_map run (reverse xs) ++ ys)
    (append-nil (run x)))
    ∙ omega (
      arith,
      tally_append f (flat_map run (reverse xs)) (run x),
      tally_append f (run x) (flat_map run xs),
      tally_back f run xs,
    ))

-- ---- cells with names, in another order

abbrev is_side : Side → Side → Bool
is_side Front Front = true
is_side Back Back = true
is_side Front Back = false
is_side Back Front = false

side_is : (a b : Side) → is_side a b ≡ true → a ≡ b
side_is Front Front e = refl
side_is Back Back e = refl
side_is Front Back e = absurd cc
side_is Back Front e = absurd cc

abbrev is_named : Side × ℕ → Side × ℕ → Bool
is_named a b = if is_side a.0 b.0 then a.1 == b.1 else false

named_is : (a b : Side × ℕ) → is_named a b ≡ true → a ≡ b
named_is (s, i) (t, j) e = by (is_side s t) refl e
  where
    by : (b : Bool) → is_side s t ≡ b → (if b then i == j else false) ≡ true → ◌≡◌ {A = Side × ℕ} (s, i) (t, j)
    by true side number = ap₂ (λ x y. (x, y)) (side_is s t side) (eqb-true i j number)
    by false side number = absurd cc

-- the list without the first cell of this name
abbrev taken : Side × ℕ → List (Side × ℕ) → Option (List (Side × ℕ))
taken c [] = None
taken c (x ∷ xs) = if is_named c x then Some xs else option_map (λ ys. x ∷ ys) (taken c xs)

-- the same cells, in whatever order
abbrev pub is_shuffle : List (Side × ℕ) → List (Side × ℕ) → Bool
is_shuffle [] [] = true
is_shuffle [] (y ∷ ys) = false
is_shuffle (x ∷ xs) ys = option_map_or (λ rest. is_shuffle xs rest) (taken x ys) false

taken_tally : (f : Side × ℕ → ℕ) (c : Side × ℕ) (ys rest : List (Side × ℕ)) → taken c ys ≡ Some rest →
    tally f ys ≡ f c + tally f rest
taken_tally f c [] rest e = absurd cc
taken_tally f c (y ∷ ys) rest e = by (taken_tally f c ys) (is_named c y) refl e
  where
    later : ((zs : List (Side × ℕ)) → taken c ys ≡ Some zs → tally f ys ≡ f c + tally f zs) →
        (o : Option (List (Side × ℕ))) → taken c ys ≡ o → option_map (λ zs. y ∷ zs) o ≡ Some rest →
        f y + tally f ys ≡ f c + tally f rest
    later on None is h = absurd cc
    later on (Some zs) is h =
        let cut : y ∷ zs ≡ rest = same_Some (y ∷ zs) rest h in
        omega (arith, on zs is, ap (tally f) cut)

    by : ((zs : List (Side × ℕ)) → taken c ys ≡ Some zs → tally f ys ≡ f c + tally f zs) →
        (b : Bool) → is_named c y ≡ b →
        (if b then Some ys else option_map (λ zs. y ∷ zs) (taken c ys)) ≡ Some rest →
        f y + tally f ys ≡ f c + tally f rest
    by on true is h = ap₂ (λ x zs. f x + tally f zs) (sym (named_is c y is)) (same_Some ys rest h)
    by on false is h = later on (taken c ys) refl h

pub shuffle_tally : (f : Side × ℕ → ℕ) (xs ys : List (Side × ℕ)) → is_shuffle xs ys ≡ true → tally f xs ≡ tally f ys
shuffle_tally f [] [] e = refl
shuffle_tally f [] (y ∷ ys) e = absurd cc
shuffle_tally f (x ∷ xs) ys e = by (shuffle_tally f xs) (taken x ys) refl e
  where
    by : ((rest : List (Side × ℕ)) → is_shuffle xs rest ≡ true → tally f xs ≡ tally f rest) →
        (o : Option (List (Side × ℕ))) → taken x ys ≡ o → option_map_or (λ rest. is_shuffle xs rest) o false ≡ true →
        f x + tally f xs ≡ tally f ys
    by on None is h = absurd cc
    by on (Some rest) is h = omega (arith, taken_tally f x ys rest is, on rest h)

-- ---- one page among all

-- 1 for a cell that holds the page
abbrev pub one_for : ℕ → ℕ → ℕ
one_for page cell = cond (cell == page) 1 0

pub one_page : (page pages blanks : ℕ) → 1 ≤ page → page ≤ pages →
    ◌≡◌ {A = ℕ} (tally (one_for page) (range_with_len 1 pages ++ replicate blanks 0)) 1
one_page page pages blanks some few =
    omega (
      arith,
      tally_append (one_for page) (range_with_len 1 pages) (replicate blanks 0),
      here 1 pages some (omega (arith, few)),
      zeros blanks,
    )
  where
    other : (n : ℕ) → (n ≡ page → ⊥) → one_for page n ≡ 0
    other n differs = ap (λ (b : Bool). cond b 1 0) (ne_eqb n page differs)

    zeros : (n : ℕ) → tally (one_for page) (replicate n 0) ≡ 0
    zeros zero = refl
    zeros (suc n) = omega (arith, other 0 (λ e. omega (arith, e, some)), zeros n)

    behind : (a n : ℕ) → page < a → tally (one_for page) (range_with_len a n) ≡ 0
    behind a zero less = refl
    behind a (suc n) less =
        omega (arith, other a (λ e. omega (arith, e, less)), behind (a + 1) n (omega (arith, less)))

    here : (a n : ℕ) → a ≤ page → page < a + n →
        tally (one_for page) (range_with_len a n) ≡ 1
    here a zero from to = absurd (omega (arith, from, to))
    here a (suc n) from to = by (a == page) refl (here (a + 1) n)
      where
        by : (b : Bool) → (a == page) ≡ b → (a + 1 ≤ page → page < (a + 1) + n →
            tally (one_for page) (range_with_len (a + 1) n) ≡ 1) →
            one_for page a + tally (one_for page) (range_with_len (a + 1) n) ≡ 1
        by true is on =
            let one : one_for page a ≡ 1 = ap (λ (b : Bool). cond b 1 0) is in
            let e : a ≡ page = eqb-true a page is in
            omega (arith, one, behind (a + 1) n (omega (arith, e)))
        by false is on =
            let none : one_for page a ≡ 0 = ap (λ (b : Bool). cond b 1 0) is in
            let differs : a ≡ page → ⊥ = eqb-false a page is in
            omega (arith, none, on (omega (arith, from, differs)) (omega (arith, to)))
