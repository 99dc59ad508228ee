-- Pages one after another: how many columns stand before one.
use Rattle.std.proofs.Common.{◌≡◌, refl, sym, ap, ◌∙◌, ℕ, zero, suc, ◌+◌, ◌<◌, ◌≤◌, arith, List, [], ◌∷◌, ◌++◌, length, length-append, take, drop, get_or}
use Rattle.std.specs.Prelude.{reverse}
use Rattle.std.proofs.lemmas.List.{reverse-append}
use Rattle.std.proofs.Math.Seq.{take-suc}
use Rattle.pg_plan.specs.declared.pages.Page.{Page}
use Rattle.pg_plan.specs.Order.{columns_of, page_moves}
use Rattle.pg_plan.proofs.BackwardsLemmas.{moves_long}

-- one more page in front of those before it
pub next_page_is : (pages : List Page) (i : ℕ) (page : Page) → i < length pages → get_or pages i page ≡ page →
    reverse (take (i + 1) pages) ≡ page ∷ reverse (take i pages)
next_page_is pages i page h e =
    let n : i + 1 ≡ suc i = omega arith in
    ap (λ (k : ℕ). reverse (take k pages)) n
    ∙ (ap reverse (take-suc pages i page h ∙ ap (λ (p : Page). take i pages ++ p ∷ []) e)
    ∙ reverse-append (take i pages) (page ∷ []))

reverse_long : {X : Type 0} (xs : List X) → length (reverse xs) ≡ length xs
reverse_long [] = refl
reverse_long (x ∷ xs) =
    ap length (reverse-append (x ∷ []) xs) ∙ (length-append (reverse xs) (x ∷ [])
    ∙ (let r = reverse_long xs in omega (arith, r)))

pub columns_more : (page : Page) (pages : List Page) →
    length (columns_of (page ∷ pages)) ≡ length page.columns + length (columns_of pages)
columns_more page pages = length-append (reverse (page_moves page page.columns)) (columns_of pages)
    ∙ ap (λ (n : ℕ). n + length (columns_of pages))
    (reverse_long (page_moves page page.columns) ∙ moves_long page page.columns)

columns_append : (xs ys : List Page) → length (columns_of (xs ++ ys)) ≡ length (columns_of xs) + length (columns_of ys)
columns_append [] ys = let z : length (columns_of []) ≡ 0 = refl in omega (arith, z)
columns_append (x ∷ xs) ys =
    let a = columns_more x (xs ++ ys) in
    let b = columns_more x xs in
    let r = columns_append xs ys in
    omega (arith, a, b, r)

split_at : {X : Type 0} (n : ℕ) (xs : List X) → take n xs ++ drop n xs ≡ xs
split_at zero xs = refl
split_at (suc n) [] = refl
split_at (suc n) (x ∷ xs) = ap (λ ys. x ∷ ys) (split_at n xs)

-- no more columns stand before a page than in all
pub columns_few : (pages : List Page) (n : ℕ) →
    length (columns_of (reverse (take n pages))) ≤ length (columns_of (reverse pages))
columns_few pages n =
    let e : length (columns_of (reverse pages)) ≡ length (columns_of (reverse (drop n pages)))
    + length (columns_of (reverse (take n pages))) =
    ap (λ (xs : List Page). length (columns_of (reverse xs))) (sym (split_at n pages))
    ∙ (ap (λ (xs : List Page). length (columns_of xs)) (reverse-append (take n pages) (drop n pages))
    ∙ columns_append (reverse (drop n pages)) (reverse (take n pages))) in
    omega (arith, e)

-- with those of the page itself
pub columns_within : (pages : List Page) (i : ℕ) (page : Page) → i < length pages → get_or pages i page ≡ page →
    length (columns_of (reverse (take i pages))) + length page.columns ≤ length (columns_of (reverse pages))
columns_within pages i page h e =
    let n = ap (λ (xs : List Page). length (columns_of xs)) (next_page_is pages i page h e) in
    let m = columns_more page (reverse (take i pages)) in
    let f = columns_few pages (i + 1) in
    omega (arith, n, m, f)
