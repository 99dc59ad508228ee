-- The numbers of a layout.
use Rattle.std.proofs.Common.{◌≡◌, ◌∙◌, ap, ap₂, arith, ℕ, ◌+◌, ◌-◌, ◌*◌, ◌/◌, ◌^◌, ◌≤◌, List, mul-le-mul}
use Rattle.std.specs.List.{flat_map, range_with_len}
use Rattle.std.proofs.Math.Pow.{pow_mono}
use Rattle.pg_fold.specs.Imposed.{imposed, layout_of, signature_from, signature_of, signature_pages}
use Rattle.pg_fold.specs.declared.sheets.Sheet.{Sheet}

pub size_is : (folds nest f n p size : ℕ) → f ≡ folds → n ≡ nest → p ≡ 2 ^ (f + 1) → size ≡ n * p →
    size ≡ signature_pages folds nest
size_is folds nest f n p size e d q s = s ∙ ap₂ (λ a b. a * b) d (q ∙ ap (λ k. 2 ^ (k + 1)) e)

pub size_small : (folds nest size : ℕ) → size ≡ signature_pages folds nest → folds ≤ 4 → nest ≤ 16 → size ≤ 512
size_small folds nest size is few small =
    let p : 2 ^ (folds + 1) ≤ 2 ^ 5 = pow_mono {i = folds + 1} {j = 5} (omega (arith, few)) in
    let m : nest * 2 ^ (folds + 1) ≤ 16 * 2 ^ 5 = mul-le-mul small p in
    omega (arith, is, m)

pub signature_same : (folds nest pages f n size start signature : ℕ) → f ≡ folds → n ≡ nest →
    size ≡ signature_pages folds nest →
    start ≡ signature * size →
    signature_from (layout_of f n pages) start ≡ signature_of (layout_of folds nest pages) signature
signature_same folds nest pages f n size start signature e d s is =
    ap (λ k. signature_from (layout_of k n pages) start) e
    ∙ (ap (λ k. signature_from (layout_of folds k pages) start) d
    ∙ ap (signature_from (layout_of folds nest pages)) (is ∙ ap (λ k. signature * k) s))

pub all_imposed : (folds nest pages size signature : ℕ) (sheets : List Sheet) → size ≡ signature_pages folds nest →
    sheets ≡ flat_map (signature_of (layout_of folds nest pages)) (range_with_len 0 signature) →
    signature ≡ (pages + (size - 1)) / size →
    sheets ≡ imposed folds nest pages
all_imposed folds nest pages size signature sheets is e count =
    e ∙ ap (λ k. flat_map (signature_of (layout_of folds nest pages)) (range_with_len 0 k)) (count
    ∙ ap (λ k. (pages + (k - 1)) / k) is)

abbrev pub sheet : List ℕ → List ℕ → Sheet
sheet front back = record { front = front; back = back }
