-- No more floats are called than there are, and counts by slot are a list.
use Rattle.std.proofs.Common.{◌≡◌, refl, sym, ap, ◌∙◌, ℕ, zero, suc, ◌+◌, ◌^◌, ◌≤◌, List, [], ◌∷◌, length, map, arith}
use Rattle.std.specs.Prelude.{ℤ}
use Rattle.std.specs.List.{range_with_len, sum_by}
use Rattle.std.proofs.lemmas.List.{length-map}
use Rattle.std.proofs.lemmas.List.Sums.{sum_by-cons}
use Rattle.pg_list.specs.declared.blocks.Block.{Block}
use Rattle.pg_list.specs.declared.galley.Place.{Place}
use Rattle.pg_style.specs.Values.{StyleValue}
use Rattle.pg_floats.specs.FloatsValue.{ClassFloatsValue}
use Rattle.pg_rules.specs.Floats.{called, entry, float_numbers, floats, flushed}
use Rattle.pg_floats.specs.Given.{IsListOf}
use Rattle.law_moves.proofs.Ceilings.{called_few}

counts_few : (lists : List (List ℤ)) (slot : ℕ) →
    entry (map (λ (sizes : List ℤ). length sizes) lists) slot ≤ sum_by (λ (sizes : List ℤ). length sizes) lists
counts_few [] slot = omega arith
counts_few (sizes ∷ lists) zero =
    let e = sum_by-cons (λ (sizes : List ℤ). length sizes) sizes lists in omega (arith, e)
counts_few (sizes ∷ lists) (suc slot) =
    let e = sum_by-cons (λ (sizes : List ℤ). length sizes) sizes lists in
    let r = counts_few lists slot in omega (arith, e, r)

pub calls_few : (blocks : List Block) (style : StyleValue) (list : List ClassFloatsValue) →
    IsListOf blocks style list → (at : Place) (slot : ℕ) → entry (called blocks style at) slot ≤ 2 ^ 12
calls_few blocks style list given at slot =
    let a = called_few (record { blocks = blocks; style = style }) given.floats.shape at slot in
    let b = counts_few (floats blocks style) slot in
    let c = given.few in
    omega (arith, a, b, c)

entries_from : (f : ℕ → ℕ) (from : ℕ) (xs : List ℕ) → ((i : ℕ) → f (from + i) ≡ entry xs i) →
    map f (range_with_len from (length xs)) ≡ xs
entries_from f from [] h = refl
entries_from f from (x ∷ xs) h =
    let z : from ≡ from + 0 = omega arith in
    let here : f from ≡ x = ap f z ∙ h 0 in
    ap (λ (n : ℕ). n ∷ map f (range_with_len (from + 1) (length xs))) here
    ∙ ap (λ (ns : List ℕ). x ∷ ns) (entries_from f (from + 1) xs
    (λ i. (let e : from + 1 + i ≡ from + suc i = omega arith in ap f e ∙ h (suc i))))

-- the entries of a list with one for each slot
pub entries_are : (xs : List ℕ) (n : ℕ) → length xs ≡ n → map (λ (slot : ℕ). entry xs slot) (range_with_len 0 n) ≡ xs
entries_are xs n e =
    ap (λ (k : ℕ). map (λ (slot : ℕ). entry xs slot) (range_with_len 0 k)) (sym e)
    ∙ entries_from (λ (slot : ℕ). entry xs slot) 0 xs (λ i. (let z : 0 + i ≡ i = omega arith in
    ap (λ (k : ℕ). entry xs k) z))

pub called_long : (blocks : List Block) (style : StyleValue) (at : Place) →
    length (called blocks style at) ≡ length (float_numbers style)
called_long blocks style at = length-map (float_numbers style) _

pub flushed_long : (blocks : List Block) (style : StyleValue) (block : ℕ) →
    length (flushed blocks style block) ≡ length (float_numbers style)
flushed_long blocks style block = length-map (float_numbers style) _
