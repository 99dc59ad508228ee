-- A page of one column without floats.
use Rattle.std.proofs.Common.{◌≡◌, ◌∙◌, refl, ap, ap₂, ℕ, zero, suc, ◌+◌, List, [], ◌∷◌, ◌++◌, length, map}
use Rattle.std.specs.Prelude.{replicate}
use Rattle.std.specs.List.{range_with_len}
use Rattle.pg_list.specs.Places.{place}
use Rattle.pg_list.specs.declared.galley.Place.{Place}
use Rattle.pg_plan.specs.declared.pages.Column.{Column}
use Rattle.pg_plan.specs.declared.pages.Page.{Page}
use Rattle.pg_style.specs.Values.{StyleValue}
use Rattle.pg_rules.specs.Floats.{float_numbers, slots}
use Rattle.pg_greedy.specs.FirstFit.{fit_page}
use Rattle.pg_rules.proofs.Examples.{page}

-- a count of 0 for each class
zeros_are : (style : StyleValue) (n : ℕ) → n ≡ length (float_numbers style) → (counts : List ℕ) →
    counts ≡ replicate {A = ℕ} n 0 → counts ≡ map (λ (slot : ℕ). 0) (slots style)
zeros_are style n e counts is =
    is ∙ (made 0 n ∙ ap (λ (k : ℕ). map (λ (slot : ℕ). 0) (range_with_len 0 k)) e)
  where
    made : (from n : ℕ) → replicate {A = ℕ} n 0 ≡ map (λ (slot : ℕ). 0) (range_with_len from n)
    made from zero = refl
    made from (suc n) = ap (λ (ns : List ℕ). 0 ∷ ns) (made (from + 1) n)

abbrev column_of : Place → Place → List ℕ → List ℕ → List ℕ → Column
column_of from to top bottom picks = record { from = from; to = to; top = top; bottom = bottom; picks = picks }

pub page_is : (style : StyleValue) (n : ℕ) → n ≡ length (float_numbers style) → (from to : ℕ) (a z : Place)
    (top bottom wide picks : List ℕ) (none columns : List Column) → a ≡ place from 0 0 → z ≡ place to 0 0 →
    top ≡ replicate {A = ℕ} n 0 → bottom ≡ replicate {A = ℕ} n 0 → wide ≡ replicate {A = ℕ} n 0 → picks ≡ [] →
    none ≡ [] → columns ≡ none ++ column_of a z top bottom picks ∷ [] → page wide columns ≡ fit_page style from to
page_is style n count from to a z top bottom wide picks none columns start end t b w p nothing cs =
    let zeros : List ℕ = map (λ (slot : ℕ). 0) (slots style) in
    ap₂ page (zeros_are style n count wide w)
    (cs ∙ (ap (λ (front : List Column). front ++ column_of a z top bottom picks ∷ []) nothing
    ∙ (ap₂ (λ (i j : Place). column_of i j top bottom picks ∷ []) start end
    ∙ (ap₂ (λ (i j : List ℕ). column_of (place from 0 0) (place to 0 0) i j picks ∷ [])
    (zeros_are style n count top t) (zeros_are style n count bottom b)
    ∙ ap (λ (i : List ℕ). column_of (place from 0 0) (place to 0 0) zeros zeros i ∷ []) p))))
