-- What is found of floats that no column can hold.
use Rattle.std.proofs.Common.{◌≡◌, refl, sym, ap, subst, ◌∙◌, ◌⊎◌, inl, inr, ℕ, zero, suc, ◌+◌, ◌<◌, ◌≤◌, ◌^◌, List, [], ◌∷◌, length, Option, Some, None, arith}
use Rattle.std.specs.Prelude.{slice_get, ℤ}
use Rattle.std.specs.List.{sum_by}
use Rattle.std.specs.Option.{option_map_or}
use Rattle.std.specs.Ordering.{nat_cmp}
use Rattle.std.proofs.lemmas.Cmp.{by_ranked, ranked}
use Rattle.std.proofs.lemmas.List.Sums.{sum_by-cons}
use Rattle.std.proofs.lemmas.Option.{same_Some, slice_get_within}
use Rattle.pg_lemmas.proofs.Bools.{or_cases}
use Rattle.pg_list.specs.GalleyValue.{GalleyValue}
use Rattle.pg_style.specs.Values.{StyleValue}
use Rattle.pg_floats.specs.AreFloats.{float_size, float_total}
use Rattle.pg_rules.specs.Floats.{floats}
use Rattle.pg_rules.specs.Ranges.{AreInRange}
use Rattle.law_places.proofs.Among.{Among}
use Rattle.law_places.proofs.Members.{among_contains}
use Rattle.pg_alone.specs.Alone.{AloneForbids, HasFloat, IsPlain}
use Rattle.pg_alone.proofs.High.{high_forbid}
use Rattle.pg_alone.proofs.Placeless.{placeless_forbid}

at_among : {X : Type 0} (xs : List X) (i : ℕ) (x : X) → slice_get xs i ≡ Some x → Among x xs
at_among [] i x is = absurd cc
at_among (y ∷ xs) zero x is = inl (same_Some y x is)
at_among (y ∷ xs) (suc i) x is = inr (at_among xs i x is)

-- the list of a slot with its float
pub record IsFound (lists : List (List ℤ)) (slot number : ℕ) (size : ℤ) : Type 0 where
  pub sizes : List ℤ
  pub at : slice_get lists slot ≡ Some sizes
  pub is : slice_get sizes number ≡ Some size

pub found : (galley : GalleyValue) (style : StyleValue) (slot number : ℕ) (size : ℤ) →
    float_size galley.blocks style slot number ≡ Some size →
    IsFound (floats galley.blocks style) slot number size
found galley style slot number size is = by (slice_get (floats galley.blocks style) slot) refl is
  where
    by : (o : Option (List ℤ)) → slice_get (floats galley.blocks style) slot ≡ o →
        option_map_or (λ (sizes : List ℤ). slice_get sizes number) o None ≡ Some size →
        IsFound (floats galley.blocks style) slot number size
    by None e f = absurd cc
    by (Some sizes) e f = record { sizes = sizes; at = e; is = f }

has_float : (galley : GalleyValue) (style : StyleValue) (slot number : ℕ) (size : ℤ) →
    float_size galley.blocks style slot number ≡ Some size → HasFloat galley style slot size
has_float galley style slot number size is =
    let it = found galley style slot number size is in
    record {
      sizes = it.sizes;
      at = it.at;
      has = among_contains it.sizes size (at_among it.sizes number size it.is);
    }

pub forbids : (g : GalleyValue) (s : StyleValue) → AreInRange g s → AloneForbids g s
forbids g s range it plan is legal =
    let has = has_float g s it.slot it.number it.size is.size in
    elim (or_cases it.is_high it.is_placeless is.some) [
      | inl high ↦ high_forbid g s range it.slot it.size plan has (sym is.high ∙ high) legal
      | inr placeless ↦ placeless_forbid g s range it.slot it.size plan has (sym is.placeless ∙ placeless) legal
    ]

-- ---- there are no more floats than a list may have

long_at : (lists : List (List ℤ)) (slot : ℕ) (sizes : List ℤ) → slice_get lists slot ≡ Some sizes →
    length sizes ≤ sum_by (λ (own : List ℤ). length own) lists
long_at [] slot sizes is = absurd cc
long_at (own ∷ lists) zero sizes is =
    let sum = sum_by-cons (λ (own : List ℤ). length own) own lists in
    let same = ap length (same_Some own sizes is) in
    omega (arith, sum, same)
long_at (own ∷ lists) (suc slot) sizes is =
    let sum = sum_by-cons (λ (own : List ℤ). length own) own lists in
    let rest = long_at lists slot sizes is in
    omega (arith, sum, rest)

pub below_limit : (galley : GalleyValue) (style : StyleValue) (slot number : ℕ) (size : ℤ) →
    float_total galley.blocks style ≤ 2 ^ 12 → float_size galley.blocks style slot number ≡ Some size → number < 4096
below_limit galley style slot number size few is =
    let it = found galley style slot number size is in
    let within = slice_get_within it.sizes number size it.is in
    let long = long_at (floats galley.blocks style) slot it.sizes it.at in
    omega (arith, within, long, few)

pub split : (i count : ℕ) → i < count + 1 → (i < count) ⊎ (i ≡ count)
split i count h = by_ranked (i < count) (i ≡ count) (count < i) (nat_cmp i count)
    (ranked i count (nat_cmp i count) refl) (λ _ p. inl p) (λ _ p. inr p) (λ _ p. absurd (omega (arith, h, p)))

pub within_or : (i count : ℕ) → (i < count) ⊎ (count ≤ i)
within_or i count = by_ranked (i < count) (i ≡ count) (count < i) (nat_cmp i count)
    (ranked i count (nat_cmp i count) refl) (λ _ p. inl p) (λ _ p. inr (omega (arith, p))) (λ _ p. inr (omega (arith, p)))

-- none so far, and not the next
pub one_more : (P : ℕ → Type 0) (count : ℕ) → ((i : ℕ) → i < count → P i) → P count → (i : ℕ) → i < count + 1 → P i
one_more P count before next i less = by (split i count less)
  where
    by : (i < count) ⊎ (i ≡ count) → P i
    by (inl fewer) = before i fewer
    by (inr is) = subst P (sym is) next

-- no float has a number from the limit on
pub all_plain : (galley : GalleyValue) (style : StyleValue) (slot : ℕ) → float_total galley.blocks style ≤ 2 ^ 12 →
    ((number : ℕ) → number < 4096 → IsPlain galley style slot number) → (number : ℕ) → IsPlain galley style slot number
all_plain galley style slot few below number size is = below number (below_limit galley style slot number size few is) size is

-- nor a slot from the classes on
pub no_slot : (galley : GalleyValue) (style : StyleValue) (slots : ℕ) → slots ≡ length (floats galley.blocks style) →
    ((slot : ℕ) → slot < slots → (number : ℕ) → IsPlain galley style slot number) →
    (slot number : ℕ) → IsPlain galley style slot number
no_slot galley style slots all below slot number size is =
    let it = found galley style slot number size is in
    let within = slice_get_within (floats galley.blocks style) slot it.sizes it.at in
    below slot (omega (arith, within, all)) number size is
