-- How high a checked area is.
use Rattle.std.proofs.Common.{◌≡◌, refl, ap, ℕ, ◌≤◌, arith, List, [], length, Bool, true, false, ℤ, pos, Some, None}
use Rattle.std.specs.Prelude.{◌==◌, ◌&&◌, nat_le, if◌then◌else◌, is_some, unwrap_or}
use Rattle.std.specs.List.{AllByRecursion, range_with_len, sum_by}
use Rattle.std.proofs.lemmas.Bool.{eqb-true, leb-true}
use Rattle.std.proofs.lemmas.Int.{ints}
use Rattle.std.proofs.lemmas.List.{length-map}
use Rattle.pg_lemmas.proofs.Bools.{both_of}
use Rattle.pg_list.specs.declared.blocks.Block.{Block}
use Rattle.pg_list.specs.Shapes.{IsBlock}
use Rattle.pg_list.specs.Flat.{flat}
use Rattle.pg_style.specs.Ranges.{IsAreaRule}
use Rattle.pg_style.specs.Values.{AreaRuleValue, StyleValue}
use Rattle.pg_style.specs.declared.style.Area.{Area}
use Rattle.pg_style.specs.declared.style.Gap.{Gap}
use Rattle.pg_rules.specs.Floats.{area_give, area_height, dealt, entry, float_count, float_numbers, floats, has_all, is_area_allowed, sizes_of, total_count}
use Rattle.pg_rules.specs.Room.{checked_give, checked_height}
use Rattle.law_columns.proofs.Areas.{IsUpTo, area_range, dealt_long, dealt_range, floats_range}
use Rattle.law_columns.proofs.Gives.{IsPart, give_range}
use Rattle.law_columns.proofs.BoundCounts.{float_total}
use Rattle.pg_floats.specs.AreFloats.{height_of}
use Rattle.pg_floats.specs.Given.{IsAreaHeight}

pub no_height : IsAreaHeight (pos 0)
no_height = record { from = omega (arith, ints); to = omega arith }

module _ (blocks : List Block) (all : AllByRecursion IsBlock blocks) (style : StyleValue) (takes : Area → Bool)
    (limit : ℕ) (rule : AreaRuleValue) (placed counts : List ℕ) where
  pub few_dealt : limit ≤ 4 → is_area_allowed style takes limit counts ≡ true →
      length (dealt (floats blocks style) placed counts) ≤ 4
  few_dealt h e =
      let p = both_of ((length counts == length (float_numbers style)) && nat_le (total_count counts) limit) _ e in
      let q = both_of (length counts == length (float_numbers style)) (nat_le (total_count counts) limit) p.0 in
      let l : length counts ≡ length (float_numbers style) = eqb-true _ _ q.0 in
      let n : total_count counts ≤ limit = leb-true _ _ q.1 in
      let d : length (dealt (floats blocks style) placed counts) ≤ sum_by (entry counts)
      (range_with_len 0 (length (floats blocks style))) = dealt_long 0 (floats blocks style) placed counts in
      let k : length (floats blocks style) ≡ length (float_numbers style) =
      length-map (float_numbers style) (λ number. sizes_of number (flat blocks [])) in
      let r : sum_by (entry counts) (range_with_len 0 (length (floats blocks style))) ≡ float_count style counts =
      ap (λ (i : ℕ). sum_by (entry counts) (range_with_len 0 i)) k in
      let f : float_count style counts ≡ total_count counts = float_total style counts l in
      omega arith

  pub is_height : limit ≤ 4 → IsAreaRule rule →
      IsAreaHeight (checked_height (floats blocks style) (is_area_allowed style takes limit counts) rule placed counts)
  is_height h range = by (is_area_allowed style takes limit counts) (has_all (floats blocks style) placed counts)
      (few_dealt h)
    where
      by : (a b : Bool) → (a ≡ true → length (dealt (floats blocks style) placed counts) ≤ 4) →
          IsAreaHeight (if a && b then area_height rule (dealt (floats blocks style) placed counts) else pos 0)
      by false b f = no_height
      by true false f = no_height
      by true true f =
          let r = area_range rule range (dealt (floats blocks style) placed counts)
          (dealt_range 0 (floats blocks style) placed counts (floats_range blocks (float_numbers style) all)) (f refl) in
          record { from = r.0; to = r.1 }

  -- what the gaps of such an area give
  pub is_give : (part : Gap → ℤ) → IsPart part → limit ≤ 4 → IsAreaRule rule →
      IsUpTo 4294967292
      (checked_give part (floats blocks style) (is_area_allowed style takes limit counts) rule placed counts)
  is_give part sized h range = by (is_area_allowed style takes limit counts) (has_all (floats blocks style) placed counts)
      (few_dealt h)
    where
      by : (a b : Bool) → (a ≡ true → length (dealt (floats blocks style) placed counts) ≤ 4) →
          IsUpTo 4294967292
          (if a && b then area_give part rule (length (dealt (floats blocks style) placed counts)) else pos 0)
      by false b f = (omega (arith, ints), omega arith)
      by true false f = (omega (arith, ints), omega arith)
      by true true f = give_range part sized rule range (length (dealt (floats blocks style) placed counts)) (f refl)

-- what a list of floats answers, or 0
pub height_is : (lists : List (List ℤ)) (rule : AreaRuleValue) (placed counts : List ℕ) →
    unwrap_or (height_of lists rule placed counts) (pos 0) ≡ checked_height lists true rule placed counts
height_is lists rule placed counts = by (has_all lists placed counts)
  where
    by : (b : Bool) → unwrap_or (if b then Some (area_height rule (dealt lists placed counts)) else None) (pos 0)
        ≡ (if b then area_height rule (dealt lists placed counts) else pos 0)
    by true = refl
    by false = refl

pub is_there : (lists : List (List ℤ)) (rule : AreaRuleValue) (placed counts : List ℕ) →
    is_some (height_of lists rule placed counts) ≡ has_all lists placed counts
is_there lists rule placed counts = by (has_all lists placed counts)
  where
    by : (b : Bool) → is_some (if b then Some (area_height rule (dealt lists placed counts)) else None) ≡ b
    by true = refl
    by false = refl
