-- What the gaps around a text give, at least and at most.
use Rattle.std.proofs.Common.{◌≡◌, refl, ap, ℕ, zero, suc, ◌*◌, ◌^◌, ◌<◌, ◌≤◌, List, [], ◌∷◌, length, Bool, true, false, arith, ℤ, pos, negsuc}
use Rattle.std.specs.Prelude.{◌&&◌, ◌==◌, if◌then◌else◌, nat_abs, nat_le, ◌+ℤ◌, ◌*ℤ◌, ◌≤ℤ◌}
use Rattle.std.specs.List.{AllByRecursion, sum_by, range_with_len}
use Rattle.std.proofs.Math.Nat.{mul-le-mul_left}
use Rattle.std.proofs.lemmas.Bool.{eqb-true, leb-true}
use Rattle.std.proofs.lemmas.Int.{ints}
use Rattle.std.proofs.lemmas.List.{length-map}
use Rattle.pg_list.specs.declared.blocks.Block.{Block}
use Rattle.pg_list.specs.declared.item.Item.{Item}
use Rattle.pg_list.specs.Flat.{flat}
use Rattle.pg_list.specs.Whole.{whole_sum_by}
use Rattle.pg_style.specs.Ranges.{IsAreaRule, IsClass, IsGap, IsKind}
use Rattle.pg_style.specs.Values.{AreaRuleValue, StyleValue}
use Rattle.pg_style.specs.declared.style.Area.{Area}
use Rattle.pg_style.specs.declared.style.Class.{Class}
use Rattle.pg_style.specs.declared.style.Gap.{Gap}
use Rattle.pg_style.specs.declared.style.Kind.{Kind}
use Rattle.pg_style.specs.declared.style.Kind.TheVariants.{Note, Float}
use Rattle.pg_rules.specs.Floats.{area_give, dealt, entry, float_count, float_numbers, floats, gap_shrink, gap_stretch, has_all, is_area_allowed, sizes_of, total_count}
use Rattle.pg_rules.specs.Reach.{skip_give}
use Rattle.pg_rules.specs.Room.{checked_give, class_give}
use Rattle.law_columns.proofs.Areas.{IsSize, IsUpTo, dealt_long, times_range}
use Rattle.law_columns.proofs.BoundCounts.{float_total}
use Rattle.pg_lemmas.proofs.Bools.{both_of}

-- this part of each gap is a size
abbrev pub IsPart : (Gap → ℤ) → Type 0
IsPart part = (gap : Gap) → IsGap gap → IsSize (part gap)

pub stretch_part : IsPart gap_stretch
stretch_part gap range = range.stretch_in

pub shrink_part : IsPart gap_shrink
shrink_part gap range = (range.shrink_from, small gap.size gap.shrink range.shrink_from range.shrink_to range.size_in.1)
  where
    small : (a b : ℤ) → pos 0 ≤ℤ b → b ≤ℤ a → nat_abs a < 2 ^ 30 → nat_abs b < 2 ^ 30
    small a b h l s = omega (arith, ints)

-- from 0 to another number
abbrev pub IsTo : ℤ → ℤ → Type 0
IsTo most z = (pos 0 ≤ℤ z) × (z ≤ℤ most)

-- counts that are allowed deal out no more floats than the limit
pub dealt_within : (blocks : List Block) (style : StyleValue) (takes : Area → Bool) (limit : ℕ) (before counts : List ℕ) →
    is_area_allowed style takes limit counts ≡ true → length (dealt (floats blocks style) before counts) ≤ limit
dealt_within blocks style takes limit before counts e =
    let p = both_of ((length counts == length (float_numbers style)) && nat_le (total_count counts) limit) _ e in
    let q = both_of (length counts == length (float_numbers style)) (nat_le (total_count counts) limit) p.0 in
    let l : length counts ≡ length (float_numbers style) = eqb-true _ _ q.0 in
    let n : total_count counts ≤ limit = leb-true _ _ q.1 in
    let d : length (dealt (floats blocks style) before counts) ≤ sum_by (entry counts)
    (range_with_len 0 (length (floats blocks style))) = dealt_long 0 (floats blocks style) before counts in
    let k : length (floats blocks style) ≡ length (float_numbers style) =
    length-map (float_numbers style) (λ number. sizes_of number (flat blocks [])) in
    let r : sum_by (entry counts) (range_with_len 0 (length (floats blocks style))) ≡ float_count style counts =
    ap (λ (i : ℕ). sum_by (entry counts) (range_with_len 0 i)) k in
    let f : float_count style counts ≡ total_count counts = float_total style counts l in
    omega arith

module _ (part : Gap → ℤ) (sized : IsPart part) where
  -- ---- areas

  -- three gaps between four floats, and one
  pub give_range : (rule : AreaRuleValue) → IsAreaRule rule → (n : ℕ) → n ≤ 4 →
      IsUpTo 4294967292 (area_give part rule n)
  give_range rule range zero h = (omega (arith, ints), omega arith)
  give_range rule range (suc n) h =
      let s = times_range (part rule.sep) n (sized rule.sep range.sep_in) (omega (arith, h)) in
      let g = sized rule.gap range.gap_in in
      add (part rule.sep *ℤ pos n) (part rule.gap) s.0 s.1 g.0 g.1
    where
      add : (x y : ℤ) → pos 0 ≤ℤ x → nat_abs x ≤ 3221225469 → pos 0 ≤ℤ y → nat_abs y < 1073741824 →
          IsUpTo 4294967292 (x +ℤ y)
      add x y a b c d = (omega (arith, ints), omega (arith, ints))

  -- fewer floats give no more
  pub give_most : (rule : AreaRuleValue) → IsAreaRule rule → (n m : ℕ) → n ≤ m → m ≤ 4 →
      area_give part rule n ≤ℤ area_give part rule m
  give_most rule range zero m h few = (give_range rule range m few).0
  give_most rule range (suc n) zero h few = absurd (omega (arith, h))
  give_most rule range (suc n) (suc m) h few =
      add (part rule.gap) _ _ (times_up (part rule.sep) (sized rule.sep range.sep_in).0)
    where
      times_up : (z : ℤ) → pos 0 ≤ℤ z → (z *ℤ pos n) ≤ℤ (z *ℤ pos m)
      times_up (negsuc k) a = absurd (omega (arith, ints))
      times_up (pos k) a =
          let l : k * n ≤ k * m = mul-le-mul_left k (omega (arith, h)) in
          (let e : pos (k * n) ≤ℤ pos (k * m) = omega (arith, ints, l) in e)

      add : (y a b : ℤ) → a ≤ℤ b → (a +ℤ y) ≤ℤ (b +ℤ y)
      add y a b l = omega (arith, ints)

  -- an area with so many floats at most gives no more than a full one
  pub few_give : (rule : AreaRuleValue) → IsAreaRule rule → (n : ℕ) → n ≤ rule.count →
      IsTo (area_give part rule rule.count) (area_give part rule n)
  few_give rule range n h = (
    (give_range rule range n (let few = range.count_in in omega (arith, h, few))).0,
    give_most rule range n rule.count h range.count_in,
  )

  pub checked_to : (lists : List (List ℤ)) (allowed : Bool) (rule : AreaRuleValue) (before counts : List ℕ) →
      IsAreaRule rule → (allowed ≡ true → length (dealt lists before counts) ≤ rule.count) →
      IsTo (area_give part rule rule.count) (checked_give part lists allowed rule before counts)
  checked_to lists allowed rule before counts range few = by allowed (has_all lists before counts) few
    where
      none : IsTo (area_give part rule rule.count) (pos 0)
      none = (omega (arith, ints), (give_range rule range rule.count range.count_in).0)

      by : (a b : Bool) → (a ≡ true → length (dealt lists before counts) ≤ rule.count) →
          IsTo (area_give part rule rule.count)
          (if a && b then area_give part rule (length (dealt lists before counts)) else pos 0)
      by false b f = none
      by true false f = none
      by true true f = few_give rule range (length (dealt lists before counts)) (f refl)

  -- ---- skips

  one_skip : (items : List Item) (number : ℕ) (kind : Kind) → IsKind kind →
      IsTo (skip_give part kind) (class_give part items number kind)
  one_skip items number (Float area distance) range = (omega (arith, ints), omega (arith, ints))
  one_skip items number (Note skip limit) range = by (length (sizes_of number items) == 0)
    where
      by : (b : Bool) → IsTo (part skip) (if b then pos 0 else part skip)
      by true = (omega (arith, ints), (sized skip range.0).0)
      by false = ((sized skip range.0).0, omega (arith, ints))

  -- the skips of the notes that are there give no more than all
  pub skips_to : (items : List Item) (classes : List Class) → AllByRecursion IsClass classes →
      IsTo (whole_sum_by (λ (class : Class). skip_give part class.kind) classes)
      (whole_sum_by (λ (class : Class). class_give part items class.number class.kind) classes)
  skips_to items [] ranges = (omega (arith, ints), omega (arith, ints))
  skips_to items (class ∷ classes) ranges =
      let one = one_skip items class.number class.kind ranges.0.kind_in in
      let rest = skips_to items classes ranges.1 in
      add _ _ _ _ one.0 one.1 rest.0 rest.1
    where
      add : (a b c d : ℤ) → pos 0 ≤ℤ b → b ≤ℤ a → pos 0 ≤ℤ d → d ≤ℤ c → IsTo (a +ℤ c) (b +ℤ d)
      add a b c d p q r s = (omega (arith, ints), omega (arith, ints))
