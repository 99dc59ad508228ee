-- A style with another value of a number is one.
use Rattle.std.proofs.Common.{◌≡◌, refl, sym, subst, ℕ, ◌<◌, ◌≤◌, ◌^◌, List, length, arith}
use Rattle.std.specs.Prelude.{ℤ, pos, ◌≤ℤ◌}
use Rattle.std.specs.List.{AllByRecursion}
use Rattle.std.proofs.lemmas.Int.{ints}
use Rattle.pg_scaled.specs.Ranges.{IsScaled}
use Rattle.pg_style.specs.Ranges.{AreClasses, AreRigidClasses, IsAreaRule, IsColumnRule, IsHeight, IsLength, IsRigidArea, IsStyle}
use Rattle.pg_style.specs.Values.{AreaRuleValue, ColumnRuleValue, StyleValue}
use Rattle.pg_style.specs.declared.style.Class.{Class}
use Rattle.pg_changes.specs.Numbers.{with_column_count, with_count, with_number}
use Rattle.pg_changes.specs.declared.number.Number.TheVariants.{Tolerance, Looseness, LeastText, Height, TopCount, BottomCount, WideCount, ColumnCount}

-- the style with other values of all numbers
abbrev with_all : StyleValue → ℤ → ℤ → ℕ → ℕ → AreaRuleValue → AreaRuleValue → AreaRuleValue → ColumnRuleValue →
    List Class → StyleValue
with_all s height text tolerance looseness top bottom wide column classes = record s {
  height = height;
  min_text = text;
  tolerance = tolerance;
  max_looseness = looseness;
  top = top;
  bottom = bottom;
  wide = wide;
  float_column = column;
  classes = classes;
}

-- no gap of these gives anything
abbrev AreRigid : AreaRuleValue → AreaRuleValue → AreaRuleValue → List Class → Type 0
AreRigid top bottom wide classes =
    (IsRigidArea top × IsRigidArea bottom) × (IsRigidArea wide × AreRigidClasses classes)

module _ (s : StyleValue) (is : IsStyle s) where
  -- the style's own gaps where they may give nothing
  rigid : s.version ≤ 2 → AreRigid s.top s.bottom s.wide s.classes
  rigid old =
      let own = is.rigid_in old in
      ((own.top_in, own.bottom_in), (own.wide_in, own.classes_in))

  in_all : (height text : ℤ) (tolerance looseness : ℕ) (top bottom wide : AreaRuleValue) (column : ColumnRuleValue)
      (classes : List Class) → pos 1 ≤ℤ height → IsScaled height → AllByRecursion (IsHeight height) s.runs →
      IsLength text → tolerance ≤ 10000 → looseness ≤ 100 → IsAreaRule top → IsAreaRule bottom → IsAreaRule wide →
      IsColumnRule column → AreClasses classes → length classes ≡ length s.classes →
      (s.version ≤ 2 → AreRigid top bottom wide classes) →
      IsStyle (with_all s height text tolerance looseness top bottom wide column classes)
  in_all height text tolerance looseness top bottom wide column classes a b c d e f g h i j k same stiff = record {
    version_from = is.version_from;
    version_to = is.version_to;
    columns_from = is.columns_from;
    columns_to = is.columns_to;
    height_from = a;
    height_to = b;
    topskip_in = is.topskip_in;
    maxdepth_in = is.maxdepth_in;
    min_text_in = d;
    tolerance_in = e;
    line_in = is.line_in;
    looseness_in = f;
    fitness_in = is.fitness_in;
    ragged_in = is.ragged_in;
    runs_in = is.runs_in;
    heights_in = c;
    top_in = g;
    bottom_in = h;
    wide_in = i;
    float_column_in = j;
    classes_in = k;
    no_fitness = is.no_fitness;
    few_classes = λ one. subst (λ (n : ℕ). n ≤ 4) (sym same) (is.few_classes one);
    rigid_in = λ old. record {
      top_in = (stiff old).0.0;
      bottom_in = (stiff old).0.1;
      wide_in = (stiff old).1.0;
      classes_in = (stiff old).1.1;
      not_ragged = (is.rigid_in old).not_ragged;
    };
  }

  pub in_tolerance : (t : ℕ) → t ≤ 10000 → IsStyle (with_number s Tolerance t)
  in_tolerance t few = in_all s.height s.min_text t s.max_looseness s.top s.bottom s.wide s.float_column s.classes
      is.height_from is.height_to is.heights_in is.min_text_in few is.looseness_in is.top_in is.bottom_in is.wide_in
      is.float_column_in is.classes_in refl rigid

  pub in_looseness : (l : ℕ) → l ≤ 100 → IsStyle (with_number s Looseness l)
  in_looseness l few = in_all s.height s.min_text s.tolerance l s.top s.bottom s.wide s.float_column s.classes
      is.height_from is.height_to is.heights_in is.min_text_in is.tolerance_in few is.top_in is.bottom_in is.wide_in
      is.float_column_in is.classes_in refl rigid

  is_length : (t : ℕ) → t < 2 ^ 30 → IsLength (pos t)
  is_length t few = (omega (arith, ints), omega (arith, ints, few))

  pub in_text : (t : ℕ) → t < 2 ^ 30 → IsStyle (with_number s LeastText t)
  in_text t few = in_all s.height (pos t) s.tolerance s.max_looseness s.top s.bottom s.wide s.float_column s.classes
      is.height_from is.height_to is.heights_in (is_length t few) is.tolerance_in is.looseness_in is.top_in is.bottom_in
      is.wide_in is.float_column_in is.classes_in refl rigid

  pub in_height : (h : ℕ) → 1 ≤ h → h < 2 ^ 30 → AllByRecursion (IsHeight (pos h)) s.runs →
      IsStyle (with_number s Height h)
  in_height h some few runs = in_all (pos h) s.min_text s.tolerance s.max_looseness s.top s.bottom s.wide s.float_column
      s.classes (omega (arith, ints, some)) (omega (arith, ints, few)) runs is.min_text_in is.tolerance_in is.looseness_in
      is.top_in is.bottom_in is.wide_in is.float_column_in is.classes_in refl rigid

  counted : (rule : AreaRuleValue) (n : ℕ) → IsAreaRule rule → n ≤ 4 → IsAreaRule (with_count rule n)
  counted rule n own few = record { count_in = few; sep_in = own.sep_in; gap_in = own.gap_in }

  pub in_top : (n : ℕ) → n ≤ 4 → IsStyle (with_number s TopCount n)
  in_top n few = in_all s.height s.min_text s.tolerance s.max_looseness (with_count s.top n) s.bottom s.wide
      s.float_column s.classes is.height_from is.height_to is.heights_in is.min_text_in is.tolerance_in is.looseness_in
      (counted s.top n is.top_in few) is.bottom_in is.wide_in is.float_column_in is.classes_in refl rigid

  pub in_bottom : (n : ℕ) → n ≤ 4 → IsStyle (with_number s BottomCount n)
  in_bottom n few = in_all s.height s.min_text s.tolerance s.max_looseness s.top (with_count s.bottom n) s.wide
      s.float_column s.classes is.height_from is.height_to is.heights_in is.min_text_in is.tolerance_in is.looseness_in
      is.top_in (counted s.bottom n is.bottom_in few) is.wide_in is.float_column_in is.classes_in refl rigid

  pub in_wide : (n : ℕ) → n ≤ 4 → IsStyle (with_number s WideCount n)
  in_wide n few = in_all s.height s.min_text s.tolerance s.max_looseness s.top s.bottom (with_count s.wide n)
      s.float_column s.classes is.height_from is.height_to is.heights_in is.min_text_in is.tolerance_in is.looseness_in
      is.top_in is.bottom_in (counted s.wide n is.wide_in few) is.float_column_in is.classes_in refl rigid

  pub in_column : (n : ℕ) → n ≤ 4 → IsStyle (with_number s ColumnCount n)
  in_column n few = in_all s.height s.min_text s.tolerance s.max_looseness s.top s.bottom s.wide
      (with_column_count s.float_column n) s.classes is.height_from is.height_to is.heights_in is.min_text_in
      is.tolerance_in is.looseness_in is.top_in is.bottom_in is.wide_in
      (record {
        count_in = few;
        demerits_from = is.float_column_in.demerits_from;
        demerits_to = is.float_column_in.demerits_to;
      }) is.classes_in refl rigid

  pub in_classes : (classes : List Class) → AreClasses classes → length classes ≡ length s.classes →
      (s.version ≤ 2 → AreRigidClasses classes) → IsStyle (record s { classes = classes })
  in_classes classes are same stiff = in_all s.height s.min_text s.tolerance s.max_looseness s.top s.bottom s.wide
      s.float_column classes is.height_from is.height_to is.heights_in is.min_text_in is.tolerance_in is.looseness_in
      is.top_in is.bottom_in is.wide_in is.float_column_in are same
      (λ old. let own = rigid old in (own.0, (own.1.0, stiff old)))
