-- Least changes of numbers of which more keeps what is legal.
use Rattle.std.proofs.Common.{subst, ℕ, ◌+◌, ◌-◌, ◌<◌, ◌≤◌, ◌^◌, arith}
use Rattle.std.specs.Prelude.{pos}
use Rattle.std.proofs.lemmas.Int.{ints}
use Rattle.pg_list.specs.GalleyValue.{GalleyValue}
use Rattle.pg_style.specs.Ranges.{IsStyle}
use Rattle.pg_style.specs.Values.{StyleValue}
use Rattle.pg_rules.specs.Ranges.{AreInRange}
use Rattle.law_looser.proofs.Counts.{more_counts}
use Rattle.law_looser.proofs.Looser.{less_text, more_looseness, more_tolerance}
use Rattle.pg_changes.specs.Changes.{GreatestTexts, LeastCounts, LeastLoosenesses, LeastTolerances, NoneLegal}
use Rattle.pg_changes.specs.Numbers.{step_back, with_number}
use Rattle.pg_changes.proofs.Ranges.{in_bottom, in_column, in_looseness, in_text, in_tolerance, in_top}
use Rattle.pg_changes.specs.declared.number.Number.{Number}
use Rattle.pg_changes.specs.declared.number.Number.TheVariants.{Tolerance, Looseness, LeastText, TopCount, BottomCount, ColumnCount}

module _ (g : GalleyValue) (s : StyleValue) (range : AreInRange g s) where
  ranged : (style : StyleValue) → IsStyle style → AreInRange g style
  ranged style is = record { blocks = range.blocks; limit = range.limit; style_in = is }

  -- where nothing is legal under a value, nothing is under one that is no better
  no_tolerance : (a b : ℕ) → a ≤ b → b ≤ 10000 → NoneLegal g (with_number s Tolerance b) →
      NoneLegal g (with_number s Tolerance a)
  no_tolerance a b less few none plan legal =
      none plan (more_tolerance g (with_number s Tolerance a) b less (ranged _ (in_tolerance s range.style_in a (omega (arith, less, few))))
      (ranged _ (in_tolerance s range.style_in b few)) plan legal)

  no_looseness : (a b : ℕ) → a ≤ b → b ≤ 100 → NoneLegal g (with_number s Looseness b) →
      NoneLegal g (with_number s Looseness a)
  no_looseness a b less few none plan legal =
      none plan (more_looseness g (with_number s Looseness a) b less (ranged _ (in_looseness s range.style_in a (omega (arith, less, few))))
      (ranged _ (in_looseness s range.style_in b few)) plan legal)

  no_top : (a b : ℕ) → a ≤ b → b ≤ 4 → NoneLegal g (with_number s TopCount b) → NoneLegal g (with_number s TopCount a)
  no_top a b less few none plan legal =
      none plan (more_counts g (with_number s TopCount a) b s.bottom.count s.float_column.count less (omega arith)
      (omega arith) (ranged _ (in_top s range.style_in a (omega (arith, less, few))))
      (ranged _ (in_top s range.style_in b few)) plan legal)

  no_bottom : (a b : ℕ) → a ≤ b → b ≤ 4 → NoneLegal g (with_number s BottomCount b) →
      NoneLegal g (with_number s BottomCount a)
  no_bottom a b less few none plan legal =
      none plan (more_counts g (with_number s BottomCount a) s.top.count b s.float_column.count (omega arith) less
      (omega arith) (ranged _ (in_bottom s range.style_in a (omega (arith, less, few))))
      (ranged _ (in_bottom s range.style_in b few)) plan legal)

  no_column : (a b : ℕ) → a ≤ b → b ≤ 4 → NoneLegal g (with_number s ColumnCount b) →
      NoneLegal g (with_number s ColumnCount a)
  no_column a b less few none plan legal =
      none plan (more_counts g (with_number s ColumnCount a) s.top.count s.bottom.count b (omega arith) (omega arith)
      less (ranged _ (in_column s range.style_in a (omega (arith, less, few))))
      (ranged _ (in_column s range.style_in b few)) plan legal)

  no_text : (a b : ℕ) → b ≤ a → a < 2 ^ 30 → NoneLegal g (with_number s LeastText b) →
      NoneLegal g (with_number s LeastText a)
  no_text a b less few none plan legal =
      none plan (less_text g (with_number s LeastText a) (pos b) (omega (arith, ints, less))
      (ranged _ (in_text s range.style_in a few)) (ranged _ (in_text s range.style_in b (omega (arith, less, few)))) plan legal)

  pub least_tolerance : LeastTolerances g s
  least_tolerance it t helps number least less =
      let own : IsStyle (with_number s Tolerance it.value) =
      subst (λ (n : Number). IsStyle (with_number s n it.value)) number helps.range in
      let within : it.value ≤ 10000 = own.tolerance_in in
      no_tolerance t (it.value - 1) (omega (arith, less)) (omega (arith, within))
      (subst (λ (n : Number). NoneLegal g (with_number s n (step_back n it.value))) number (helps.least least))

  pub least_looseness : LeastLoosenesses g s
  least_looseness it l helps number least less =
      let own : IsStyle (with_number s Looseness it.value) =
      subst (λ (n : Number). IsStyle (with_number s n it.value)) number helps.range in
      let within : it.value ≤ 100 = own.looseness_in in
      no_looseness l (it.value - 1) (omega (arith, less)) (omega (arith, within))
      (subst (λ (n : Number). NoneLegal g (with_number s n (step_back n it.value))) number (helps.least least))

  pub greatest_text : GreatestTexts g s
  greatest_text it text helps number least more few =
      no_text text (it.value + 1) (omega (arith, more)) few
      (subst (λ (n : Number). NoneLegal g (with_number s n (step_back n it.value))) number (helps.least least))

  pub least_top : LeastCounts TopCount g s
  least_top it n helps number least less =
      let own : IsStyle (with_number s TopCount it.value) =
      subst (λ (n : Number). IsStyle (with_number s n it.value)) number helps.range in
      let within : it.value ≤ 4 = own.top_in.count_in in
      no_top n (it.value - 1) (omega (arith, less)) (omega (arith, within))
      (subst (λ (n : Number). NoneLegal g (with_number s n (step_back n it.value))) number (helps.least least))

  pub least_bottom : LeastCounts BottomCount g s
  least_bottom it n helps number least less =
      let own : IsStyle (with_number s BottomCount it.value) =
      subst (λ (n : Number). IsStyle (with_number s n it.value)) number helps.range in
      let within : it.value ≤ 4 = own.bottom_in.count_in in
      no_bottom n (it.value - 1) (omega (arith, less)) (omega (arith, within))
      (subst (λ (n : Number). NoneLegal g (with_number s n (step_back n it.value))) number (helps.least least))

  pub least_column : LeastCounts ColumnCount g s
  least_column it n helps number least less =
      let own : IsStyle (with_number s ColumnCount it.value) =
      subst (λ (n : Number). IsStyle (with_number s n it.value)) number helps.range in
      let within : it.value ≤ 4 = own.float_column_in.count_in in
      no_column n (it.value - 1) (omega (arith, less)) (omega (arith, within))
      (subst (λ (n : Number). NoneLegal g (with_number s n (step_back n it.value))) number (helps.least least))
