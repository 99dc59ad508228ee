use Rattle.std.proofs.Common.{◌≡◌, ◌∙◌, refl, ap, subst, rules, arith, ℕ, ◌≤◌, Bool, true, false, length, to_z, of_z, to_z-of_z, w32, ℤ, Err}
use Rattle.std.specs.Prelude.{◌==◌, if◌then◌else◌}
use Rattle.std.specs.List.{AllByRecursion}
use Rattle.pg_style.specs.Ranges.{IsHeight}
use Rattle.pg_stylefile.specs.Faults.{fault_at}
use Rattle.pg_stylefile.specs.Root.{most_classes, subtables_view}
use Rattle.pg_stylefile.specs.Style.{rules_of}
use Rattle.pg_stylefile.specs.Values.{tables_in}
use Rattle.pg_stylefile.proofs.read.read_rules.Goals as goal

most_few : (b : Bool) → (if b then 4 else 8) ≤ 8
most_few true = omega arith
most_few false = omega arith

pub read_classes-requires : goal.read_classes-requires
read_classes-requires c =
    let most = most_few (c.args.version == 1) in
    let few = c.requires.few.few_classes in
    omega (arith, most, few)

pub returns-in_err-float_column-clause-value : goal.returns-in_err-float_column-clause-value
unfolding rules_of
returns-in_err-float_column-clause-value c =
    let same : to_z w32 (of_z w32 c.args.height) ≡ c.args.height =
    to_z-of_z {w = w32} {z = c.args.height} (record { sfits = c.ranges.height.sfits }) in
    let fault = fault_at c.in_err-float_column.field-0.0.kind c.in_err-float_column.field-0.0.table_name
    c.in_err-float_column.field-0.0.key.now in
    let refused : rules_of c.args.version c.args.height (subtables_view c.args.subtables.now) ≡ Err fault =
    rw (rw same at c.in_ok-runs.ensures.value, c.in_ok-areas.ensures.value, c.in_err-float_column.ensures.value) refl in
    search rules

pub returns-in_err-classes-clause-value : goal.returns-in_err-classes-clause-value
unfolding rules_of
returns-in_err-classes-clause-value c =
    let same : to_z w32 (of_z w32 c.args.height) ≡ c.args.height =
    to_z-of_z {w = w32} {z = c.args.height} (record { sfits = c.ranges.height.sfits }) in
    let fault = fault_at c.in_err-classes.field-0.0.kind c.in_err-classes.field-0.0.table_name
    c.in_err-classes.field-0.0.key.now in
    let refused : rules_of c.args.version c.args.height (subtables_view c.args.subtables.now) ≡ Err fault =
    rw (
      rw same at c.in_ok-runs.ensures.value,
      c.in_ok-areas.ensures.value,
      c.in_ok-float_column.ensures.value,
      c.in_err-classes.ensures.value,
    ) refl in
    search rules

pub returns-clause-value : goal.returns-clause-value
unfolding rules_of
returns-clause-value c =
    let same : to_z w32 (of_z w32 c.args.height) ≡ c.args.height =
    to_z-of_z {w = w32} {z = c.args.height} (record { sfits = c.ranges.height.sfits }) in
    rw (
      rw same at c.in_ok-runs.ensures.value,
      c.in_ok-areas.ensures.value,
      c.in_ok-float_column.ensures.value,
      c.in_ok-classes.ensures.value,
    ) refl

pub returns-clause-range : goal.returns-clause-range
returns-clause-range c =
    let same : to_z w32 (of_z w32 c.args.height) ≡ c.args.height =
    to_z-of_z {w = w32} {z = c.args.height} (record { sfits = c.ranges.height.sfits }) in
    record {
      runs_in = c.in_ok-runs.ensures.range;
      heights_in = subst (λ (z : ℤ). AllByRecursion (IsHeight z) c.in_ok-runs.runs) same c.in_ok-runs.ensures.heights;
      areas_in = c.in_ok-areas.ensures.range;
      float_column_in = c.in_ok-float_column.ensures.range;
      classes_in = c.in_ok-classes.ensures.range;
      few_classes = λ one.
          let few = subst (λ (v : ℕ). length (tables_in c.args.subtables.now.classes.values.now) ≤ most_classes v) one
          c.requires.few.few_classes in
          let count = c.in_ok-classes.ensures.count in
          omega (arith, few, count);
    }
