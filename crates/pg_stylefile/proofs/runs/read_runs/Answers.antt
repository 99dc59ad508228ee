use Rattle.std.proofs.Common.{◌≡◌, ◌∙◌, ap, rules, ℕ, ◌+◌, [], ◌∷◌, to_z, of_z, to_z-of_z, w32, Err, length-append}
use Rattle.toml.specs.View.{table_view}
use Rattle.pg_style.specs.Ranges.{IsHeight}
use Rattle.pg_stylefile.specs.Faults.{fault_at}
use Rattle.pg_stylefile.specs.Values.{tables_in}
use Rattle.pg_stylefile.specs.Tables.{runs_of}
use Rattle.pg_stylefile.proofs.RunLemmas.{run_read, run_refused, first_refused, all_and}
use Rattle.pg_stylefile.proofs.runs.read_runs.Goals as goal

pub returns-in_err-first-clause-value : goal.returns-in_err-first-clause-value
returns-in_err-first-clause-value c =
    let same : to_z w32 (of_z w32 c.args.height) ≡ c.args.height =
    to_z-of_z {w = w32} {z = c.args.height} (record { sfits = c.ranges.height.sfits }) in
    let fault =
    fault_at c.in_err-first.field-0.0.kind c.in_err-first.field-0.0.table_name c.in_err-first.field-0.0.key.now in
    let refused : runs_of c.args.height (tables_in c.args.tables.now.values.now) ≡ Err fault =
    first_refused c.args.height (tables_in c.args.tables.now.values.now)
    (table_view c.at.result.now) fault c.at.ensures (rw same at c.in_err-first.ensures.value) in
    search rules

pub returns-in_err-run-clause-value : goal.returns-in_err-run-clause-value
returns-in_err-run-clause-value c =
    let same : to_z w32 (of_z w32 c.args.height) ≡ c.args.height =
    to_z-of_z {w = w32} {z = c.args.height} (record { sfits = c.ranges.height.sfits }) in
    let fault = fault_at c.in_err-run.field-0.0.kind c.in_err-run.field-0.0.table_name c.in_err-run.field-0.0.key.now in
    let refused : runs_of c.args.height (tables_in c.args.tables.now.values.now) ≡ Err fault =
    run_refused c.args.height c.loop-position.position (tables_in c.args.tables.now.values.now)
    (table_view c.at-in-loop-position.result.now) fault c.loop-position.runs _
    (rw same at c.loop-position.invariant.same) c.at-in-loop-position.ensures (rw same at c.in_err-run.ensures.value) in
    search rules

pub loop-position-preserved : goal.loop-position-preserved
loop-position-preserved c = record {
  same = rw c.push.ensures (run_read _ c.loop-position.position (tables_in c.args.tables.now.values.now)
      (table_view c.at-in-loop-position.result.now) c.in_ok-run.run' c.loop-position.runs _
      c.loop-position.invariant.same c.at-in-loop-position.ensures c.in_ok-run.ensures.value);
  count = rw c.push.ensures (length-append c.loop-position.runs (c.in_ok-run.run' ∷ [])
      ∙ ap (λ (n : ℕ). n + 1) c.loop-position.invariant.count);
  heights =
      rw c.push.ensures (all_and (IsHeight (to_z w32 (of_z w32 c.args.height))) c.loop-position.runs
      c.in_ok-run.run' c.loop-position.invariant.heights c.in_ok-run.ensures.height);
}
