use Rattle.std.proofs.Common.{◌≡◌, length, drop}
use Rattle.std.specs.List.{AllByRecursion}
use Rattle.pg_style.specs.Ranges.{IsHeight}
use Rattle.pg_stylefile.specs.Values.{tables_in}
use Rattle.pg_stylefile.specs.Tables.{runs_from, runs_of}
use Rattle.pg_stylefile.proofs.RunLemmas.{behind}
use Rattle.pg_stylefile.proofs.runs.read_runs.Given as goal

abbrev pub invariant-loop-position : goal.invariant-loop-position
invariant-loop-position l = record {
  same : runs_of l.height (tables_in l.tables.values.now) ≡ behind l.runs (runs_from l.height l.position
      (drop l.position (tables_in l.tables.values.now)));
  count : length l.runs ≡ l.position;
  heights : AllByRecursion (IsHeight l.height) l.runs;
}
