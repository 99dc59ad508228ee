use Rattle.std.proofs.Common.{◌≡◌, ◌<◌, ◌++◌, length, List, ℕ, Some}
use Rattle.std.specs.Prelude.{slice_get}
use Rattle.pg_table.specs.Label.{RunOf}
use Rattle.pg_table.specs.declared.table.Entry.{Entry}
use Rattle.pg_lines.proofs.runs.moves_back.Given as goal

abbrev pub invariant-back : goal.invariant-back
invariant-back g l = record {
  within : l.at < length l.labels;
  leads : (e p : Entry _ ℕ) (ms : List ℕ) → slice_get l.labels l.index ≡ Some e → slice_get l.labels l.at ≡ Some p →
      RunOf l.labels p ms → RunOf l.labels e (l.way.items ++ ms);
}

abbrev pub decreases-back : goal.decreases-back
decreases-back g l = l.at
