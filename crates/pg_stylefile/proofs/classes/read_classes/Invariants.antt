use Rattle.std.proofs.Common.{◌≡◌, ◌≤◌, length, drop}
use Rattle.pg_style.specs.Ranges.{AreRigidClasses}
use Rattle.pg_stylefile.specs.Values.{tables_in}
use Rattle.pg_stylefile.specs.Tables.{classes_from, classes_of}
use Rattle.pg_stylefile.proofs.classes.read_classes.Given as goal

abbrev pub invariant-loop-position : goal.invariant-loop-position
invariant-loop-position l = record {
  same : classes_of l.version (tables_in l.tables.values.now) ≡ classes_from l.version l.position l.classes (drop l.position
      (tables_in l.tables.values.now));
  count : length l.classes ≡ l.position;
  rigid : l.version ≤ 2 → AreRigidClasses l.classes;
}
