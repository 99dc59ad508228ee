use Rattle.std.proofs.Common.{◌≡◌, is_ok, drop}
use Rattle.toml.specs.View.{items_view}
use Rattle.pg_stylefile.specs.Values.{each_table}
use Rattle.pg_stylefile.proofs.tables.are_tables.Given as goal

abbrev pub invariant-loop-value : goal.invariant-loop-value
invariant-loop-value l =
    is_ok (each_table (items_view l.values)) ≡ is_ok (each_table (items_view (drop l.value-index l.values)))
