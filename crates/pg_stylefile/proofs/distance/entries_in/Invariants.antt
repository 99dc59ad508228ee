use Rattle.std.proofs.Common.{◌≡◌, ◌≤◌, length, drop}
use Rattle.toml.specs.View.{items_view}
use Rattle.pg_stylefile.specs.Values.{each_entry}
use Rattle.pg_stylefile.proofs.EntryLemmas.{behind}
use Rattle.pg_stylefile.proofs.distance.entries_in.Given as goal

abbrev pub invariant-loop-value : goal.invariant-loop-value
invariant-loop-value l = record {
  same : each_entry (items_view l.values) ≡ behind l.entries (each_entry
      (items_view (drop l.value-index l.values)));
  count : length l.entries ≡ l.value-index;
}
