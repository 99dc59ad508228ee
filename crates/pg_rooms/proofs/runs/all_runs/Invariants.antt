use Rattle.std.proofs.Common.{◌≡◌}
use Rattle.std.specs.List.{AllByRecursion, flat_map, range_with_len}
use Rattle.pg_column.specs.Numbers.{IsRoom}
use Rattle.pg_sources.specs.Document.{doc_of}
use Rattle.pg_rooms.specs.Runs.{laid_in_all}
use Rattle.pg_rooms.specs.declared.laid.Laid.{Laid}
use Rattle.pg_rooms.proofs.runs.all_runs.Given as goal

abbrev pub invariant-loop-run : goal.invariant-loop-run
invariant-loop-run l = record {
  value : l.all.items ≡ flat_map (laid_in_all (doc_of l.sources).style l.first) (range_with_len 0 l.run);
  small : AllByRecursion (λ (it : Laid). IsRoom it.room) l.all.items;
}
