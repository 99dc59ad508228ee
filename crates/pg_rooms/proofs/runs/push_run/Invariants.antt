use Rattle.std.proofs.Common.{◌≡◌, ◌++◌, map, take}
use Rattle.std.specs.List.{AllByRecursion}
use Rattle.pg_column.specs.Numbers.{IsRoom}
use Rattle.pg_sources.specs.Document.{doc_of}
use Rattle.pg_rooms.specs.Runs.{laid_in}
use Rattle.pg_rooms.specs.declared.laid.Laid.{Laid}
use Rattle.pg_rooms.proofs.runs.push_run.Given as goal

abbrev pub invariant-loop-it : goal.invariant-loop-it
invariant-loop-it l = record {
  value : l.all.items ≡ l.initial.all.items ++ map (laid_in (doc_of l.sources).style l.run) (take l.it-index l.first);
  small : AllByRecursion (λ (it : Laid). IsRoom it.room) l.initial.all.items →
      AllByRecursion (λ (it : Laid). IsRoom it.room) l.all.items;
}
