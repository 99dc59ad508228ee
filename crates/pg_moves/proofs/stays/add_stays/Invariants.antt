use Rattle.std.proofs.Common.{◌≡◌, ◌++◌, take}
use Rattle.std.specs.List.{flat_map}
use Rattle.pg_sources.specs.Document.{doc_of}
use Rattle.pg_moves.specs.Stepping.{stay_in}
use Rattle.pg_moves.proofs.stays.add_stays.Given as goal

abbrev pub invariant-loop-it : goal.invariant-loop-it
invariant-loop-it l = l.steps ≡ l.initial.steps ++ flat_map (stay_in (doc_of l.sources) l.state) (take l.it-index l.laid)
