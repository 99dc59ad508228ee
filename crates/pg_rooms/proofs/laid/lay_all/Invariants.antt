use Rattle.std.proofs.Common.{◌≡◌, map, take}
use Rattle.std.specs.List.{AllByRecursion}
use Rattle.pg_sources.specs.Document.{doc_of}
use Rattle.pg_rooms.specs.Laid.{laid_of}
use Rattle.pg_rooms.specs.Runs.{IsLow}
use Rattle.pg_rooms.specs.declared.laid.Laid.{Laid}
use Rattle.pg_rooms.proofs.laid.lay_all.Given as goal

abbrev pub invariant-loop-layout : goal.invariant-loop-layout
invariant-loop-layout l = (l.laid.items ≡ map (laid_of (doc_of l.sources) l.state) (take l.layout-index l.layouts))
    × AllByRecursion (λ (it : Laid). IsLow it.room) l.laid.items
