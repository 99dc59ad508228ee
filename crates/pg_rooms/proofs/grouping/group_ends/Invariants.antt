use Rattle.std.proofs.Common.{◌≤◌, ◌++◌, List, length}
use Rattle.pg_sources.specs.Document.{doc_of}
use Rattle.pg_rooms.specs.Calls.{AreCalls}
use Rattle.pg_rooms.specs.PlaceEnds.{AreGroups}
use Rattle.pg_rooms.specs.declared.grouping.Group.{Group}
use Rattle.pg_rooms.proofs.grouping.group_ends.Given as goal

abbrev pub invariant-groups : goal.invariant-groups
invariant-groups l = record {
  groups : AreCalls (doc_of l.sources) l.initial.calls.items.items →
      (more : List Group) → AreGroups (doc_of l.sources) more l.rest →
      AreGroups (doc_of l.sources) (l.groups.items ++ more) l.ends;
  calls : AreCalls (doc_of l.sources) l.initial.calls.items.items → AreCalls (doc_of l.sources) l.calls.items.items;
  few : length l.rest ≤ length l.ends;
}

abbrev pub decreases-groups : goal.decreases-groups
decreases-groups l = length l.rest
