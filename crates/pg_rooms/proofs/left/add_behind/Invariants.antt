use Rattle.std.proofs.Common.{◌≡◌, List, take, true, Some}
use Rattle.std.specs.List.{AllByRecursion}
use Rattle.law_walk.specs.Candidates.{Candidate, has_text}
use Rattle.pg_rooms.specs.declared.laid.Laid.{Laid}
use Rattle.pg_sources.specs.Document.{doc_of}
use Rattle.pg_rooms.specs.Calls.{AreCalls}
use Rattle.pg_rooms.specs.PlaceEnds.{AreFrontEndsOf, IsPageRoom, IsSameBehind, has_behind}
use Rattle.pg_rooms.proofs.left.add_behind.Given as goal

abbrev pub invariant-loop-it : goal.invariant-loop-it
invariant-loop-it l = record {
  has : AllByRecursion (λ (it : Laid). has_text (doc_of l.sources).style it.room ≡ true →
      has_behind (Some l.behind) it.room ≡ true) (take l.it-index l.laid);
  right : (cs : List Candidate) → AllByRecursion (λ (it : Laid). IsPageRoom (doc_of l.sources).style it.room) l.laid →
      AreCalls (doc_of l.sources) l.initial.calls.items.items →
      AreFrontEndsOf (doc_of l.sources) cs l.initial.behind.ends → AreFrontEndsOf (doc_of l.sources) cs l.behind.ends;
  same : IsSameBehind l.initial.behind l.behind;
  calls : AreCalls (doc_of l.sources) l.initial.calls.items.items → AreCalls (doc_of l.sources) l.calls.items.items;
}
