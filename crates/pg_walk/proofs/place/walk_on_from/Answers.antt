use Rattle.std.proofs.Common.{subst, IfSome, ℤ}
use Rattle.law_walk.specs.Candidates.{AreCandidates}
use Rattle.law_walk.specs.Reached.{quiet}
use Rattle.pg_candidates.specs.Nears.{AreNear}
use Rattle.pg_walk.specs.Contexts.{doc_of}
use Rattle.pg_walk.specs.Blocks.{IsAlone}
use Rattle.pg_walk.proofs.place.walk_on_from.Goals as goal

pub reach_told-requires-clause-told : goal.reach_told-requires-clause-told
reach_told-requires-clause-told c =
    subst (λ (z : ℤ). IfSome c.in_ok-told.told (IsAlone (quiet (doc_of c.args.context.now)) z c.args.from))
    c.requires.top c.in_ok-told.ensures.told

pub returns-clause-near : goal.returns-clause-near
returns-clause-near c =
    let doc = doc_of c.args.context.now in
    record {
      candidates = c.collect_behind.new.found;
      found = subst (λ (z : ℤ). AreCandidates doc c.args.from z c.collect_behind.new.found) c.requires.top
          c.in_ok-told.ensures.found;
      near = subst (λ (most : ℤ). AreNear doc most c.collect_behind.new.found c.in_ok-near.near)
          c.areas_give.ensures.stretch c.in_ok-near.ensures;
    }
