use Rattle.std.proofs.Common.{subst, ℤ, w64}
use Rattle.std.proofs.lemmas.Int.{to_z-of_z}
use Rattle.std.proofs.lemmas.Result.{IfOk-weaker}
use Rattle.pg_rules.specs.Legal.{document}
use Rattle.law_walk.specs.Candidates.{AreCandidates}
use Rattle.pg_candidates.specs.Nears.{AreNear, AreNearFrom}
use Rattle.pg_walk.proofs.place.near_from.Goals as goal

pub returns : goal.returns
returns c =
    let doc = document c.args.galley.now c.args.style.now in
    let cs = c.in_ok-candidates.field-0 in
    let top = to_z-of_z w64 c.args.top (record { sfits = c.ranges.top.sfits }) in
    let most = c.args.most.now.stretch in
    IfOk-weaker c.into_near.result (AreNear doc most cs) (AreNearFrom doc c.args.from c.args.top most) (λ it near. record {
      candidates = cs;
      found = subst (λ (z : ℤ). AreCandidates doc c.args.from z cs) top c.in_ok-candidates.ensures;
      near = near;
    }) c.into_near.ensures
