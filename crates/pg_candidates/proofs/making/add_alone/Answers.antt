use Rattle.std.proofs.Common.{List, ◌+◌, arith, length, map, sym, subst, ◌≤◌}
use Rattle.pg_rules.specs.Legal.{document}
use Rattle.pg_candidates.specs.Nears.{NearValue}
use Rattle.pg_candidates.specs.Seen.{AreServedBefore}
use Rattle.pg_candidates.specs.View.{candidate_of}
use Rattle.pg_candidates.proofs.Needed.{found_at, missing_at, served_missing, served_next}
use Rattle.pg_candidates.proofs.making.add_alone.Goals as goal

pub returns-in_default : goal.returns-in_default
returns-in_default c = λ h.
    let past : length c.args.candidates.now ≤ c.args.at = grind (arith, c.in_default.ensures.lookup.0) in
    served_missing (document c.args.galley.now c.args.style.now) c.args.most.now.stretch
    (map candidate_of c.args.candidates.now) c.args.at c.args.nears.now.items h
    (missing_at c.args.candidates.now c.args.at past)

pub returns : goal.returns
returns c = λ h.
    let doc = document c.args.galley.now c.args.style.now in
    let most = c.args.most.now.stretch in
    let ds = map candidate_of c.args.candidates.now in
    let it = c.in-Some.candidate.now in
    subst (AreServedBefore doc most ds (c.args.at + 1)) (sym {A = List NearValue} c.in_ok-push.ensures.items)
    (served_next doc most ds c.args.at c.args.nears.now.items h c.first_of-near.result.1 c.first_of-near.ensures.at
    (candidate_of it) (found_at c.args.candidates.now c.args.at it c.in-Some.ensures.lookup.0 c.in-Some.ensures.lookup.1)
    c.first_of-near.ensures.near c.first_of-near.ensures.until)
