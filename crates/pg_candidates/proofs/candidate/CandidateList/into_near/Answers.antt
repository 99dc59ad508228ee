use Rattle.std.proofs.Common.{◌∙◌, ap, map, rc_value}
use Rattle.pg_rules.specs.Legal.{document}
use Rattle.pg_candidates.specs.Nears.{all_picks}
use Rattle.pg_candidates.proofs.Needed.{near_made}
use Rattle.pg_candidates.proofs.candidate.CandidateList.into_near.Goals as goal

pub returns : goal.returns
returns c =
    near_made (document c.args.galley.now c.args.style.now) c.args.most.now.stretch c.args.self c.as_slice.result.now
    c.in_ok-nears.nears.items (map rc_value c.in_ok-picks.picks.items) c.as_slice.ensures
    (c.in_ok-picks.ensures ∙ ap all_picks c.as_slice-2.ensures)
    c.in_ok-nears.ensures
