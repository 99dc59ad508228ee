use Rattle.pg_cover.proofs.Least.{open_least, own_steps}
use Rattle.pg_cover.proofs.cover.open_of.Goals as goal

pub least_open-requires-clause-steps : goal.least_open-requires-clause-steps
least_open-requires-clause-steps g c = own_steps _ c.args.labels.now c.args.label.now _
    (g.met.S.Space.lawful c.args.space.now) c.requires.label _ c.in_ok-opened.ensures.wanted

pub returns-clause-least : goal.returns-clause-least
returns-clause-least g c = open_least _ _ _ _ c.least_open.result c.in_ok-opened.ensures.wanted c.least_open.ensures
