use Rattle.pg_showbox.proofs.StateLemmas.{step_keeps}
use Rattle.pg_showbox.proofs.read.read_line.Goals as goal

pub returns-clause-sound : goal.returns-clause-sound
returns-clause-sound c = step_keeps c.step.result c.args.state.now c.step.new.self c.in_ok-parsed.parsed c.args.line.now
    c.requires c.in_ok-parsed.ensures.range c.step.ensures
