use Rattle.std.proofs.Common.{refl}
use Rattle.pg_sources.specs.Document.{doc_of}
use Rattle.law_moves.specs.Listed.{beyond}
use Rattle.pg_rules.specs.Floats.{called}
use Rattle.pg_moves.proofs.AllSteps.{opened}
use Rattle.pg_moves.proofs.opening.open_by.Goals as goal

pub listed_steps_are_moves-requires : goal.listed_steps_are_moves-requires
listed_steps_are_moves-requires g c = c.args.sources.now.in_range

pub returns-clause-moves : goal.returns-clause-moves
returns-clause-moves g c = λ right. opened c.args.sources.now.galley.now c.args.sources.now.style.now c.args.state.now
    (called c.args.sources.now.galley.now.blocks c.args.sources.now.style.now
    (beyond (doc_of c.args.sources.now) c.args.state.now.place)) (g.W.Wants.spares c.args.wants.now) c.in_ok-steps.steps
    c.add_floats.new.steps c.listed_steps_are_moves.ensures.moves
    c.listed_steps_are_moves.ensures.ceiling c.requires.own refl (c.in_ok-steps.ensures.steps right)
    c.in_ok-add_floats.ensures.steps
