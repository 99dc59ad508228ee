use Rattle.std.proofs.Common.{subst, sym}
use Rattle.pg_sources.specs.Document.{doc_of}
use Rattle.law_check.specs.Tests.{AreStates}
use Rattle.pg_labelcheck.proofs.Passes.{open_few, steps_fail, steps_pass}
use Rattle.pg_labelcheck.proofs.labels.test_steps.Goals as goal

pub first_open-requires : goal.first_open-requires
first_open-requires g c = subst (AreStates (doc_of c.args.space.now.pages.sources)) (sym c.requires.labels)
    c.requires.before.before.states

pub number_of-requires : goal.number_of-requires
number_of-requires g c = open_few c.args.space.now.pages.sources.galley.now
    c.args.space.now.pages.sources.style.now c.args.labels.now c.args.output.now.labels c.in-Ok-Some.open.index
    c.in-Ok-Some.open.to c.requires.labels c.requires.few.labels
    (c.in-Ok-Some.ensures.some c.in-Ok-Some.open c.in-Ok-Some.field-0-is)

pub returns-in-Ok-None-clause-tested : goal.returns-in-Ok-None-clause-tested
returns-in-Ok-None-clause-tested g c = steps_pass _ _ c.args.output.now c.args.labels.now c.requires.labels
    c.requires.before c.best_picks_decide.ensures.pass (c.in-Ok-None.ensures.none c.in-Ok-None.field-0-is)

pub returns-in-Ok-Some-clause-tested : goal.returns-in-Ok-Some-clause-tested
returns-in-Ok-Some-clause-tested g c = steps_fail _ _ c.args.output.now c.args.labels.now c.in-Ok-Some.open.index
    c.number_of.result c.in-Ok-Some.open.to c.requires.labels c.number_of.ensures c.requires.before
    c.best_picks_decide.ensures.fault (c.in-Ok-Some.ensures.some c.in-Ok-Some.open c.in-Ok-Some.field-0-is)
