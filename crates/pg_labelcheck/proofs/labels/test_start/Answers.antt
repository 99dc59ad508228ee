use Rattle.std.proofs.Common.{subst, sym}
use Rattle.pg_sources.specs.Document.{doc_of}
use Rattle.law_check.specs.Tests.{AreStates}
use Rattle.pg_labelcheck.proofs.Passes.{start_fails, start_passes}
use Rattle.pg_labelcheck.proofs.labels.test_start.Goals as goal

pub covers_start-requires : goal.covers_start-requires
covers_start-requires c =
    subst (AreStates (doc_of c.args.space.now.sources)) (sym c.requires.labels) c.requires.before.states

pub returns-in-Ok-true : goal.returns-in-Ok-true
returns-in-Ok-true c = start_passes _ _ c.args.output.now c.args.labels.now c.in-Ok-true.field-0 c.requires.labels
    c.requires.before c.in-Ok-true.ensures c.in-Ok-true.field-0-test

pub returns-in-Ok-false : goal.returns-in-Ok-false
returns-in-Ok-false c = start_fails _ _ c.args.output.now c.args.labels.now c.in-Ok-false.field-0
    c.requires.labels c.requires.before c.in-Ok-false.ensures c.in-Ok-false.field-0-test
