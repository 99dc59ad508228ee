use Rattle.std.proofs.Common.{sym}
use Rattle.pg_list.specs.GalleyValue.{GalleyValue}
use Rattle.pg_style.specs.Values.{StyleValue}
use Rattle.law_check.specs.Tests.{PassesAll, PassesText}
use Rattle.pg_labelcheck.specs.Tested.{Tested}
use Rattle.pg_space.proofs.Telling.{of_equal}
use Rattle.pg_labelcheck.proofs.labels.test_labels.Goals as goal

pub test_in-requires-clause-before : goal.test_in-requires-clause-before
test_in-requires-clause-before g c = of_equal
    (λ (galley : GalleyValue) (style : StyleValue). PassesText galley style c.args.output.now) c.args.galley.now _
    c.args.style.now _ (sym c.new-space.ensures.galley) (sym c.new-space.ensures.style) c.requires.before

pub returns-clause-tested : goal.returns-clause-tested
returns-clause-tested g c = of_equal
    (λ (galley : GalleyValue) (style : StyleValue). Tested (PassesAll galley style c.args.output.now) galley style
    c.args.output.now c.test_in.result) _ c.args.galley.now _ c.args.style.now c.new-space.ensures.galley
    c.new-space.ensures.style c.test_in.ensures.tested
