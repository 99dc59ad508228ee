use Rattle.std.proofs.Common.{rules}
use Rattle.std.specs.Int.{w128}
use Rattle.std.proofs.lemmas.Int.{to_z-of_z}
use Rattle.pg_labelcheck.proofs.Shows.{other_cost, shown_tested}
use Rattle.pg_labelcheck.proofs.shown.test_shown.Goals as goal

pub returns-in-Pages : goal.returns-in-Pages
returns-in-Pages c = shown_tested c.args.galley.now c.args.style.now c.test_pages.result c.args.output.now
    c.in-Pages.plan c.in-Pages.cost c.as_slice.result.now c.in-Pages.is c.as_slice.ensures
    (other_cost c.args.galley.now c.args.style.now c.test_pages.result c.in-Pages.plan c.in-Pages.cost _
    c.as_slice.result.now (to_z-of_z w128 c.in-Pages.cost (record { sfits = search rules })) c.test_pages.ensures)
