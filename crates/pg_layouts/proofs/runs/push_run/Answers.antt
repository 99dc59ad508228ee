use Rattle.pg_layouts.specs.Behind.{of_run}
use Rattle.pg_layouts.specs.Layouts.{takes_run}
use Rattle.pg_layouts.proofs.Answered.{at_err}
use Rattle.pg_layouts.proofs.OneMore.{passed_one, taken_one}
use Rattle.pg_layouts.proofs.runs.push_run.Goals as goal

pub push_wides-requires : goal.push_wides-requires
push_wides-requires c = c.requires

pub returns-in_err-push_wides : goal.returns-in_err-push_wides
returns-in_err-push_wides c = at_err _ c.from_residual.result c.from_residual.ensures.0

pub returns-in_ok-push_wides : goal.returns-in_ok-push_wides
returns-in_ok-push_wides c = taken_one
    (of_run c.args.search.now.kind c.args.search.now.style.now c.args.placed.now c.args.search.now.ceiling.now
    c.args.wides.now) c.args.layouts.now.items c.push_wides.new.layouts.items c.args.run c.is_run_taken.result
    (takes_run c.args.must c.args.run) c.is_run_taken.ensures c.if-is_run_taken.true c.in_ok-push_wides.ensures

pub returns-else-is_run_taken : goal.returns-else-is_run_taken
returns-else-is_run_taken c = passed_one
    (of_run c.args.search.now.kind c.args.search.now.style.now c.args.placed.now c.args.search.now.ceiling.now
    c.args.wides.now) c.args.layouts.now.items c.args.run c.is_run_taken.result (takes_run c.args.must c.args.run)
    c.is_run_taken.ensures c.if-is_run_taken.false
