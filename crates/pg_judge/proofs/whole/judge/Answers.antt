use Rattle.std.proofs.Common.{sym}
use Rattle.pg_judge.proofs.Settling.{judges, judges_pages}
use Rattle.pg_judge.proofs.whole.judge.Goals as goal

pub returns-in-Some : goal.returns-in-Some
returns-in-Some c = judges_pages c.args.galley.now c.args.style.now c.args.plan.now c.in-Some.column
    (sym c.in-Some.ensures)

pub returns-in-None : goal.returns-in-None
returns-in-None c = judges c.args.galley.now c.args.style.now c.args.plan.now c.judge_columns.result
    (sym c.in-None.ensures) c.judge_columns.ensures
