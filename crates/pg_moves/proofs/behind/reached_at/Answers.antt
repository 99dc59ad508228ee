use Rattle.std.proofs.Common.{rules, subst, sym, Option, IfSome}
use Rattle.pg_moves.specs.Outdone.{IsAsked}
use Rattle.pg_moves.specs.declared.behind.Reached.{Reached}
use Rattle.pg_moves.proofs.Late.{none_told, told_at}
use Rattle.pg_moves.proofs.behind.reached_at.Goals as goal

pub returns-in_err-marked-clause-asked : goal.returns-in_err-marked-clause-asked
returns-in_err-marked-clause-asked g c = subst (λ (it : Option Reached). IfSome it (IsAsked c.args.state.now))
    (sym c.from_residual.ensures) tt

pub returns-in_err-marked-clause-spared : goal.returns-in_err-marked-clause-spared
returns-in_err-marked-clause-spared g c = none_told (g.W.Wants.spares c.args.wants.now) c.args.page
    c.from_residual.result c.from_residual.ensures

pub returns-in_err-cost-clause-asked : goal.returns-in_err-cost-clause-asked
returns-in_err-cost-clause-asked g c = subst (λ (it : Option Reached). IfSome it (IsAsked c.args.state.now))
    (sym c.from_residual-in_err-cost.ensures) tt

pub returns-in_err-cost-clause-spared : goal.returns-in_err-cost-clause-spared
returns-in_err-cost-clause-spared g c = none_told (g.W.Wants.spares c.args.wants.now) c.args.page
    c.from_residual-in_err-cost.result c.from_residual-in_err-cost.ensures

pub returns-clause-asked : goal.returns-clause-asked
returns-clause-asked g c = record { line = c.line_of.ensures.line; small = search rules }

pub returns-clause-spared : goal.returns-clause-spared
returns-clause-spared g c = told_at (g.W.Wants.spares c.args.wants.now) _ _ _ c.args.page _ c.line_of.ensures.marks
    (search rules) c.in_ok-marked.ensures
