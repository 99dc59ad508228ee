use Rattle.std.proofs.Common.{sym, ◌∙◌, rules}
use mir.Syntax.{w128}
use mir.Val.{SFits}
use Rattle.pg_table.proofs.Costs.{cost_below}
use Rattle.pg_table.proofs.pending.is_outdone.Goals as goal

pub returns-then-held-cost : goal.returns-then-held-cost
returns-then-held-cost g c = λ h.
    let fa : SFits w128 c.in-Some.held.now.cost = search rules in
    let fb : SFits w128 c.args.cost = record { sfits = c.ranges.cost.sfits } in
    record {
      entry = c.in-Some.held.now;
      among = c.in-Some.ensures;
      no_worse = sym c.no_worse.ensures ∙ h;
      cheaper = cost_below _ _ fa fb c.if-held-cost.true;
    }
