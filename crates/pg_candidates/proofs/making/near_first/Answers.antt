use Rattle.std.proofs.Common.{Option, IfSome, sym, subst}
use Rattle.pg_column.specs.declared.cost.TextCost.{TextCost}
use Rattle.pg_candidates.specs.Nears.{IsWorstCost}
use Rattle.pg_candidates.proofs.making.near_first.Goals as goal
use Rattle.pg_candidates.proofs.making.near_first.Goals.{then-is_some, else-is_some}

pub near_of-requires : goal.near_of-requires
near_of-requires c = record {
  small = c.requires.needs.small;
  stretch = c.requires.needs.stretch;
  shrink = c.requires.needs.shrink;
}

pub returns-clause-near : goal.returns-clause-near
returns-clause-near c = λ g kind.
    let P = λ (o : Option TextCost). IfSome o (IsWorstCost c.args.style.now c.args.most.now.stretch c.args.first.kind
    c.args.end.now.passed.now.sums.totals c.args.needs.now.give) in
    let worst : P c.if-is_some.worst = elim c.if-is_some.branch [
      | then-is_some w ↦ subst P (sym w.worst-is) tt
      | else-is_some w ↦ subst P (sym w.worst-is) w.worst_cost-worst.ensures
    ] in
    c.near_of.ensures.near g c.args.style.now c.args.most.now.stretch kind c.requires.needs worst
