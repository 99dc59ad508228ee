use Rattle.std.proofs.Common.{refl, rules}
use Rattle.pg_rooms.proofs.Grouped.{split_first}
use Rattle.pg_moves.specs.Columns.{doc_at}
use Rattle.pg_moves.proofs.Stepped.{group_next, groups_done, not_gone}
use Rattle.pg_moves.proofs.groups.add_groups.Goals as goal

pub groups-preserved : goal.groups-preserved
groups-preserved g c =
    let column = c.args.column.now in
    group_next (doc_at column) column.state.now
    (g.W.Wants.spares c.args.wants.now) column.near.now.picks column.laid.now.layout c.args.groups.now
    c.groups.left.now _ c.group-item.result c.group-item.result.before c.args.ends.now c.groups.rest.now
    c.first_ends-first.result.now c.later_ends-rest.result.now c.args.steps.now c.groups.steps c.add_group.new.steps
    (split_first c.groups.left.now c.group-item.result (search rules) c.group-item.is) refl
    c.first_ends-first.ensures c.later_ends-rest.ensures c.groups.invariant c.in_ok-add_group.ensures

pub returns : goal.returns
returns g c =
    let column = c.args.column.now in
    groups_done (doc_at column) column.state.now
    (g.W.Wants.spares c.args.wants.now) column.near.now.picks column.laid.now.layout c.args.groups.now
    c.groups.left.now c.args.ends.now c.groups.rest.now c.args.steps.now c.groups.steps c.in_default.len_below
    c.groups.invariant

pub groups-init : goal.groups-init
groups-init g c = let column = c.args.column.now in λ all. (
  all,
  not_gone (doc_at column) column.state.now (g.W.Wants.spares c.args.wants.now)
      column.near.now.picks column.laid.now.layout c.args.ends.now c.args.steps.now,
)
