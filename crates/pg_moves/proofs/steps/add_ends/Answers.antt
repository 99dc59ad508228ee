use Rattle.pg_rooms.proofs.Grouped.{no_end, split_read}
use Rattle.pg_moves.specs.Columns.{IsBehindIt, doc_at}
use Rattle.pg_moves.proofs.AllSteps.{at_err}
use Rattle.pg_moves.proofs.Built.{still_asked}
use Rattle.pg_moves.proofs.Late.{left_fewer, none_left, one_more, skipped}
use Rattle.pg_moves.proofs.Stepped.{all_gone, not_gone}
use Rattle.pg_moves.proofs.steps.add_ends.Goals as goal
use Rattle.pg_moves.proofs.steps.add_ends.Goals.{After-ask}

-- what is remembered is asked for, and it stays behind the column
asked : (g : _) (c : After-ask g) → IsBehindIt c.args.column.now c.args.settled.now c.ask.new.self
asked g c =
    let column = c.args.column.now in
    still_asked column.sources.now.style.now column.state.now column.laid.now c.args.settled.now
    c.in_ok-behind.behind c.ask.new.self _ c.ask.ensures.same c.in_ok-behind.ensures

pub ask-requires : goal.ask-requires
ask-requires g c = c.in_ok-behind.ensures.small

pub skip_outdone-rest-requires : goal.skip_outdone-rest-requires
skip_outdone-rest-requires g c = c.ask.ensures.spared.asked

pub skip_outdone-rest-requires-in-len1-up : goal.skip_outdone-rest-requires-in-len1-up
skip_outdone-rest-requires-in-len1-up g c = c.in_ok-add_end.ensures.spared.asked

pub ends-init : goal.ends-init
ends-init g c = let column = c.args.column.now in record {
  behind = asked g (goal.at.ends-init g c).After-ask;
  spared = c.ask.ensures.spared;
  going = λ all. skipped (doc_at column) column.state.now column.laid.now c.requires.laid
      (g.W.Wants.spares c.args.wants.now) column.near.now.picks c.args.settled.now c.ask.new.self
      (asked g (goal.at.ends-init g c).After-ask) c.ask.ensures.spared c.args.ends.now c.args.ends.now
      c.skip_outdone-rest.result.now c.args.steps.now c.args.steps.now c.skip_outdone-rest.ensures (
        all,
        not_gone (doc_at column) column.state.now (g.W.Wants.spares c.args.wants.now)
            column.near.now.picks column.laid.now.layout c.args.ends.now c.args.steps.now,
      );
}

pub ends-preserved : goal.ends-preserved
ends-preserved g c = let column = c.args.column.now in record {
  behind = c.in_ok-add_end.ensures.behind;
  spared = c.in_ok-add_end.ensures.spared;
  going = λ all. skipped (doc_at column) column.state.now column.laid.now c.requires.laid
      (g.W.Wants.spares c.args.wants.now) column.near.now.picks c.args.settled.now c.add_end.new.behind
      c.in_ok-add_end.ensures.behind c.in_ok-add_end.ensures.spared c.args.ends.now _
      c.skip_outdone-rest-in-len1-up.result.now c.args.steps.now c.add_end.new.steps
      c.skip_outdone-rest-in-len1-up.ensures
      (one_more (doc_at column) column.state.now column.laid.now c.requires.laid
      (g.W.Wants.spares c.args.wants.now) column.near.now.picks c.args.settled.now c.args.ends.now
      c.ends.rest.now _ _ c.args.steps.now c.ends.steps c.add_end.new.steps
      (split_read c.ends.rest.now no_end c.in-len1-up.len_at_least) c.in_ok-add_end.ensures.added
      (c.ends.invariant.going all));
}

pub returns : goal.returns
returns g c =
    let column = c.args.column.now in
    λ all. all_gone (doc_at column) column.state.now (g.W.Wants.spares c.args.wants.now)
    column.near.now.picks column.laid.now.layout c.args.ends.now c.ends.rest.now c.args.steps.now c.ends.steps
    (none_left c.ends.rest.now c.in_default.len_below) (c.ends.invariant.going all).1

pub first_behind-requires-clause-own : goal.first_behind-requires-clause-own
first_behind-requires-clause-own g c = c.requires.own

pub first_behind-requires-clause-price : goal.first_behind-requires-clause-price
first_behind-requires-clause-price g c = c.requires.price

pub add_end-requires-clause-laid : goal.add_end-requires-clause-laid
add_end-requires-clause-laid g c = c.requires.laid

pub add_end-requires-clause-behind : goal.add_end-requires-clause-behind
add_end-requires-clause-behind g c = c.ends.invariant.behind

pub add_end-requires-clause-spared : goal.add_end-requires-clause-spared
add_end-requires-clause-spared g c = c.ends.invariant.spared

pub returns-in_err-behind : goal.returns-in_err-behind
returns-in_err-behind g c = at_err _ c.from_residual.result c.from_residual.ensures.0

pub returns-in_err-add_end : goal.returns-in_err-add_end
returns-in_err-add_end g c = at_err _ c.from_residual-in_err-add_end.result c.from_residual-in_err-add_end.ensures.0

pub slice_bounds-after-count : goal.slice_bounds-after-count
slice_bounds-after-count g c = c.in-len1-up.len_at_least

pub ends-smaller : goal.ends-smaller
ends-smaller g c = let column = c.args.column.now in
    left_fewer column.sources.now.style.now column.state.now c.add_end.new.behind c.ends.rest.now _
    c.skip_outdone-rest-in-len1-up.result.now _ (split_read c.ends.rest.now no_end c.in-len1-up.len_at_least)
    c.skip_outdone-rest-in-len1-up.ensures
