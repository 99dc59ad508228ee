use Rattle.std.proofs.Common.{rules, ◌≡◌, true}
use Rattle.std.specs.Prelude.{is_some}
use Rattle.pg_column.specs.Ahead.{item_place}
use Rattle.pg_list.specs.Places.{item_at}
use Rattle.pg_column.proofs.Spans.{index_small}
use Rattle.pg_column.proofs.span.is_ahead.Goals as goal
use Rattle.pg_lemmas.proofs.Lists.{some_is}

pub returns-clause-small : goal.returns-clause-small
returns-clause-small c = λ e.
    let there : is_some (item_at c.args.blocks.now (item_place c.args.blocks.now c.args.at c.args.picks.now))
    ≡ true = search rules in
    let it = some_is (item_at c.args.blocks.now (item_place c.args.blocks.now c.args.at c.args.picks.now)) there in
    index_small c.args.blocks.now (item_place c.args.blocks.now c.args.at c.args.picks.now) it.0 c.requires it.1
