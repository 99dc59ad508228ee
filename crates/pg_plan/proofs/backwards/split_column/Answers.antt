use Rattle.std.proofs.Common.{refl, take, length, ◌-◌}
use Rattle.std.specs.Prelude.{reverse}
use Rattle.pg_plan.specs.Order.{columns_of}
use Rattle.pg_plan.proofs.BackwardsLemmas.{last_move}
use Rattle.pg_plan.proofs.backwards.split_column.Goals as goal

pub returns : goal.returns
returns c =
    let front = c.args.front.now in
    let columns = front.columns.now in
    last_move (record { run = front.run; wide = front.wide.now; columns = columns }) (record { run = front.run; wide = front.wide.now; columns = take (length columns - 1) columns })
    columns c.index-front-last.result (columns_of (reverse front.pages.now)) c.requires refl refl
