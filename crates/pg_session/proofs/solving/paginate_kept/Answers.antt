use Rattle.std.proofs.Common.{ap, length, List}
use Rattle.pg_plan.specs.declared.pages.PageMove.{PageMove}
use Rattle.pg_plan.specs.declared.states.State.{State}
use Rattle.pg_table.specs.declared.table.Entry.{Entry}
use Rattle.pg_session.proofs.Paginated.{filled_known, filled_right, is_paginated}
use Rattle.pg_session.proofs.solving.paginate_kept.Goals as goal

pub returns-clause-told : goal.returns-clause-told
returns-clause-told g c = is_paginated c.args.pages.now.galley.now c.args.pages.now.style.now c.args.kept.now c.fill.new.kept
    c.in_ok-fill.ensures.filled c.args.pages.now.floats.now
    (record { outcome = c.in_ok-outcome.outcome; labels = length c.labels.result.now }) c.args.steps.now
    c.fill.new.steps c.requires.range
    (c.filled_table_tells_all.ensures c.fill.new.kept.table c.in_ok-fill.ensures.filled.filled)
    c.in_ok-outcome.ensures
    (ap (λ (es : List (Entry State PageMove)). length es) c.labels.ensures) c.fill.ensures.still
    c.in_ok-fill.ensures.bounded

pub returns-clause-right : goal.returns-clause-right
returns-clause-right g c = filled_right c.args.pages.now.galley.now c.args.pages.now.style.now c.args.kept.now c.fill.new.kept
    c.in_ok-fill.ensures.filled c.requires.range

pub returns-clause-known : goal.returns-clause-known
returns-clause-known g c = filled_known c.args.pages.now.galley.now c.args.pages.now.style.now c.args.kept.now c.fill.new.kept
    c.in_ok-fill.ensures.filled c.requires.known
