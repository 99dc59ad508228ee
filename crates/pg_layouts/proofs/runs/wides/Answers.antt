use Rattle.pg_layouts.proofs.Answered.{none_wide, some_wide}
use Rattle.pg_layouts.proofs.runs.wides.Goals as goal

pub no_wides-requires : goal.no_wides-requires
no_wides-requires c = c.args.search.now.few

pub returns-then-state-eq1 : goal.returns-then-state-eq1
returns-then-state-eq1 c = some_wide c.area_lists.result c.args.search.now.style.now c.args.state.now
    c.args.search.now.ceiling.now c.wide_count.result c.as_slice.result.now c.if-state-eq1.true c.wide_count.ensures
    c.as_slice.ensures c.area_lists.ensures

pub returns-else-state-eq1 : goal.returns-else-state-eq1
returns-else-state-eq1 c = none_wide c.no_wides.result c.args.search.now.style.now c.args.state.now
    c.args.search.now.ceiling.now c.args.search.now.slots c.args.search.now.count c.if-state-eq1.false
    c.no_wides.ensures
