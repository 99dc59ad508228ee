use Rattle.std.proofs.Common.{rules, arith, sym, ◌≡◌, length}
use Rattle.pg_judge.proofs.PageCounts.{columns_few, columns_within}
use Rattle.pg_judge.proofs.pages.misfilled.Goals as goal

pub overflow_add-count : goal.overflow_add-count
overflow_add-count c =
    let few = columns_few c.args.pages.now c.loop-page.page-index in
    record { fits = omega (arith, few, c.requires, c.loop-page.invariant.count) }

pub overflow_add-count-in-loop-page : goal.overflow_add-count-in-loop-page
overflow_add-count-in-loop-page c =
    let few = columns_few c.args.pages.now c.loop-page.page-index in
    record { fits = omega (arith, few, c.requires, c.loop-page.invariant.count) }

pub overflow_cast-count : goal.overflow_cast-count
overflow_cast-count c =
    let within = columns_within c.args.pages.now c.loop-page.page-index c.page-item.result c.loop-page-test.true
    (sym c.page-item.is) in
    let len : length c.as_slice-len.result.now ≡ length c.page-item.result.columns = search rules in
    record { fits = omega (arith, within, len, c.requires) }

pub overflow_add-count-in-loop-page-2 : goal.overflow_add-count-in-loop-page-2
overflow_add-count-in-loop-page-2 c =
    let within = columns_within c.args.pages.now c.loop-page.page-index c.page-item.result c.loop-page-test.true
    (sym c.page-item.is) in
    let len : length c.as_slice-len.result.now ≡ length c.page-item.result.columns = search rules in
    record { fits = omega (arith, within, len, c.requires, c.loop-page.invariant.count) }
