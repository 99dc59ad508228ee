use Rattle.pg_greedy.proofs.FitPages.{page_is}
use Rattle.pg_greedy.proofs.builder.fit_page.Goals as goal

pub returns : goal.returns
returns c =
    page_is c.args.style.now c.slots_of-slots.result c.slots_of-slots.ensures.value c.args.from c.args.to
    c.place_at.result c.place_at-2.result c.zeros.result c.zeros-2.result c.zeros-3.result c.new.result
    c.new-columns.result c.push.new.self c.place_at.ensures c.place_at-2.ensures c.zeros.ensures c.zeros-2.ensures
    c.zeros-3.ensures c.new.ensures c.new-columns.ensures c.in_ok-push.ensures.ok
