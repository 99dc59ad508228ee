use Rattle.pg_greedy.specs.Looking.{items_from, style_of}
use Rattle.pg_greedy.proofs.Seen.{cost_told, look_ends, look_goes_on}
use Rattle.pg_greedy.proofs.look.Builder.look_at.Goals as goal

pub returns-then-judged : goal.returns-then-judged
returns-then-judged c =
    let style = style_of c.args.self.now in
    let items = items_from c.args.self.now c.args.from in
    let count = c.args.read.now.count in
    look_ends style items count c.args.best c.in-Some.judged c.better-found.result.count c.in-Some.ensures
    c.if-judged.true
    (c.better-found.ensures.count style items c.requires.priced
    (cost_told style items count c.in-Some.judged c.in-Some.ensures))

pub returns-else-judged : goal.returns-else-judged
returns-else-judged c =
    let style = style_of c.args.self.now in
    let items = items_from c.args.self.now c.args.from in
    let count = c.args.read.now.count in
    let cost = cost_told style items count c.in-Some.judged c.in-Some.ensures in (
      c.better-found.ensures.cost style items c.requires.priced cost,
      look_goes_on style items count c.args.best c.in-Some.judged c.better-found.result.count c.in-Some.ensures
          c.if-judged.false (c.better-found.ensures.count style items c.requires.priced cost),
    )
