use Rattle.std.proofs.Common.{◌≤◌, sym, subst, arith, length}
use Rattle.pg_greedy.specs.FirstFit.{Takes}
use Rattle.pg_greedy.specs.Looking.{items_from, style_of}
use Rattle.pg_greedy.proofs.LookAhead.{takes}
use Rattle.pg_greedy.proofs.OnePage.{takes_within}
use Rattle.pg_greedy.proofs.Places.{items_long}
use Rattle.pg_greedy.proofs.look.Builder.take_page.Goals as goal

pub returns-clause-takes : goal.returns-clause-takes
returns-clause-takes c =
    let style = style_of c.args.self.now in
    let items = items_from c.args.self.now c.args.from in
    subst (Takes style items) (sym c.look_ahead.ensures) (takes style items)

pub returns-clause-within : goal.returns-clause-within
returns-clause-within c =
    let style = style_of c.args.self.now in
    let items = items_from c.args.self.now c.args.from in
    let few : c.look_ahead.result ≤ length items =
    takes_within style items c.look_ahead.result
    (subst (Takes style items) (sym c.look_ahead.ensures) (takes style items)) in
    let long = items_long c.args.self.now c.requires.builder c.args.from in
    omega (arith, few, long, c.requires.within)

pub returns-clause-few : goal.returns-clause-few
returns-clause-few c =
    let style = style_of c.args.self.now in
    let items = items_from c.args.self.now c.args.from in
    let few : c.look_ahead.result ≤ length items =
    takes_within style items c.look_ahead.result
    (subst (Takes style items) (sym c.look_ahead.ensures) (takes style items)) in
    let long = items_long c.args.self.now c.requires.builder c.args.from in
    omega (arith, few, long, c.requires.within, c.end-end.ensures.value, c.end-end.ensures.few)
