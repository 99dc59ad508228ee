use Rattle.std.proofs.Common.{◌≡◌, ◌∙◌, ◌+◌, ◌-◌, ap, refl, arith, length}
use Rattle.std.proofs.lemmas.Result.{on_ok_weaker}
use Rattle.std.specs.Vec.{vec_len}
use Rattle.pg_hlist.specs.Items.{extended}
use Rattle.pg_hlist.proofs.Growing.{extended_at}
use Rattle.pg_hlist.proofs.para.Para.extend_last.Goals as goal

pub returns-clause-ok : goal.returns-clause-ok
returns-clause-ok c =
    let len = c.self.inside.items.ok.0 in
    let some = c.in-Some.ensures.variant.0 refl in
    let size : (vec_len c.self.inside.items - 1) + 1 ≡ length c.self.inside.items.items = omega (arith, len, some) in
    on_ok_weaker c.add_line.result (λ longer.
    extended_at c.args.line.now c.self.inside.items.items (vec_len c.self.inside.items - 1) c.in-Some.item.now
    c.add_line.new.self size c.in-Some.ensures.value longer
    ∙ ap (extended c.args.line.now) c.self.view_is) c.add_line.ensures.ok
