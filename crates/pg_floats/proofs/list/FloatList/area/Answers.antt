use Rattle.std.proofs.Common.{◌≡◌, ◌∙◌, ◌<◌, ◌^◌, ap, pos, Some, to_z, w64, arith}
use Rattle.std.proofs.lemmas.Int.{to_z_pos}
use Rattle.pg_floats.proofs.AreaSums.{area_none, area_some}
use Rattle.pg_floats.proofs.list.FloatList.area.Goals as goal

pub returns-in-None : goal.returns-in-None
returns-in-None c = λ blocks style are.
    area_none blocks style c.args.self.now c.args.rule.now c.args.placed.now c.args.counts.now are c.in-None.ensures

pub returns-in-Some : goal.returns-in-Some
returns-in-Some c = λ blocks style are.
    let small : c.area_size.result < 2 ^ 63 = omega (arith, c.area_size.ensures.size) in
    let same : to_z w64 c.area_size.result ≡ pos c.area_size.result = to_z_pos w64 c.area_size.result small in
    ap Some (same ∙ ap (λ n. pos n) c.area_size.ensures.value)
    ∙ area_some blocks style c.args.self.now c.args.rule.now c.args.placed.now c.args.counts.now c.in-Some.dealt are
    c.area_size.ensures.range c.in-Some.ensures
