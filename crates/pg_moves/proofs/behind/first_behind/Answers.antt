use Rattle.std.proofs.Common.{None, rules, subst, sym, ◌≤◌, ◌^◌}
use Rattle.std.specs.Prelude.{ℤ, nat_abs}
use Rattle.std.proofs.lemmas.Int.{to_z-of_z}
use mir.Syntax.{w128}
use mir.Val.{SFits, of_z, to_z}
use Rattle.pg_small.specs.Parts.{whole}
use Rattle.pg_moves.proofs.Built.{behind_is}
use Rattle.pg_moves.proofs.behind.first_behind.Goals as goal

pub returns : goal.returns
returns c =
    let fits : SFits w128 c.page_price-page.result = search rules in
    behind_is c.args.sources.now.style.now c.args.state.now c.args.laid.now c.args.settled.now
    c.args.state.now.place None (whole c.parts_behind-next.result) c.in_ok-of_parts.field-0
    (to_z w128 (of_z w128 c.page_price-page.result)) None (search rules) (search rules)
    (subst (λ (page : ℤ). nat_abs page ≤ 2 ^ 52) (sym (to_z-of_z w128 c.page_price-page.result fits))
    c.page_price-page.ensures.size)
    (search rules)
