use Rattle.std.proofs.Common.{◌∙◌, ◌<◌, ◌^◌, ap, subst, sym, arith, pos, w32, ℤ}
use Rattle.std.proofs.lemmas.Int.{to_z_pos}
use Rattle.pg_style.specs.Ranges.{IsStyle}
use Rattle.pg_style.specs.Values.{StyleValue}
use Rattle.pg_style.specs.Views.{style_of}
use Rattle.pg_changes.proofs.Ranges.{in_text}
use Rattle.pg_changes.proofs.change.with_least_text.Goals as goal

pub invariant_of-made : goal.invariant_of-made
invariant_of-made c =
    let small : c.args.height < 2 ^ 31 = omega (arith, c.requires) in
    subst (λ (z : ℤ). IsStyle (record (style_of c.made.inside) { min_text = z }))
    (sym (to_z_pos w32 c.args.height small))
    (in_text (style_of c.made.inside) c.made.invariant c.args.height c.requires)

pub returns : goal.returns
returns c =
    let small : c.args.height < 2 ^ 31 = omega (arith, c.requires) in
    ap (λ (z : ℤ). record (style_of c.made.inside) { min_text = z }) (to_z_pos w32 c.args.height small)
    ∙ ap (λ (s : StyleValue). record s { min_text = pos c.args.height }) c.made.view_is
