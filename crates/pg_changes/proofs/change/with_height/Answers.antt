use Rattle.std.proofs.Common.{◌∙◌, ◌<◌, ◌^◌, ap, subst, sym, arith, pos, w32, ℤ}
use Rattle.std.specs.List.{AllByRecursion}
use Rattle.std.proofs.lemmas.Int.{to_z_pos}
use Rattle.pg_style.specs.Ranges.{IsHeight, IsStyle}
use Rattle.pg_style.specs.Values.{StyleValue}
use Rattle.pg_style.specs.Views.{style_of}
use Rattle.pg_changes.proofs.Ranges.{in_height}
use Rattle.pg_changes.proofs.change.with_height.Goals as goal

pub invariant_of-made : goal.invariant_of-made
invariant_of-made c =
    let small : c.args.height < 2 ^ 31 = omega (arith, c.requires.few) in
    subst (λ (z : ℤ). IsStyle (record (style_of c.made.inside) { height = z })) (sym (to_z_pos w32 c.args.height small))
    (in_height (style_of c.made.inside) c.made.invariant c.args.height c.requires.some c.requires.few
    (subst (λ (s : StyleValue). AllByRecursion (IsHeight (pos c.args.height)) s.runs) (sym c.made.view_is)
    c.requires.runs))

pub returns : goal.returns
returns c =
    let small : c.args.height < 2 ^ 31 = omega (arith, c.requires.few) in
    ap (λ (z : ℤ). record (style_of c.made.inside) { height = z }) (to_z_pos w32 c.args.height small)
    ∙ ap (λ (s : StyleValue). record s { height = pos c.args.height }) c.made.view_is
