use Rattle.std.proofs.Common.{◌≡◌, ◌∙◌, ap, subst, sym, rules, true}
use Rattle.std.specs.Prelude.{ℤ, ◌+ℤ◌, pos}
use mir.Syntax.{w128}
use mir.Val.{SFits}
use Rattle.std.proofs.lemmas.Int.{to_z-of_z}
use Rattle.pg_cover.proofs.Remembered.{outdone_spared}
use Rattle.pg_cover.proofs.covering.CoveringWants.marked.Goals as goal

pub returns : goal.returns
returns g c =
    let fits : SFits w128 c.args.self.now.cost = search rules in
    let is : c.in_ok-checked_add.field-0 ≡ c.args.self.now.cost +ℤ pos 1 =
    c.in_ok-checked_add.ensures.1 ∙ ap (λ (cost : ℤ). cost +ℤ pos 1) (to_z-of_z w128 c.args.self.now.cost fits) in
    let more_fits : SFits w128 c.in_ok-checked_add.field-0 =
    subst (SFits w128) (sym c.in_ok-checked_add.ensures.1) c.in_ok-checked_add.ensures.0 in
    λ v d h. outdone_spared _ _ _ _ c.args.self.now.cost d c.in_ok-checked_add.field-0 is
    (subst (λ (cost : ℤ). g.S.Marks.Marking.outdone c.args.self.now.marks.now v (cost +ℤ d) ≡ true)
    (to_z-of_z w128 c.in_ok-checked_add.field-0 more_fits) h)
