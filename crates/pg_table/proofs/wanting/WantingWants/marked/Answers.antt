use Rattle.std.proofs.Common.{◌≡◌, rules, subst, true}
use Rattle.std.specs.Prelude.{ℤ, ◌+ℤ◌}
use mir.Syntax.{w128}
use mir.Val.{SFits}
use Rattle.std.proofs.lemmas.Int.{to_z-of_z}
use Rattle.pg_table.proofs.Remembered.{outdone_spared}
use Rattle.pg_table.proofs.wanting.WantingWants.marked.Goals as goal

pub returns : goal.returns
returns g c =
    let fits : SFits w128 c.args.self.now.cost = search rules in
    λ v d h. outdone_spared _ _ _ _ _
    (subst (λ (cost : ℤ). g.S.Marks.Marking.outdone c.args.self.now.marks.now v (cost +ℤ d) ≡ true)
    (to_z-of_z w128 c.args.self.now.cost fits) h)
