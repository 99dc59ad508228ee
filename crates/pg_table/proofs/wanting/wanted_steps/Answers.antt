use Rattle.std.proofs.Common.{rules, subst}
use Rattle.std.specs.Prelude.{ℤ, ◌+ℤ◌, IfOk}
use mir.Syntax.{w128}
use mir.Val.{SFits}
use Rattle.std.proofs.lemmas.Int.{to_z-of_z}
use Rattle.pg_table.specs.Space.{AreWanted}
use Rattle.pg_table.specs.Needless.{is_spared}
use Rattle.pg_table.proofs.wanting.wanted_steps.Goals as goal

pub returns-clause-moves : goal.returns-clause-moves
returns-clause-moves g c =
    let fits : SFits w128 c.args.label.now.cost = search rules in
    subst (λ (cost : ℤ). IfOk c.offer.result (λ o. AreWanted (g.S.Space.meaning c.args.space.now) c.args.label.now.state
    (λ v d. is_spared (g.S.Space.meaning c.args.space.now) c.args.below (g.S.Marks.Marking.outdone c.args.marks.now) v (cost +ℤ d))
    o.steps)) (to_z-of_z w128 c.args.label.now.cost fits) c.offer.ensures.moves
