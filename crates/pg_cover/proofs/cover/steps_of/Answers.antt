use Rattle.std.proofs.Common.{rules, subst}
use Rattle.std.specs.Prelude.{ℤ, ◌+ℤ◌}
use mir.Syntax.{w128}
use mir.Val.{SFits, of_z, to_z}
use Rattle.std.proofs.lemmas.Int.{to_z-of_z}
use Rattle.pg_plan.specs.declared.states.Label.{Label}
use Rattle.pg_table.specs.Space.{AreWanted}
use Rattle.pg_cover.specs.Covered.{is_spared}
use Rattle.pg_cover.proofs.Remembered.{wanted_covered}
use Rattle.pg_cover.proofs.cover.steps_of.Goals as goal

pub returns-clause-wanted : goal.returns-clause-wanted
returns-clause-wanted g c =
    let fits : SFits w128 c.args.label.now.cost = search rules in
    wanted_covered _ _ _ _ (g.met.S.Offering.marked_alike c.args.space.now) c.requires.marks _ _ _
    (subst (λ (cost : ℤ). AreWanted (g.S.Space.meaning c.args.space.now) c.args.label.now.state
    (λ v d. is_spared (g.S.Space.meaning c.args.space.now) c.args.labels.now
    (g.S.Marks.Marking.outdone c.args.marks.now) v (cost +ℤ d))
    c.in_ok-offer.field-0.steps) (to_z-of_z w128 c.args.label.now.cost fits)
    (subst (λ (l : Label). AreWanted (g.S.Space.meaning c.args.space.now) l.state
    (λ v d. is_spared (g.S.Space.meaning c.args.space.now) c.args.labels.now
    (g.S.Marks.Marking.outdone c.args.marks.now) v (to_z w128 (of_z w128 l.cost) +ℤ d))
    c.in_ok-offer.field-0.steps) c.label.view_is c.in_ok-offer.ensures.moves))
