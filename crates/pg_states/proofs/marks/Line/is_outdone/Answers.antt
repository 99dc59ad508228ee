use Rattle.std.proofs.Common.{◌≡◌, sym, ◌∙◌, subst, true, ℤ}
use Rattle.std.specs.Prelude.{◌&&◌, int_lt}
use Rattle.std.specs.Int.{w128}
use Rattle.std.proofs.lemmas.Int.{to_z-of_z}
use Rattle.pg_list.specs.Flat.{is_same_place}
use Rattle.pg_rules.specs.NoWorse.{is_same_number}
use Rattle.pg_states.proofs.Told.{marked_at, tells_along}
use Rattle.pg_states.proofs.marks.Line.is_outdone.Goals as goal

pub returns-then-is_lower-clause-told : goal.returns-then-is_lower-clause-told
returns-then-is_lower-clause-told c = λ h.
    let cell = c.in-Some.cell.now in
    let same = is_same_place cell.place c.args.place && is_same_number cell.fitness c.args.fitness in
    let lower = subst (λ (it : ℤ). (int_lt cell.cost it && same) ≡ true)
    (to_z-of_z w128 c.args.cost (record { sfits = c.ranges.cost.sfits })) (sym c.is_lower.ensures ∙ c.if-is_lower.true) in
    marked_at c.args.self.now.marks.now c.spot_of.result cell _ c.args.cost (sym c.in-Some.ensures)
    (tells_along c.args.self.now.marks.now.lines c.args.state.now c.args.place c.args.fitness c.args.cost cell
    (c.has_no_worse.ensures.told h) lower)
