use Rattle.std.proofs.Common.{◌≡◌, ◌∙◌, ap, refl, arith, rules, w32, w64, to_z, of_z}
use Rattle.std.proofs.lemmas.Int.{ints, to_z-of_z}
use Rattle.pg_column.specs.Numbers.{goal_by}
use Rattle.pg_style.specs.Plain.{plus_give}
use Rattle.pg_candidates.proofs.Worst.{same_cost}
use Rattle.pg_candidates.proofs.one_room.cost_in.Goals as goal

pub returns : goal.returns
returns c =
    let style = c.args.style.now in
    let room = c.args.room.now in
    let needs = c.args.needs.now in
    let totals = c.args.passed.now.sums.totals in
    let own = to_z-of_z w64 c.minus.result (record { sfits = search rules }) in
    let size = to_z-of_z w64 room.size (record { sfits = omega (arith, c.requires.room.size) }) in
    let notes = to_z-of_z w64 needs.notes (record { sfits = omega (arith, c.requires.needs.small) }) in
    let left : to_z w64 (of_z w64 c.minus.result) ≡ goal_by style room c.args.passed.now.notes.sums =
    omega (arith, ints, own, size, notes, c.minus.ensures.value, c.requires.needs.notes) in
    c.cost_for.ensures
    ∙ same_cost style _ _ left _ _ (c.plus.ensures.value ∙ ap (plus_give room.give) c.requires.needs.give) totals totals refl
    c.args.kind.is_spent c.args.kind.is_spent refl _ _ (to_z-of_z w32 c.args.kind.penalty (record { sfits = search rules }))
