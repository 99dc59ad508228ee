use Rattle.std.proofs.Common.{rules, sym, subst, ap, ◌∙◌, ◌≡◌, ℤ, Some, w64}
use Rattle.std.proofs.lemmas.Int.{to_z-of_z}
use Rattle.std.specs.Prelude.{Ok}
use Rattle.pg_plan.specs.declared.pages.Column.{Column}
use Rattle.pg_judge.specs.Judged.{JudgesColumn}
use Rattle.pg_judge.proofs.Columns.{fits_is, text_cost_is, text_is, whole_room_is}
use Rattle.pg_judge.proofs.judged.judge_text.Goals as goal

pub returns-in-Ok : goal.returns-in-Ok
returns-in-Ok c = λ it d k seat.
    let held = to_z-of_z w64 c.in-Ok.numbers.demerits (record { sfits = search rules }) in
    let picks : it.column.picks ≡ c.as_slice.result.now = ap (λ (x : Column). x.picks) k ∙ sym c.as_slice.ensures in
    let room = whole_room_is it c.args.seat.now c.room.result seat c.room.ensures.size c.room.ensures.give in
    subst (λ (z : ℤ). JudgesColumn it (Ok (record { demerits = z; fitness = Some c.in-Ok.numbers.fitness }))) (sym held)
    (text_cost_is it c.in-Ok.numbers (text_is c.args.column.now it k _ c.requires.text)
    (sym (fits_is c.args.galley.now c.args.style.now c.args.column.now it d k) ∙ c.requires.fits)
    (c.in-Ok.ensures.column it d (ap (λ (x : Column). x.from) k) (ap (λ (x : Column). x.to) k) picks room))
