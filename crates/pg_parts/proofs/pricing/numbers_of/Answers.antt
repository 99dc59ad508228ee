use Rattle.std.proofs.Common.{sym, ap, ◌∙◌, ◌≡◌}
use Rattle.pg_column.specs.Judged.{text_fault}
use Rattle.pg_plan.specs.declared.pages.Column.{Column}
use Rattle.pg_judge.proofs.Columns.{fits_is, text_is, whole_room_is}
use Rattle.pg_parts.proofs.Standing.{has_numbers, none_or_some}
use Rattle.pg_parts.proofs.pricing.numbers_of.Goals as goal

pub returns-in-Ok : goal.returns-in-Ok
returns-in-Ok c = λ it d k seat kept.
    let picks : it.column.picks ≡ c.as_slice.result.now = ap (λ (x : Column). x.picks) k ∙ sym c.as_slice.ensures in
    let room = whole_room_is it c.args.seat.now c.room.result seat c.room.ensures.size c.room.ensures.give in
    has_numbers it c.in-Ok.numbers
    (text_is c.args.column.now it k _ (sym c.is_same_place.ensures ∙ c.if-is_same_place.false))
    (sym (fits_is c.args.galley.now c.args.style.now c.args.column.now it d k) ∙ c.requires.fits)
    (c.in-Ok.ensures.column it d (ap (λ (x : Column). x.from) k) (ap (λ (x : Column). x.to) k) picks room)

pub returns-in-Err : goal.returns-in-Err
returns-in-Err c = λ it d k seat kept.
    let picks : it.column.picks ≡ c.as_slice.result.now = ap (λ (x : Column). x.picks) k ∙ sym c.as_slice.ensures in
    let room = whole_room_is it c.args.seat.now c.room.result seat c.room.ensures.size c.room.ensures.give in
    absurd (none_or_some (text_fault it) c.in-Err.field-0 kept
    (c.in-Err.ensures.column it d (ap (λ (x : Column). x.from) k) (ap (λ (x : Column). x.to) k) picks room))
