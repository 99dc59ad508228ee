use Rattle.std.proofs.Common.{rules, ◌∙◌, w64}
use Rattle.std.proofs.lemmas.Int.{to_z-of_z}
use Rattle.pg_rules.specs.Legal.{document}
use Rattle.pg_pages.specs.Seated.{seated}
use Rattle.pg_pages.proofs.Rooms.{whole_room}
use Rattle.pg_pages.proofs.seats.room_of.Goals as goal

pub returns-clause-value : goal.returns-clause-value
returns-clause-value c =
    whole_room (seated (document c.args.galley.now c.args.style.now) c.args.seat.now c.args.column.now) _ c.give_of.result
    (to_z-of_z w64 c.size_of_room.result (record { sfits = search rules }) ∙ c.size_of_room.ensures.value)
    c.give_of.ensures.value
