use Rattle.std.proofs.Common.{sym, ◌∙◌, w64, rules}
use Rattle.std.proofs.lemmas.Int.{to_z-of_z}
use Rattle.std.proofs.lemmas.Result.{IfOk-weaker}
use Rattle.pg_rules.specs.Legal.{document}
use Rattle.pg_column.specs.Numbers.{most_room}
use Rattle.pg_walk.proofs.Several.{in_room, no_more}
use Rattle.pg_walk.proofs.rooms.ends.Goals as goal

pub returns : goal.returns
returns c =
    let doc = document c.args.galley.now c.args.style.now in
    let room = c.args.room.now in
    let near = c.in_ok-nears.ensures in
    let top = to_z-of_z w64 c.most_of.result (record { sfits = search rules }) ∙ c.most_of.ensures in
    IfOk-weaker c.ends_in.result _ _ (λ ends are. are c.args.from _ room.give.stretch near.candidates near.near
    (in_room room c.requires.room) (no_more (most_room room) _ (sym top)) near.found) c.ends_in.ensures.ends
