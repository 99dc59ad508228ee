use Rattle.std.proofs.Common.{refl, arith, pos}
use Rattle.pg_lemmas.proofs.Lists.{all_drop, all_take, no_items}
use Rattle.pg_rules.specs.Legal.{document}
use Rattle.pg_style.specs.Plain.{no_give}
use Rattle.pg_walk.specs.Rooms.{IsAsked}
use Rattle.pg_walk.proofs.Several.{all_rooms, next_room}
use Rattle.pg_walk.proofs.rooms.ends_near.Goals as goal

pub rooms-preserved : goal.rooms-preserved
rooms-preserved c = record {
  asked = all_take IsAsked _ _ (all_drop IsAsked 1 c.rooms.left.now c.rooms.invariant.asked);
  lists = λ from top most nears upto inside.
      next_room (document c.args.galley.now c.args.style.now) from top most (record { size = pos 0; give = no_give })
      c.args.rooms.now c.rooms.left.now _ refl c.in-len1-up.len_at_least c.rooms.lists c.push.new.self _
      c.in_ok-push.ensures.ok
      (λ here high. c.in_ok-ends_in.ensures.ends from top most nears.candidates nears.near here high nears.found)
      (c.rooms.invariant.lists from top most nears upto inside);
}

pub returns : goal.returns
returns c = λ from top most nears upto inside.
    all_rooms (document c.args.galley.now c.args.style.now) from c.args.rooms.now c.rooms.left.now c.rooms.lists
    (no_items c.rooms.left.now (omega (arith, c.in_default.len_below)))
    (c.rooms.invariant.lists from top most nears upto inside).more
