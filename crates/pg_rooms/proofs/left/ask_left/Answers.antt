use Rattle.std.proofs.Common.{◌∙◌, sym, refl, subst, Option}
use Rattle.std.proofs.lemmas.Result.{on_ok_weaker}
use Rattle.pg_rooms.proofs.Kept.{left_page}
use Rattle.std.specs.Prelude.{IfSome}
use Rattle.pg_rooms.proofs.Asked.{left_asked, left_still, none_asked, not_deep, too_low}
use Rattle.pg_column.specs.Numbers.{IsRoom}
use Rattle.pg_column.specs.declared.cost.TextRoom.{TextRoom}
use Rattle.pg_rooms.specs.PlaceEnds.{room_behind}
use Rattle.pg_rooms.proofs.left.ask_left.Goals as goal

pub returns-clause-right : goal.returns-clause-right
returns-clause-right c = on_ok_weaker c.add_room.result (λ right cs page calls are. record {
  walk = are.walk;
  rooms = right cs are.walk.near (left_page c.args.sources.now.style.now c.args.room.now c.in-Some.left c.args.behind.now
      c.args.behind.now.up (sym c.room_behind.ensures.value ∙ c.in-Some.is) page) calls are.rooms;
}) c.add_room.ensures.right

pub returns-then-not-has_text-clause-has : goal.returns-then-not-has_text-clause-has
returns-then-not-has_text-clause-has c = λ t. too_low _ _ c.has_text.ensures c.if-not-has_text.true t

pub returns-then-not-has_text-clause-keeps : goal.returns-then-not-has_text-clause-keeps
returns-then-not-has_text-clause-keeps c = λ other h. h

pub returns-then-not-has_text-clause-right : goal.returns-then-not-has_text-clause-right
returns-then-not-has_text-clause-right c = λ cs page calls are. are

pub returns-then-not-has_text-clause-same : goal.returns-then-not-has_text-clause-same
returns-then-not-has_text-clause-same c = record { walk = refl; by = refl; bound = refl }

pub returns-then-not-has_text-clause-calls : goal.returns-then-not-has_text-clause-calls
returns-then-not-has_text-clause-calls c = λ calls. calls

pub room_behind-requires : goal.room_behind-requires
room_behind-requires c = c.requires

pub returns-in_default-clause-has : goal.returns-in_default-clause-has
returns-in_default-clause-has c = λ t.
    none_asked _ c.args.behind.now.ends.rooms.items (sym c.room_behind.ensures.value ∙ c.in_default.is)

pub returns-in_default-clause-keeps : goal.returns-in_default-clause-keeps
returns-in_default-clause-keeps c = λ other h. h

pub returns-in_default-clause-right : goal.returns-in_default-clause-right
returns-in_default-clause-right c = λ cs page calls are. are

pub returns-in_default-clause-same : goal.returns-in_default-clause-same
returns-in_default-clause-same c = record { walk = refl; by = refl; bound = refl }

pub returns-in_default-clause-calls : goal.returns-in_default-clause-calls
returns-in_default-clause-calls c = λ calls. calls

pub add_room-requires : goal.add_room-requires
add_room-requires c = subst (λ (o : Option TextRoom). IfSome o IsRoom) c.in-Some.is
    (c.room_behind.ensures.small (not_deep c.args.sources.now.style.now c.stays_in_range.ensures c.args.room.now
    (sym c.has_text.ensures ∙ c.if-not-has_text.false)))

pub returns-clause-has : goal.returns-clause-has
returns-clause-has c = on_ok_weaker c.add_room.result (λ h t. left_asked _ c.add_room.new.rooms.items
    c.in-Some.left (sym c.room_behind.ensures.value ∙ c.in-Some.is) h) c.add_room.ensures.has

pub returns-clause-keeps : goal.returns-clause-keeps
returns-clause-keeps c = on_ok_weaker c.add_room.result (λ keeps other. left_still
    (room_behind c.args.behind.now other) c.args.behind.now.ends.rooms.items c.add_room.new.rooms.items
    keeps) c.add_room.ensures.keeps

pub returns-clause-same : goal.returns-clause-same
returns-clause-same c = on_ok_weaker c.add_room.result
    (λ h. record { walk = refl; by = refl; bound = refl }) c.add_room.ensures.has

pub returns-clause-calls : goal.returns-clause-calls
returns-clause-calls c = c.add_room.ensures.calls
