use Rattle.std.proofs.Common.{rules, ◌∙◌, w64, subst, sym, ◌<◌, ◌^◌, ℤ, arith}
use Rattle.std.proofs.lemmas.Int.{to_z-of_z}
use Rattle.pg_sources.specs.Document.{doc_of}
use Rattle.pg_rooms.proofs.LaidLemmas.{whole_is}
use Rattle.std.specs.Prelude.{nat_abs}
use Rattle.pg_rooms.proofs.laid.room.Goals as goal

pub returns-clause-value : goal.returns-clause-value
returns-clause-value c = λ u by. whole_is (doc_of c.args.sources.now) u c.args.layout.now _ c.areas_give.result
    (to_z-of_z w64 c.room_size.result (record { sfits = search rules }) ∙ c.room_size.ensures.value u by)
    (c.areas_give.ensures.value u c.args.wide by)

pub room_size-requires-clause-wide : goal.room_size-requires-clause-wide
room_size-requires-clause-wide c = c.requires.wide

pub room_size-requires-clause-top : goal.room_size-requires-clause-top
room_size-requires-clause-top c = c.requires.top

pub room_size-requires-clause-bottom : goal.room_size-requires-clause-bottom
room_size-requires-clause-bottom c = c.requires.bottom

pub areas_give-requires-clause-top : goal.areas_give-requires-clause-top
areas_give-requires-clause-top c = c.requires.top

pub areas_give-requires-clause-bottom : goal.areas_give-requires-clause-bottom
areas_give-requires-clause-bottom c = c.requires.bottom

pub returns-clause-size : goal.returns-clause-size
returns-clause-size c = record {
  size = subst (λ (z : ℤ). nat_abs z < 2 ^ 40)
      (sym (to_z-of_z w64 c.room_size.result (record { sfits = search rules })))
      (let small = c.room_size.ensures.size in omega (arith, small));
  stretch = c.areas_give.ensures.size.0;
  shrink = c.areas_give.ensures.size.1;
}

pub returns-clause-low : goal.returns-clause-low
returns-clause-low c = subst (λ (z : ℤ). nat_abs z < 2 ^ 36)
    (sym (to_z-of_z w64 c.room_size.result (record { sfits = search rules }))) c.room_size.ensures.size
