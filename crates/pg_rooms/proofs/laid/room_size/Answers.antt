use Rattle.std.proofs.Common.{rules, ◌∙◌, of_z, to_z, w64, subst, sym, ◌<◌, ◌^◌, ℤ}
use Rattle.std.proofs.lemmas.Int.{to_z-of_z}
use Rattle.pg_sources.specs.Document.{doc_of}
use Rattle.pg_rooms.proofs.LaidLemmas.{room_is}
use Rattle.std.specs.Prelude.{nat_abs}
use Rattle.pg_rooms.proofs.laid.room_size.Goals as goal

pub returns-clause-value : goal.returns-clause-value
returns-clause-value c = λ u by. to_z-of_z w64 c.room_left.result (record { sfits = search rules })
    ∙ (c.room_left.ensures.value ∙ room_is (doc_of c.args.sources.now) u c.args.layout.now c.args.wide c.args.before.now
    c.args.below.now (to_z w64 (of_z w64 c.full_height.result)) (to_z w64 (of_z w64 c.height_or.result))
    (to_z w64 (of_z w64 c.top_area.result)) (to_z w64 (of_z w64 c.bottom_area.result)) by
    (to_z-of_z w64 c.full_height.result (record { sfits = search rules }) ∙ c.full_height.ensures.value)
    (to_z-of_z w64 c.height_or.result (record { sfits = search rules }) ∙ c.height_or.ensures.value)
    (to_z-of_z w64 c.top_area.result (record { sfits = search rules }) ∙ c.top_area.ensures.value)
    (to_z-of_z w64 c.bottom_area.result (record { sfits = search rules }) ∙ c.bottom_area.ensures.value))

pub height_or-requires : goal.height_or-requires
height_or-requires c = c.requires.wide

pub top_area-requires : goal.top_area-requires
top_area-requires c = c.requires.top

pub bottom_area-requires : goal.bottom_area-requires
bottom_area-requires c = c.requires.bottom

pub returns-clause-size : goal.returns-clause-size
returns-clause-size c = subst (λ (z : ℤ). nat_abs z < 2 ^ 36)
    (sym (to_z-of_z w64 c.room_left.result (record { sfits = search rules }))) c.room_left.ensures.size
