use Rattle.std.proofs.Common.{◌<◌, ◌^◌, rules, sym, ap, subst, ◌∙◌, arith, List, ℕ, ℤ, w64}
use Rattle.std.specs.Prelude.{nat_abs, true}
use Rattle.std.proofs.lemmas.Int.{to_z-of_z}
use Rattle.pg_rules.specs.Floats.{floats}
use Rattle.pg_rules.specs.Legal.{document}
use Rattle.pg_rules.specs.Room.{checked_height}
use Rattle.pg_pages.specs.Seated.{seated}
use Rattle.pg_pages.proofs.Rooms.{bottom_high, bottom_is, room_from, top_high, top_is, wide_high}
use Rattle.pg_pages.proofs.seats.size_of_room.Goals as goal

pub room_left-requires-clause-wide : goal.room_left-requires-clause-wide
room_left-requires-clause-wide c =
    let is = to_z-of_z w64 c.wide_height.result (record { sfits = search rules }) ∙ c.wide_height.ensures in
    subst (λ (z : ℤ). nat_abs z < 2 ^ 33) (sym is) (wide_high c.args.seat.now.wide c.requires.may.wide)

pub room_left-requires-clause-top : goal.room_left-requires-clause-top
room_left-requires-clause-top c =
    let it = seated (document c.args.galley.now c.args.style.now) c.args.seat.now c.args.column.now in
    let is = to_z-of_z w64 c.top_height-top.result (record { sfits = search rules })
    ∙ c.top_height-top.ensures c.args.galley.now.blocks c.args.style.now c.requires.floats in
    let up = top_high it c.requires.floats.shape c.stays_in_range.ensures c.requires.may in
    let less : nat_abs (checked_height (floats c.args.galley.now.blocks c.args.style.now) true c.args.style.now.top
    c.args.seat.now.before c.args.column.now.top) < 2 ^ 33 = omega (arith, up.1) in
    subst (λ (z : ℤ). nat_abs z < 2 ^ 33) (sym is) less

pub room_left-requires-clause-bottom : goal.room_left-requires-clause-bottom
room_left-requires-clause-bottom c =
    let it = seated (document c.args.galley.now c.args.style.now) c.args.seat.now c.args.column.now in
    let lists = floats c.args.galley.now.blocks c.args.style.now in
    let is = to_z-of_z w64 c.bottom_height-bottom.result (record { sfits = search rules })
    ∙ c.bottom_height-bottom.ensures c.args.galley.now.blocks c.args.style.now c.requires.floats
    ∙ ap (λ (below : List ℕ). checked_height lists true c.args.style.now.bottom below c.args.column.now.bottom)
    c.requires.below in
    let up = bottom_high it c.requires.floats.shape c.stays_in_range.ensures c.requires.may in
    subst (λ (z : ℤ). nat_abs z < 2 ^ 33) (sym is) (omega (arith, up.1))

pub returns-clause-value : goal.returns-clause-value
returns-clause-value c =
    let it = seated (document c.args.galley.now c.args.style.now) c.args.seat.now c.args.column.now in
    let lists = floats c.args.galley.now.blocks c.args.style.now in
    let full = to_z-of_z w64 c.full_height.result (record { sfits = search rules }) ∙ c.full_height.ensures.value in
    let wide = to_z-of_z w64 c.wide_height.result (record { sfits = search rules }) ∙ c.wide_height.ensures in
    let top = to_z-of_z w64 c.top_height-top.result (record { sfits = search rules })
    ∙ c.top_height-top.ensures c.args.galley.now.blocks c.args.style.now c.requires.floats
    ∙ top_is it c.requires.floats.shape c.stays_in_range.ensures c.requires.may in
    let bottom = to_z-of_z w64 c.bottom_height-bottom.result (record { sfits = search rules })
    ∙ c.bottom_height-bottom.ensures c.args.galley.now.blocks c.args.style.now c.requires.floats
    ∙ ap (λ (below : List ℕ). checked_height lists true c.args.style.now.bottom below c.args.column.now.bottom)
    c.requires.below
    ∙ bottom_is it c.requires.floats.shape c.stays_in_range.ensures c.requires.may in
    to_z-of_z w64 c.room_left.result (record { sfits = search rules })
    ∙ room_from it _ _ _ _ c.room_left.result full wide top bottom c.room_left.ensures.value
