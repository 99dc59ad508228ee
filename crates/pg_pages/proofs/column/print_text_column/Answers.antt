use Rattle.std.proofs.Common.{sym, ap, subst, ◌∙◌, ◌<◌, ◌^◌, ◌+◌, arith, [], append-nil, List, ℕ, ℤ, map, length}
use Rattle.std.specs.Prelude.{nat_abs, ◌-ℤ◌}
use Rattle.std.specs.List.{AllByRecursion, range_with_len}
use Rattle.pg_rules.specs.Floats.{dealt_from, entry}
use Rattle.pg_rules.specs.Room.{before_bottom}
use Rattle.pg_list.specs.Ranges.{IsItemInRange}
use Rattle.pg_list.specs.Totals.{trimmed}
use Rattle.pg_rules.specs.ColumnRules.{text_goal}
use Rattle.pg_rules.specs.Legal.{document}
use Rattle.pg_column.specs.Numbers.{IsRoom}
use Rattle.pg_pages.specs.PageText.{float_bodies}
use Rattle.pg_pages.proofs.GapLists.{many}
use Rattle.pg_pages.proofs.Rooms.{bottom_few, top_few}
use Rattle.pg_pages.specs.Seated.{seated}
use Rattle.pg_lemmas.proofs.Numbers.{eq_yes}
use Rattle.pg_pages.proofs.Printed.{behind_long}
use Rattle.pg_pages.proofs.Grown.{grown, on_same}
use Rattle.pg_pages.proofs.Shown.{fit_as}
use Rattle.pg_pages.proofs.TextColumn.{bodies_long, column_text_is, excess_is_small, named, segment_few, segment_is, segment_range, sized, summed}
use Rattle.pg_column.specs.Between.{behind}
use Rattle.pg_pages.proofs.column.print_text_column.Goals as goal

pub added-requires : goal.added-requires
added-requires c = fit_as _ _ _ _ c.as_slice.ensures c.as_slice-2.ensures c.requires.may.tops_fit

pub room_of-room-requires-clause-floats : goal.room_of-room-requires-clause-floats
room_of-room-requires-clause-floats c = c.requires.floats

pub room_of-room-requires-clause-may : goal.room_of-room-requires-clause-may
room_of-room-requires-clause-may c = c.requires.may

pub room_of-room-requires-clause-below : goal.room_of-room-requires-clause-below
room_of-room-requires-clause-below c =
    let doc = document c.args.matter.now.galley.now c.args.matter.now.style.now in
    c.in_ok-below.ensures
    ∙ ap (λ (a : List ℕ). map (λ (slot : ℕ). entry a slot + entry c.as_slice-2.result.now slot)
    (range_with_len 0 (length c.args.matter.now.bodies.now))) c.as_slice.ensures
    ∙ ap (λ (b : List ℕ). map (λ (slot : ℕ). entry c.args.seat.now.before slot + entry b slot)
    (range_with_len 0 (length c.args.matter.now.bodies.now))) c.as_slice-2.ensures
    ∙ summed doc c.args.seat.now.before c.args.column.now.top (length c.args.matter.now.bodies.now)
    (bodies_long doc _ c.args.matter.now.bodies.now c.requires.bodies)

pub numbers_of-numbers-requires-clause-shape : goal.numbers_of-numbers-requires-clause-shape
numbers_of-numbers-requires-clause-shape c = c.requires.floats.shape

pub numbers_of-numbers-requires-clause-rules : goal.numbers_of-numbers-requires-clause-rules
numbers_of-numbers-requires-clause-rules c = c.requires.may.rules

pub numbers_of-numbers-requires-clause-text : goal.numbers_of-numbers-requires-clause-text
numbers_of-numbers-requires-clause-text c = c.requires.text

pub numbers_of-numbers-requires-clause-room : goal.numbers_of-numbers-requires-clause-room
numbers_of-numbers-requires-clause-room c = c.room_of-room.ensures.value

pub numbers_of-numbers-requires-clause-size : goal.numbers_of-numbers-requires-clause-size
numbers_of-numbers-requires-clause-size c = c.room_of-room.ensures.size

pub numbers_of-numbers-requires-clause-items : goal.numbers_of-numbers-requires-clause-items
numbers_of-numbers-requires-clause-items c = ap behind c.as_slice-text.ensures.value ∙ c.in_ok-gathered.ensures

pub text_between-requires : goal.text_between-requires
text_between-requires c =
    let it = seated (document c.args.matter.now.galley.now c.args.matter.now.style.now) c.args.seat.now
    c.args.column.now in
    let size = sized it c.requires.floats.shape c.stays_in_range.ensures c.requires.may.rules in
    eq_yes _ _ (named it c.requires.floats.shape c.stays_in_range.ensures c.requires.may.rules size.0 size.1)

pub print_read-requires-clause-few : goal.print_read-requires-clause-few
print_read-requires-clause-few c =
    let it = seated (document c.args.matter.now.galley.now c.args.matter.now.style.now) c.args.seat.now
    c.args.column.now in
    let rules = c.requires.may.rules in
    let size = sized it c.requires.floats.shape c.stays_in_range.ensures rules in
    let items = ap behind c.as_slice-5.ensures.value ∙ c.in_ok-items.ensures
    ∙ ap trimmed (ap behind c.as_slice-text.ensures.value ∙ c.in_ok-gathered.ensures)
    ∙ segment_is it c.requires.floats.shape c.stays_in_range.ensures rules size.0 size.1 in
    let long = behind_long c.as_slice-5.result.now in
    let same = ap length items in
    let few = segment_few it c.requires.floats.shape c.stays_in_range.ensures rules size.0 size.1
    c.blocks_of-blocks.ensures.count in
    omega (arith, long, same, few)

pub print_read-requires-clause-ranges : goal.print_read-requires-clause-ranges
print_read-requires-clause-ranges c =
    let it = seated (document c.args.matter.now.galley.now c.args.matter.now.style.now) c.args.seat.now
    c.args.column.now in
    let rules = c.requires.may.rules in
    let size = sized it c.requires.floats.shape c.stays_in_range.ensures rules in
    let items = ap behind c.as_slice-5.ensures.value ∙ c.in_ok-items.ensures
    ∙ ap trimmed (ap behind c.as_slice-text.ensures.value ∙ c.in_ok-gathered.ensures)
    ∙ segment_is it c.requires.floats.shape c.stays_in_range.ensures rules size.0 size.1 in
    subst (AllByRecursion IsItemInRange) (sym items)
    (segment_range it c.requires.floats.shape c.stays_in_range.ensures rules size.0 size.1)

pub print_read-requires-clause-excess : goal.print_read-requires-clause-excess
print_read-requires-clause-excess c =
    let it = seated (document c.args.matter.now.galley.now c.args.matter.now.style.now) c.args.seat.now
    c.args.column.now in
    let rules = c.requires.may.rules in
    let size = sized it c.requires.floats.shape c.stays_in_range.ensures rules in
    let are = c.numbers_of-numbers.ensures size.0 size.1 in
    let small = subst IsRoom c.room_of-room.ensures.value c.room_of-room.ensures.size in
    subst (λ (z : ℤ). nat_abs (z -ℤ c.numbers_of-numbers.result.total) < 2 ^ 52) (sym are.goal)
    (subst (λ (z : ℤ). nat_abs (text_goal it size.0 -ℤ z) < 2 ^ 52) (sym are.total)
    (excess_is_small it c.requires.floats.shape c.stays_in_range.ensures rules size.0 size.1
    c.blocks_of-blocks.ensures.count small c.requires.text))

pub print_read-requires-clause-top : goal.print_read-requires-clause-top
print_read-requires-clause-top c =
    let doc = document c.args.matter.now.galley.now c.args.matter.now.style.now in
    let it = seated doc c.args.seat.now c.args.column.now in
    let counts = c.args.column.now.top in
    let few = top_few it c.stays_in_range.ensures c.requires.may in
    let same = many doc c.args.seat.now.before counts in
    let bodies = ap (λ (xs : List (List (List ℕ))). length (dealt_from 0 xs c.as_slice-3.result.now counts))
    c.requires.bodies in
    let before = ap (λ (xs : List ℕ). length (dealt_from 0 (float_bodies doc) xs counts)) c.as_slice-3.ensures in
    omega (arith, few, same, bodies, before)

pub print_read-requires-clause-bottom : goal.print_read-requires-clause-bottom
print_read-requires-clause-bottom c =
    let doc = document c.args.matter.now.galley.now c.args.matter.now.style.now in
    let it = seated doc c.args.seat.now c.args.column.now in
    let counts = c.args.column.now.bottom in
    let few = bottom_few it c.stays_in_range.ensures c.requires.may in
    let below = c.as_slice-4.ensures ∙ c.in_ok-below.ensures
    ∙ ap (λ (a : List ℕ). map (λ (slot : ℕ). entry a slot + entry c.as_slice-2.result.now slot)
    (range_with_len 0 (length c.args.matter.now.bodies.now))) c.as_slice.ensures
    ∙ ap (λ (b : List ℕ). map (λ (slot : ℕ). entry c.args.seat.now.before slot + entry b slot)
    (range_with_len 0 (length c.args.matter.now.bodies.now))) c.as_slice-2.ensures
    ∙ summed doc c.args.seat.now.before c.args.column.now.top (length c.args.matter.now.bodies.now)
    (bodies_long doc _ c.args.matter.now.bodies.now c.requires.bodies) in
    let same = many doc (before_bottom it) counts in
    let bodies = ap (λ (xs : List (List (List ℕ))). length (dealt_from 0 xs c.as_slice-4.result.now counts))
    c.requires.bodies in
    let before = ap (λ (xs : List ℕ). length (dealt_from 0 (float_bodies doc) xs counts)) below in
    omega (arith, few, same, bodies, before)

pub returns-clause-ok : goal.returns-clause-ok
returns-clause-ok c =
    let doc = document c.args.matter.now.galley.now c.args.matter.now.style.now in
    let it = seated doc c.args.seat.now c.args.column.now in
    let rules = c.requires.may.rules in
    let size = sized it c.requires.floats.shape c.stays_in_range.ensures rules in
    let items = ap behind c.as_slice-5.ensures.value ∙ c.in_ok-items.ensures
    ∙ ap trimmed (ap behind c.as_slice-text.ensures.value ∙ c.in_ok-gathered.ensures)
    ∙ segment_is it c.requires.floats.shape c.stays_in_range.ensures rules size.0 size.1 in
    let spent = c.is_spent.ensures.column c.args.column.now.from c.args.column.now.picks size.0
    (named it c.requires.floats.shape c.stays_in_range.ensures rules size.0 size.1) size.1 in
    let below = c.as_slice-4.ensures ∙ c.in_ok-below.ensures
    ∙ ap (λ (a : List ℕ). map (λ (slot : ℕ). entry a slot + entry c.as_slice-2.result.now slot)
    (range_with_len 0 (length c.args.matter.now.bodies.now))) c.as_slice.ensures
    ∙ ap (λ (b : List ℕ). map (λ (slot : ℕ). entry c.args.seat.now.before slot + entry b slot)
    (range_with_len 0 (length c.args.matter.now.bodies.now))) c.as_slice-2.ensures
    ∙ summed doc c.args.seat.now.before c.args.column.now.top (length c.args.matter.now.bodies.now)
    (bodies_long doc _ c.args.matter.now.bodies.now c.requires.bodies) in
    on_same c.print_read.result c.args.out.now.items c.print_read.new.out.items _ _
    (column_text_is it c.requires.floats.shape c.stays_in_range.ensures rules size.0 size.1 c.numbers_of-numbers.result
    (c.numbers_of-numbers.ensures size.0 size.1) c.is_spent.result spent _ _ _ _ c.requires.bodies
    c.as_slice-3.ensures below items)
    c.print_read.ensures.ok

pub returns-clause-grows : goal.returns-clause-grows
returns-clause-grows c = c.print_read.ensures.grows

pub returns-in_err-below-clause-grows : goal.returns-in_err-below-clause-grows
returns-in_err-below-clause-grows c = grown c.args.out.now.items [] c.args.out.now.items
    (sym (append-nil c.args.out.now.items))

pub returns-in_err-gathered-clause-grows : goal.returns-in_err-gathered-clause-grows
returns-in_err-gathered-clause-grows c = grown c.args.out.now.items [] c.args.out.now.items
    (sym (append-nil c.args.out.now.items))

pub returns-in_err-items-clause-grows : goal.returns-in_err-items-clause-grows
returns-in_err-items-clause-grows c = grown c.args.out.now.items [] c.args.out.now.items
    (sym (append-nil c.args.out.now.items))
