use Rattle.std.proofs.Common.{◌≡◌, sym, ap, subst, arith, length, pos, Some, None}
use Rattle.std.specs.Prelude.{◌&&◌, ◌==◌}
use Rattle.std.specs.List.{AllByRecursion}
use Rattle.pg_list.specs.declared.galley.Place.{Place}
use Rattle.pg_list.specs.Shapes.{IsBlock}
use Rattle.pg_list.proofs.Sizes.{blocks_le}
use Rattle.pg_rules.specs.Legal.{document}
use Rattle.pg_column.specs.Passed.{is_end_here, pass_item}
use Rattle.pg_hops.specs.declared.cursor.Cursor.{Cursor}
use Rattle.pg_hops.specs.Ahead.{items_ahead}
use Rattle.pg_hops.specs.View.{view}
use Rattle.pg_hops.proofs.Along.{longer}
use Rattle.pg_hops.proofs.Cursors.{few, item_in_range}
use Rattle.pg_hops.specs.Goes.{Goes}
use Rattle.pg_hops.proofs.OneStep.{goes_one, stops_one}
use Rattle.pg_hops.proofs.going.go.Goals as goal

pub pass-requires-clause-range : goal.pass-requires-clause-range
pass-requires-clause-range c =
    item_in_range c.args.galley.now.blocks
    (subst (AllByRecursion IsBlock) c.blocks-2.ensures.blocks c.as_slice-shape.ensures.shape) c.args.at c.args.item.now
    c.requires.item

pub pass-requires-clause-end : goal.pass-requires-clause-end
pass-requires-clause-end c =
    subst (λ (q : Place). c.args.is_end ≡ is_end_here c.args.galley.now.blocks (view c.args.passed.now) q)
    (sym c.place.ensures) c.requires.end

pub pass-requires-clause-few : goal.pass-requires-clause-few
pass-requires-clause-few c =
    let doc = document c.args.galley.now c.args.style.now in
    let long = longer doc (pos 0) c.args.at c.args.item.now (sym c.requires.item) c.place.result c.place.ensures
    (view c.args.passed.now) in
    (omega (arith, long, c.requires.few.0), omega (arith, long, c.requires.few.1))

pub next-requires-clause-block : goal.next-requires-clause-block
next-requires-clause-block c =
    let all = subst (AllByRecursion IsBlock) c.blocks-2.ensures.blocks c.as_slice-shape.ensures.shape in
    let long = blocks_le c.args.galley.now.blocks all in
    let count = c.blocks-2.ensures.limit in
    (few c.args.galley.now.blocks (omega (arith, long, count)) count c.args.at c.args.item.now c.requires.item).0

pub next-requires-clause-index : goal.next-requires-clause-index
next-requires-clause-index c =
    let all = subst (AllByRecursion IsBlock) c.blocks-2.ensures.blocks c.as_slice-shape.ensures.shape in
    let long = blocks_le c.args.galley.now.blocks all in
    let count = c.blocks-2.ensures.limit in
    (few c.args.galley.now.blocks (omega (arith, long, count)) count c.args.at c.args.item.now c.requires.item).1

pub returns-then-pass-clause-goes : goal.returns-then-pass-clause-goes
returns-then-pass-clause-goes c =
    let doc = document c.args.galley.now c.args.style.now in
    let old = view c.args.passed.now in
    let new = view c.pass.new.self in
    let is_front = c.args.at.is_inner && (c.args.at.index == 0) in
    let passed = subst (λ (q : Place).
    pass_item doc old (record { place = q; item = c.args.item.now; is_front = is_front }) ≡ Some new) c.place.ensures
    (c.pass.ensures.goes is_front c.if-pass.true) in
    subst (λ (q : Cursor). Goes doc c.args.at q old new) (sym c.next.ensures)
    (goes_one doc c.args.at c.args.item.now (sym c.requires.item) old new passed)

pub returns-then-pass-clause-counts : goal.returns-then-pass-clause-counts
returns-then-pass-clause-counts c =
    let doc = document c.args.galley.now c.args.style.now in
    let long = longer doc (pos 0) c.args.at c.args.item.now (sym c.requires.item) c.place.result c.place.ensures
    (view c.args.passed.now) in
    let same = ap (λ (q : Cursor). length (items_ahead c.args.galley.now.blocks q)) c.next.ensures in
    let more = c.pass.ensures.counts c.if-pass.true in (
      record { passed = omega (arith, long, same, more.0); more = omega (arith, more.0) },
      record { passed = omega (arith, long, same, more.1); more = omega (arith, more.1) },
    )

pub returns-else-pass-clause-stops : goal.returns-else-pass-clause-stops
returns-else-pass-clause-stops c =
    let doc = document c.args.galley.now c.args.style.now in
    let old = view c.args.passed.now in
    let is_front = c.args.at.is_inner && (c.args.at.index == 0) in
    let passed = subst (λ (q : Place).
    pass_item doc old (record { place = q; item = c.args.item.now; is_front = is_front }) ≡ None) c.place.ensures
    (c.pass.ensures.stops is_front c.if-pass.false).0 in
    stops_one doc c.args.at c.args.item.now (sym c.requires.item) old passed

pub returns-else-pass-clause-same : goal.returns-else-pass-clause-same
returns-else-pass-clause-same c =
    (c.pass.ensures.stops (c.args.at.is_inner && (c.args.at.index == 0)) c.if-pass.false).1
