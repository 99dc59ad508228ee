use Rattle.std.proofs.Common.{◌≡◌, ◌∙◌, sym, ap, subst, arith, length, List, refl, rules, w32}
use Rattle.std.specs.Prelude.{[], ◌+◌, drop, ℤ}
use Rattle.std.proofs.lemmas.Int.{to_z-of_z}
use Rattle.pg_lemmas.proofs.Bools.{or_left, or_right}
use Rattle.pg_lines.specs.Ahead.{fall_of, stays_over}
use Rattle.pg_lines.specs.declared.ends.LineEnd.{LineEnd}
use Rattle.pg_lines.specs.declared.sums.LineSums.{LineSums}
use Rattle.pg_lines.specs.Sums.{AreSmall, sums_of}
use Rattle.pg_lines.proofs.Scan.{IsFirst, IsScanned, scan_begins, scan_ends, scan_goes, scan_stops, small_between, small_next}
use Rattle.pg_lines.proofs.ends.ends_from.Goals as goal
use Rattle.pg_lines.proofs.ends.ends_from.Goals.{then-is_forced-via-then-is_forced, then-is_forced-via-else-is_forced+then-stays_over}

pub along-init : goal.along-init
along-init c =
    let first : IsFirst c.args.rule.now c.args.items.now c.args.start c.next_box-first.result = record {
      low = c.next_box-first.ensures.low;
      high = c.next_box-first.ensures.high;
      none = c.next_box-first.ensures.none;
      some = c.next_box-first.ensures.some;
    } in
    record {
      low = omega arith;
      high = c.next_box-first.ensures.high;
      scan = subst (λ (s : LineSums). IsScanned c.args.rule.now c.args.items.now c.args.start c.next_box-first.result c.next_box-first.result s c.new-found.result)
          (sym c.none-sums.ensures)
          (subst (λ (es : List LineEnd). IsScanned c.args.rule.now c.args.items.now c.args.start c.next_box-first.result c.next_box-first.result (sums_of []) es)
          (sym c.new-found.ensures)
          (scan_begins c.args.rule.now c.args.items.now c.args.start c.next_box-first.result first));
    }

pub add-requires-clause-small : goal.add-requires-clause-small
add-requires-clause-small c = subst AreSmall (sym c.along.invariant.scan.sums_are)
    (small_between c.args.items.now c.next_box-first.result c.along.place c.requires.para)

pub push_end-requires-clause-small : goal.push_end-requires-clause-small
push_end-requires-clause-small c =
    small_next c.args.items.now c.next_box-first.result c.along.place c.index-items-place.result c.along.sums c.add.new.self
    c.requires.para c.along.invariant.low c.along-test.true c.index-items-place.is c.along.invariant.scan.sums_are
    c.add.ensures

pub stays_over-requires-clause-small : goal.stays_over-requires-clause-small
stays_over-requires-clause-small c =
    small_next c.args.items.now c.next_box-first.result c.along.place c.index-items-place.result c.along.sums c.add.new.self
    c.requires.para c.along.invariant.low c.along-test.true c.index-items-place.is c.along.invariant.scan.sums_are
    c.add.ensures

pub returns-then-is_forced : goal.returns-then-is_forced
returns-then-is_forced c =
    let first : IsFirst c.args.rule.now c.args.items.now c.args.start c.next_box-first.result = record {
      low = c.next_box-first.ensures.low;
      high = c.next_box-first.ensures.high;
      none = c.next_box-first.ensures.none;
      some = c.next_box-first.ensures.some;
    } in
    elim c.then-is_forced.branch [
      | then-is_forced-via-then-is_forced w ↦
          scan_stops c.args.rule.now c.args.items.now c.args.start c.next_box-first.result first c.along.place
          c.index-items-place.result c.along.sums c.add.new.self c.is_forced-is_forced.result _ c.along.found
          c.push_end.new.found c.along.invariant.low c.along-test.true c.index-items-place.is c.along.invariant.scan
          c.add.ensures c.is_forced-is_forced.ensures c.in_ok-push_end.ensures refl
          (or_left c.is_forced-is_forced.result _ w.if-is_forced.true)
      | then-is_forced-via-else-is_forced+then-stays_over w ↦
          scan_stops c.args.rule.now c.args.items.now c.args.start c.next_box-first.result first c.along.place
          c.index-items-place.result c.along.sums c.add.new.self c.is_forced-is_forced.result w.stays_over.result
          c.along.found c.push_end.new.found c.along.invariant.low c.along-test.true c.index-items-place.is
          c.along.invariant.scan c.add.ensures c.is_forced-is_forced.ensures c.in_ok-push_end.ensures
          (w.stays_over.ensures ∙ ap (λ (z : ℤ). stays_over z c.add.new.self
          (fall_of (drop (c.along.place + 1) c.args.items.now)))
          (to_z-of_z w32 c.args.rule.now.width (record { sfits = search rules })))
          (or_right c.is_forced-is_forced.result w.stays_over.result w.if-stays_over.true)
    ]

pub along-preserved : goal.along-preserved
along-preserved c =
    let first : IsFirst c.args.rule.now c.args.items.now c.args.start c.next_box-first.result = record {
      low = c.next_box-first.ensures.low;
      high = c.next_box-first.ensures.high;
      none = c.next_box-first.ensures.none;
      some = c.next_box-first.ensures.some;
    } in
    record {
      low = omega (arith, c.along.invariant.low);
      high = omega (arith, c.along-test.true);
      scan = scan_goes c.args.rule.now c.args.items.now c.args.start c.next_box-first.result first c.along.place
          c.index-items-place.result c.along.sums c.add.new.self c.is_forced-is_forced.result c.along.found
          c.push_end.new.found c.along.invariant.low c.along-test.true c.index-items-place.is c.along.invariant.scan
          c.add.ensures c.is_forced-is_forced.ensures c.in_ok-push_end.ensures c.if-is_forced.false;
    }

pub returns : goal.returns
returns c = scan_ends c.args.rule.now c.args.items.now c.args.start c.next_box-first.result
    (record {
      low = c.next_box-first.ensures.low;
      high = c.next_box-first.ensures.high;
      none = c.next_box-first.ensures.none;
      some = c.next_box-first.ensures.some;
    }) c.along.place c.along.sums c.along.found (omega (arith, c.along-test.false)) c.along.invariant.scan
