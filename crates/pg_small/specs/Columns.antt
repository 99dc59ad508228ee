-- What a column stands for, kept in few bytes or on the heap.
use Rattle.std.specs.Prelude.{ℕ, List, take}
use Rattle.std.specs.Ordering.{nat_cmp, ordering_then}
use Rattle.std.specs.declared.cmp.Ordering.{Ordering}
use Rattle.pg_plan.specs.Order.{counts_cmp, picks_cmp}
use Rattle.pg_plan.specs.declared.pages.PageMove.{PageMove}
use Rattle.pg_small.specs.declared.moves.Kept.{Kept}
use Rattle.pg_small.specs.declared.moves.Kept.TheVariants.{Few, Many}
use Rattle.pg_small.specs.declared.picks.PickView.{PickView}
use Rattle.pg_small.specs.declared.picks.PickView.TheVariants.{Bytes, Words}

-- the column as a step of a pagination
abbrev pub move_kept : Kept → PageMove
move_kept (Few count layout picks from to) = record {
  column = record {
    from = from;
    to = to;
    top = take layout.classes layout.top;
    bottom = take layout.classes layout.bottom;
    picks = take count picks;
  };
  run = layout.run;
  wide = take layout.classes layout.wide;
}
move_kept (Many step) = step.value

-- columns of one end and one start by run, wide counts, bottom counts, top counts, picks
abbrev pub floats_cmp : PageMove → PageMove → Ordering
floats_cmp a b =
    ordering_then (nat_cmp a.run b.run) (ordering_then (counts_cmp a.wide b.wide)
    (ordering_then (counts_cmp a.column.bottom b.column.bottom)
    (ordering_then (counts_cmp a.column.top b.column.top) (picks_cmp a.column.picks b.column.picks))))

-- the picks that are seen
abbrev pub picks_seen : PickView → List ℕ
picks_seen (Bytes picks) = picks.now
picks_seen (Words picks) = picks.now
