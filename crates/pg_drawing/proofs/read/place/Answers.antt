use Rattle.std.proofs.Common.{◌∙◌, ◌≤◌, ◌+◌, ◌*◌, ◌^◌, ◌++◌, ap, sym, subst, nat_abs}
use Rattle.std.specs.Prelude.{◌+ℤ◌}
use Rattle.pg_list.specs.Whole.{whole_sum_by}
use Rattle.pg_drawing.specs.Drawn.{item_extent, marks_from}
use Rattle.pg_drawing.specs.Pieces.{begins, cut, texts, told}
use Rattle.pg_drawing.specs.declared.pieces.Kind.TheVariants as at
use Rattle.pg_drawing.proofs.Placed.{items_on, lines_on, marks_more, room_more, top_more}
use Rattle.pg_drawing.proofs.read.place.Goals as goal

pub items-preserved : goal.items-preserved
items-preserved c =
    let old = c.items.placing in
    let new = c.add.new.self in
    let item = told c.in-Some.head.now c.in-Some.rest.now in
    let next = c.next_piece-next-in-Some.result in
    let items = cut (begins at.Item) (texts c.in-Some.behind.now) in
    record {
      marks = marks_more old.marks new.marks old.top new.top item (items_on next) items _
          c.in_ok-add.ensures.marks c.in_ok-add.ensures.top c.next_piece-next-in-Some.ensures.piece
          (ap (λ n. old.marks ++ marks_from old.top (items_on n)) (sym c.in-Some.is) ∙ c.items.invariant.marks);
      top = top_more old.top new.top item (items_on next) items _ c.in_ok-add.ensures.top
          c.next_piece-next-in-Some.ensures.piece
          (ap (λ n. old.top +ℤ whole_sum_by item_extent (items_on n)) (sym c.in-Some.is) ∙ c.items.invariant.top);
      room = room_more next _ old.top new.top c.next_piece-next-in-Some.ensures.shorter c.in_ok-add.ensures.size
          (subst (λ n. nat_abs old.top + 2 ^ 60 * lines_on n ≤ 2 ^ 126) c.in-Some.is c.items.invariant.room);
    }
