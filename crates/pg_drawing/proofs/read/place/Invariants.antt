use Rattle.std.proofs.Common.{◌≡◌, ◌≤◌, ◌+◌, ◌*◌, ◌^◌, ◌++◌, ◌∷◌, [], length, pos, nat_abs}
use Rattle.std.specs.Prelude.{◌+ℤ◌}
use Rattle.std.specs.Option.{option_map_or}
use Rattle.pg_list.specs.Whole.{whole_sum_by}
use Rattle.pg_drawing.specs.Drawn.{item_extent, items_of, marks_from}
use Rattle.pg_drawing.specs.Pieces.{begins, cut, texts, told}
use Rattle.pg_drawing.specs.declared.pieces.Kind.TheVariants as at
use Rattle.pg_drawing.proofs.read.place.Given as goal

abbrev pub invariant-items : goal.invariant-items
invariant-items l = record {
  marks : l.placing.marks ++ marks_from l.placing.top (option_map_or (λ it. told it.0.now it.1.now
      ∷ cut (begins at.Item) (texts it.2.now)) l.next []) ≡ marks_from (pos 0) (items_of (texts l.lines));
  top : l.placing.top +ℤ whole_sum_by item_extent (option_map_or (λ it. told it.0.now it.1.now
      ∷ cut (begins at.Item) (texts it.2.now)) l.next []) ≡ whole_sum_by item_extent (items_of (texts l.lines));
  room : nat_abs l.placing.top + 2 ^ 60 * option_map_or (λ it. 1 + length it.2.now) l.next 0 ≤ 2 ^ 126;
}

abbrev pub decreases-items : goal.decreases-items
decreases-items l = option_map_or (λ it. 1 + length it.2.now) l.next 0
