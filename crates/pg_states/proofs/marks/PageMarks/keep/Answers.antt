use Rattle.std.proofs.Common.{◌≡◌, ◌⊎◌, inl, inr, subst, true}
use Rattle.pg_states.specs.Marks.{is_marked, tells}
use Rattle.pg_states.proofs.marks.PageMarks.keep.Goals as goal

pub returns : goal.returns
unfolding is_marked
returns c = λ v d h. subst (λ m. (is_marked m v d ≡ true) ⊎ (tells m.lines v d c.args.cell ≡ true)) c.self.view_is
    (elim (c.put_cell.ensures (tells c.self.inside.lines.items v d) h) [
      | inl before ↦ c.make_cells.ensures (tells c.self.inside.lines.items v d) before
      | inr own ↦ inr own
    ])
