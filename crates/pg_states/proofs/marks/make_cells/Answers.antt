use Rattle.std.proofs.Common.{◌≡◌, subst, true}
use Rattle.std.specs.List.{list_any}
use Rattle.pg_states.proofs.Told.{any_resized}
use Rattle.pg_states.proofs.marks.make_cells.Goals as goal

pub returns-then-is_empty : goal.returns-then-is_empty
returns-then-is_empty c = λ test h. any_resized test c.args.cells.now.items _ _ c.args.cell _
    (subst (λ xs. list_any test xs ≡ true) c.resize.ensures.items h)
