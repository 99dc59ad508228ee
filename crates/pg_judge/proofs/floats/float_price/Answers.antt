use Rattle.std.proofs.Common.{ap, ◌∙◌, length, ℕ, List}
use Rattle.std.specs.Prelude.{reverse, slice_get}
use Rattle.pg_list.specs.declared.galley.Place.{Place}
use Rattle.pg_rules.specs.History.{is_called}
use Rattle.pg_judge.specs.Bases.{doc_of}
use Rattle.pg_judge.specs.Waits.{waits_in}
use Rattle.pg_judge.proofs.floats.float_price.Goals as goal

pub returns : goal.returns
returns c = c.entry_at.ensures
    ∙ (ap (slice_get c.table_of-table.result.now) c.pages_waited.ensures
    ∙ ap (λ (table : List ℕ). slice_get table (waits_in (λ (turn : Place).
    is_called (doc_of c.args.basis.now) turn (c.args.slot, c.args.number)) (length table)
    (reverse c.args.turns.now))) c.table_of-table.ensures)
