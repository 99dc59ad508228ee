use Rattle.std.proofs.Common.{◌≤◌, length, subst, sym}
use Rattle.law_columns.proofs.StyleFacts.{slot_table}
use Rattle.pg_states.proofs.classes.short_table.Goals as goal

pub returns-clause-few : goal.returns-clause-few
returns-clause-few c = subst (λ (table : _). length table ≤ 9) (sym c.table_of.ensures)
    (slot_table c.args.style.now c.stays_in_range.ensures c.args.slot c.requires).few
