use Rattle.std.proofs.Common.{◌∙◌, sym, arith}
use Rattle.pg_stylefile.proofs.TableLemmas.{table_turn}
use Rattle.pg_stylefile.proofs.tables.are_tables.Goals as goal

pub returns-then-not-is_table : goal.returns-then-not-is_table
returns-then-not-is_table c =
    sym (c.loop-value.invariant
    ∙ table_turn c.args.values.now c.loop-value.value-index c.value-item.result _ (omega arith) c.value-item.is (sym
    c.if-not-is_table.true ∙ c.is_table.ensures))

pub loop-value-preserved : goal.loop-value-preserved
loop-value-preserved c =
    c.loop-value.invariant
    ∙ table_turn c.args.values.now c.loop-value.value-index c.value-item.result _ (omega arith) c.value-item.is (sym
    c.if-not-is_table.false ∙ c.is_table.ensures)
