use Rattle.std.proofs.Common.{◌∙◌, sym, arith}
use Rattle.pg_stylefile.proofs.EntryLemmas.{whole_turn}
use Rattle.pg_stylefile.proofs.distance.are_whole_numbers.Goals as goal

pub returns-then-not-is_integer : goal.returns-then-not-is_integer
returns-then-not-is_integer c =
    sym (c.loop-value.invariant
    ∙ whole_turn c.args.values.now c.loop-value.value-index c.value-item.result _ (omega arith) c.value-item.is (sym
    c.if-not-is_integer.true ∙ c.is_integer.ensures))

pub loop-value-preserved : goal.loop-value-preserved
loop-value-preserved c =
    c.loop-value.invariant
    ∙ whole_turn c.args.values.now c.loop-value.value-index c.value-item.result _ (omega arith) c.value-item.is (sym
    c.if-not-is_integer.false ∙ c.is_integer.ensures)
