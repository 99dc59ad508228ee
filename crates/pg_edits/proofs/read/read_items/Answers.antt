use Rattle.std.proofs.Common.{ap, sym, subst, ◌∙◌, ◌+◌, ◌≡◌}
use Rattle.std.specs.Prelude.{Err}
use Rattle.pg_scan.specs.Lines.{raw_lines}
use Rattle.pg_showbox.specs.Reading.{blocks_of}
use Rattle.pg_edits.specs.Script.{as_blocks, items_said, OrMemory, fault_at}
use Rattle.pg_edits.specs.declared.kinds.ScriptFault.{ScriptFault}
use Rattle.pg_edits.specs.declared.kinds.ScriptKind.TheVariants.{NoBlocks}
use Rattle.pg_edits.proofs.ItemBlocks.{blocks_behind, fault_behind, no_blocks}
use Rattle.pg_edits.proofs.Memory.{at_fault}
use Rattle.pg_edits.proofs.read.read_items.Goals as goal

pub returns-then-is_empty : goal.returns-then-is_empty
returns-then-is_empty c = at_fault c.fault.result c.args.number NoBlocks
    (items_said c.args.number (raw_lines c.args.items.now)) c.fault.ensures
    (no_blocks c.args.items.now c.args.number (sym c.is_empty.ensures ∙ c.if-is_empty.true))

pub returns-in-Ok : goal.returns-in-Ok
returns-in-Ok c =
    blocks_behind c.args.items.now c.args.number (sym c.is_empty.ensures ∙ c.if-is_empty.false)
    ∙ ap as_blocks c.in-Ok.ensures.said

pub returns-in-Err : goal.returns-in-Err
returns-in-Err c =
    let all = items_said c.args.number (raw_lines c.args.items.now) in
    subst (λ (fault : ScriptFault). OrMemory fault.kind (all ≡ Err fault))
    (sym (c.fault-in-Err.ensures ∙ ap (fault_at c.in-Err.list.line) c.kind_of.ensures))
    (fault_behind c.in-Err.list.kind c.in-Err.list.line (blocks_of c.args.items.now (c.args.number + 1))
    all (blocks_behind c.args.items.now c.args.number (sym c.is_empty.ensures ∙ c.if-is_empty.false))
    c.in-Err.ensures.said)
