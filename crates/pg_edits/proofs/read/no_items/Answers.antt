use Rattle.std.proofs.Common.{sym, ◌∙◌, ◌+◌}
use Rattle.pg_scan.specs.Lines.{raw_lines}
use Rattle.pg_edits.specs.Script.{no_items}
use Rattle.pg_edits.specs.declared.kinds.ScriptKind.TheVariants.{UnknownWord}
use Rattle.pg_edits.proofs.ItemBlocks.{none_behind, some_behind}
use Rattle.pg_edits.proofs.Memory.{at_fault}
use Rattle.pg_edits.proofs.read.no_items.Goals as goal

pub returns-then-is_empty : goal.returns-then-is_empty
returns-then-is_empty c = none_behind c.args.items.now c.args.number (sym c.is_empty.ensures ∙ c.if-is_empty.true)

pub returns-else-is_empty : goal.returns-else-is_empty
returns-else-is_empty c = at_fault c.fault.result (c.args.number + 1) UnknownWord
    (no_items c.args.number (raw_lines c.args.items.now)) c.fault.ensures
    (some_behind c.args.items.now c.args.number (sym c.is_empty.ensures ∙ c.if-is_empty.false))
