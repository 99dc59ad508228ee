-- Answers that may be want of memory.
use Rattle.std.proofs.Common.{◌≡◌, ◌∙◌, ℕ, ap, sym}
use Rattle.std.specs.Prelude.{Result, Err}
use Rattle.pg_edits.specs.Script.{OrMemory, fault_at}
use Rattle.pg_edits.specs.declared.kinds.ScriptFault.{ScriptFault}
use Rattle.pg_edits.specs.declared.kinds.ScriptKind.{ScriptKind}
use Rattle.pg_edits.specs.declared.kinds.ScriptKind.TheVariants.{UnknownWord, BadNumber, NoBlocks, Blocks, Memory}

pub or_memory : (kind : ScriptKind) {P Q : Type 0} → (P → Q) → OrMemory kind P → OrMemory kind Q
or_memory UnknownWord f h = f h
or_memory BadNumber f h = f h
or_memory NoBlocks f h = f h
or_memory (Blocks kind) f h = f h
or_memory Memory f h = tt

or_so : (kind : ScriptKind) {P : Type 0} → P → OrMemory kind P
or_so UnknownWord h = h
or_so BadNumber h = h
or_so NoBlocks h = h
or_so (Blocks kind) h = h
or_so Memory h = tt

-- an answer that is this fault
pub at_fault : {X : Type 0} (fault : ScriptFault) (line : ℕ) (kind : ScriptKind) (said : Result X ScriptFault) →
    fault ≡ fault_at line kind → said ≡ Err (fault_at line kind) → OrMemory fault.kind (said ≡ Err fault)
at_fault fault line kind said is e = or_so fault.kind (e ∙ ap Err (sym is))
