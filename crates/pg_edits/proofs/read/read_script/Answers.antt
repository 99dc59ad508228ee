use Rattle.std.proofs.Common.{sym, ◌∙◌, subst}
use Rattle.pg_scan.specs.Lines.{raw_lines}
use Rattle.pg_edits.specs.Script.{Gives, script_of, steps_from}
use Rattle.pg_edits.specs.declared.kinds.ScriptKind.TheVariants.{UnknownWord}
use Rattle.pg_edits.proofs.FaultKinds.{answer_kind, steps_kind}
use Rattle.pg_edits.proofs.Memory.{at_fault}
use Rattle.pg_edits.proofs.Steps.{a_front, no_front}
use Rattle.pg_edits.proofs.read.read_script.Goals as goal

pub returns-then-has_point-clause-said : goal.returns-then-has_point-clause-said
returns-then-has_point-clause-said c = at_fault c.fault.result 1 UnknownWord (script_of c.args.text.now) c.fault.ensures
    (a_front c.args.text.now (sym c.has_point.ensures ∙ c.if-has_point.true))

pub returns-clause-said : goal.returns-clause-said
returns-clause-said c = subst (Gives c.read_steps.result)
    (sym (no_front c.args.text.now (sym c.has_point.ensures ∙ c.if-has_point.false))) c.read_steps.ensures

pub returns-clause-kind : goal.returns-clause-kind
returns-clause-kind c = answer_kind c.read_steps.result (steps_from 1 (raw_lines c.args.text.now)) c.read_steps.ensures
    (steps_kind 1 (raw_lines c.args.text.now))
