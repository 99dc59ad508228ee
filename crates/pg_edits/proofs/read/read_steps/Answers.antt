use Rattle.std.proofs.Common.{rules, ◌≡◌, ◌∙◌, sym, arith}
use Rattle.std.specs.Prelude.{Err}
use Rattle.pg_scan.specs.Lines.{raw_lines}
use Rattle.pg_edits.specs.Script.{OrMemory, steps_from}
use Rattle.pg_edits.proofs.ItemBlocks.{no_lines}
use Rattle.pg_edits.proofs.Memory.{or_memory}
use Rattle.pg_edits.proofs.Steps.{ended, refused, stands, taken_on}
use Rattle.pg_edits.proofs.read.read_steps.Goals as goal

pub returns-in-Ok-None : goal.returns-in-Ok-None
returns-in-Ok-None c =
    let none = rw c.in-Ok-None.field-0-is at c.in-Ok-None.ensures.line in
    c.lines.invariant.said ∙ ended c.lines.script c.lines.rest.now c.lines.number none

pub returns-in_err-step : goal.returns-in_err-step
returns-in_err-step c =
    let first = rw c.in-Ok-Some.field-0-is at c.in-Ok-Some.ensures.line in
    let there = stands c.lines.number _ c.lines.rest.now c.deref.result.now _ c.in-Ok-Some.after.now _ _ first
    c.deref.ensures.value c.lines.invariant.front c.split_items-count.ensures.lines c.split_items-count.ensures.items in
    let fault = c.in_err-step.field-0.0 in
    let all : OrMemory fault.kind (steps_from 1 (raw_lines c.args.text.now) ≡ Err fault) = or_memory fault.kind
    (λ e. c.lines.invariant.said ∙ e)
    (refused c.lines.number _ _ _ _ there c.lines.script fault c.in_err-step.ensures) in
    search rules

pub lines-preserved : goal.lines-preserved
lines-preserved c =
    let first = rw c.in-Ok-Some.field-0-is at c.in-Ok-Some.ensures.line in
    let shorter = rw c.in-Ok-Some.field-0-is at c.in-Ok-Some.ensures.shorter in
    let there = stands c.lines.number _ c.lines.rest.now c.deref.result.now _ c.in-Ok-Some.after.now _ _ first
    c.deref.ensures.value c.lines.invariant.front c.split_items-count.ensures.lines c.split_items-count.ensures.items in
    record {
      said = c.lines.invariant.said ∙ taken_on c.lines.number _ _ _ _ there c.lines.script c.add.new.script
          c.in_ok-step.step c.split_items-count.result.1 c.in_ok-step.ensures c.in-Ok.ensures
          c.split_items-count.ensures.count;
      front = c.split_items-count.ensures.rest;
      room = omega (
        arith,
        c.lines.invariant.room,
        shorter,
        c.split_items-count.ensures.few,
        c.split_items-count.ensures.size,
      );
    }

pub returns : goal.returns
returns c = c.lines.invariant.said ∙ ended c.lines.script c.lines.rest.now c.lines.number
    (no_lines c.lines.rest.now (sym c.is_empty.ensures ∙ c.lines-test.false))
