use Rattle.std.proofs.Common.{◌∙◌, ap, arith, not}
use Rattle.std.specs.Option.{option_map}
use Rattle.pg_words.specs.EntriesLeft.{size_left}
use Rattle.pg_labels.specs.Reading.{run, lines_left}
use Rattle.pg_labels.proofs.Runs.{run_more, run_none, run_stop, shorter, was_refused, was_taken}
use Rattle.pg_labels.proofs.read.read_lines.Goals as goal

pub returns-in-Ok-false : goal.returns-in-Ok-false
returns-in-Ok-false c = c.loop-rest.invariant.said
    ∙ ap (λ o. run c.loop-rest.draft c.loop-rest.number (lines_left (option_map (λ t. t.now) o))) c.in-Some.is
    ∙ run_stop (λ t. t.now) c.split_part.result.1 c.loop-rest.draft c.loop-rest.number c.in-Some.left.now
    c.split_part.result.0.now c.split_part.ensures.parts (c.is_none.ensures ∙ ap not c.if-is_none.false)
    (was_refused _ _ _ _ c.in-Ok-false.field-0-test c.in-Ok-false.ensures)

pub loop-rest-preserved : goal.loop-rest-preserved
loop-rest-preserved c = record {
  said = c.loop-rest.invariant.said
      ∙ ap (λ o. run c.loop-rest.draft c.loop-rest.number (lines_left (option_map (λ t. t.now) o))) c.in-Some.is
      ∙ run_more (λ t. t.now) c.split_part.result.1 c.loop-rest.draft c.step.new.self c.loop-rest.number
      c.in-Some.left.now c.split_part.result.0.now c.split_part.ensures.parts
      (c.is_none.ensures ∙ ap not c.if-is_none.false)
      (was_taken _ _ _ _ c.in-Ok-true.field-0-test c.in-Ok-true.ensures);
  room =
      let here = ap (λ o. size_left (option_map (λ t. t.now) o)) c.in-Some.is in
      let less = shorter (λ t. t.now) c.split_part.result.1 c.in-Some.left.now c.split_part.ensures.shorter in
      omega (arith, c.loop-rest.invariant.room, here, less);
}

pub returns : goal.returns
returns c = c.loop-rest.invariant.said
    ∙ run_none (λ t. t.now) c.loop-rest.rest c.loop-rest.draft c.loop-rest.number c.in_default.not-Some
