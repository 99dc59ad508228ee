use Rattle.std.proofs.Common.{◌≡◌, ◌∙◌, ap, sym, arith, length, nat_eq, true, List, ◌∷◌, ℕ}
use Rattle.std.proofs.lemmas.Bool.Decides.{nat_tests}
use Rattle.pg_scan.specs.Lines.{raw_lines, joined}
use Rattle.pg_showbox.specs.Reading.{run, line_read}
use Rattle.std.specs.Prelude.{Err}
use Rattle.pg_showbox.proofs.RunLemmas.{run_more, run_fault, run_end, no_raw_lines, joined_none, err_runs, line_said}
use Rattle.pg_showbox.proofs.read.read_lines.Goals as goal

pub returns-in-Ok-None-clause-run : goal.returns-in-Ok-None-clause-run
returns-in-Ok-None-clause-run c =
    let none = rw c.in-Ok-None.field-0-is at c.in-Ok-None.ensures.line in
    c.lines.invariant.said
    ∙ run_end c.args.is_file c.lines.state (joined c.args.wrap c.lines.number (raw_lines c.lines.rest.now))
    (joined_none c.args.wrap c.lines.number (raw_lines c.lines.rest.now) none)

pub returns-in-Err-read_line-clause-run : goal.returns-in-Err-read_line-clause-run
returns-in-Err-read_line-clause-run c =
    let more = rw c.in-Ok-Some.field-0-is at c.in-Ok-Some.ensures.line in
    let lines : joined c.args.wrap c.lines.number (raw_lines c.lines.rest.now) ≡ record {
      number = c.lines.number;
      text = c.unwrap_or.result.now;
    } ∷ joined c.args.wrap c.in-Ok-Some.found.2 (raw_lines c.in-Ok-Some.found.1.now) =
    more ∙ ap (λ (text : List ℕ). record { number = c.lines.number; text = text } ∷ joined c.args.wrap
    c.in-Ok-Some.found.2 (raw_lines c.in-Ok-Some.found.1.now)) (line_said c.in-Ok-Some.found.0 c.deref.result c.unwrap_or.result
    c.next_line.new.line.items c.unwrap_or.ensures c.deref.ensures.value) in
    err_runs c.in-Err-read_line.kind (line_read c.args.is_file c.lines.state c.unwrap_or.result.now) c.read_line.new.state
    (run c.args.is_file c.args.state.now (joined c.args.wrap c.args.first (raw_lines c.args.text.now))
    ≡ Err (record { line = c.lines.number; kind = c.in-Err-read_line.kind }))
    c.in-Err-read_line.ensures.step
    (λ e. c.lines.invariant.said ∙ run_fault c.args.is_file c.lines.state
    (joined c.args.wrap c.lines.number (raw_lines c.lines.rest.now))
    (joined c.args.wrap c.in-Ok-Some.found.2 (raw_lines c.in-Ok-Some.found.1.now)) c.lines.number
    c.unwrap_or.result.now c.in-Err-read_line.kind lines e)

pub lines-preserved : goal.lines-preserved
lines-preserved c =
    let more = rw c.in-Ok-Some.field-0-is at c.in-Ok-Some.ensures.line in
    let count = rw c.in-Ok-Some.field-0-is at c.in-Ok-Some.ensures.count in
    let room = rw c.in-Ok-Some.field-0-is at c.in-Ok-Some.ensures.room in
    let lines : joined c.args.wrap c.lines.number (raw_lines c.lines.rest.now) ≡ record {
      number = c.lines.number;
      text = c.unwrap_or.result.now;
    } ∷ joined c.args.wrap c.in-Ok-Some.found.2 (raw_lines c.in-Ok-Some.found.1.now) =
    more ∙ ap (λ (text : List ℕ). record { number = c.lines.number; text = text } ∷ joined c.args.wrap
    c.in-Ok-Some.found.2 (raw_lines c.in-Ok-Some.found.1.now)) (line_said c.in-Ok-Some.found.0 c.deref.result c.unwrap_or.result
    c.next_line.new.line.items c.unwrap_or.ensures c.deref.ensures.value) in
    record {
      said = c.lines.invariant.said ∙ run_more c.args.is_file c.lines.state c.read_line.new.state
          (joined c.args.wrap c.lines.number (raw_lines c.lines.rest.now))
          (joined c.args.wrap c.in-Ok-Some.found.2 (raw_lines c.in-Ok-Some.found.1.now)) c.lines.number
          c.unwrap_or.result.now lines c.in-Ok.ensures.step;
      count = omega (arith, count, c.lines.invariant.count);
      room = omega (arith, room, c.lines.invariant.room);
      sound = c.in-Ok.ensures.sound;
    }

pub returns-clause-run : goal.returns-clause-run
returns-clause-run c =
    let test : nat_eq (length c.lines.rest.now) 0 ≡ true = sym c.is_empty.ensures ∙ c.lines-test.false in
    let empty : length c.lines.rest.now ≡ 0 = grind (arith, nat_tests) in
    c.lines.invariant.said
    ∙ run_end c.args.is_file c.lines.state (joined c.args.wrap c.lines.number (raw_lines c.lines.rest.now))
    (joined_none c.args.wrap c.lines.number (raw_lines c.lines.rest.now) (no_raw_lines c.lines.rest.now empty))

pub returns-clause-last : goal.returns-clause-last
returns-clause-last c =
    let test : nat_eq (length c.lines.rest.now) 0 ≡ true = sym c.is_empty.ensures ∙ c.lines-test.false in
    let empty : length c.lines.rest.now ≡ 0 = grind (arith, nat_tests) in
    let none = ap length (no_raw_lines c.lines.rest.now empty) in
    omega (arith, none, c.lines.invariant.count)
