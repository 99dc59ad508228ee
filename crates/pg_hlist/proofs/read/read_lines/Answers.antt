use Rattle.std.proofs.Common.{◌≡◌, ◌∙◌, ap, sym, arith, length, nat_eq, true, List, ◌∷◌, ℕ}
use Rattle.std.proofs.lemmas.Bool.Decides.{nat_tests}
use Rattle.std.specs.Prelude.{Err, None}
use Rattle.pg_scan.specs.Lines.{raw_lines, joined}
use Rattle.pg_hlist.specs.Reading.{run, line_read}
use Rattle.pg_hlist.proofs.RunLemmas.{run_more, run_fault, run_end, joined_none}
use Rattle.pg_showbox.proofs.RunLemmas.{err_runs, no_raw_lines}
use Rattle.pg_hlist.proofs.read.read_lines.Goals as goal

pub returns-in-Ok-None : goal.returns-in-Ok-None
returns-in-Ok-None c =
    let none = rw c.in-Ok-None.field-0-is at c.in-Ok-None.ensures.line in
    c.lines.invariant.said
    ∙ run_end c.lines.draft (joined None c.lines.number (raw_lines c.lines.rest.now))
    (joined_none c.lines.number (raw_lines c.lines.rest.now) none)

pub returns-in-Err-read_line : goal.returns-in-Err-read_line
returns-in-Err-read_line c =
    let more = rw c.in-Ok-Some.field-0-is at c.in-Ok-Some.ensures.line in
    let lines : joined None c.lines.number (raw_lines c.lines.rest.now) ≡ record {
      number = c.lines.number;
      text = c.deref.result.now;
    } ∷ joined None c.in-Ok-Some.found.1 (raw_lines c.in-Ok-Some.found.0.now) =
    more ∙ ap (λ (text : List ℕ). record { number = c.lines.number; text = text } ∷ joined None
    c.in-Ok-Some.found.1 (raw_lines c.in-Ok-Some.found.0.now)) (sym c.deref.ensures.value) in
    err_runs c.in-Err-read_line.kind (line_read c.lines.draft c.deref.result.now) c.read_line.new.draft
    (run c.args.draft.now (joined None 1 (raw_lines c.args.text.now))
    ≡ Err (record { line = c.lines.number; kind = c.in-Err-read_line.kind }))
    c.in-Err-read_line.ensures
    (λ e. c.lines.invariant.said ∙ run_fault c.lines.draft
    (joined None c.lines.number (raw_lines c.lines.rest.now))
    (joined None c.in-Ok-Some.found.1 (raw_lines c.in-Ok-Some.found.0.now)) c.lines.number
    c.deref.result.now c.in-Err-read_line.kind lines e)

pub lines-preserved : goal.lines-preserved
lines-preserved c =
    let more = rw c.in-Ok-Some.field-0-is at c.in-Ok-Some.ensures.line in
    let room = rw c.in-Ok-Some.field-0-is at c.in-Ok-Some.ensures.room in
    let lines : joined None c.lines.number (raw_lines c.lines.rest.now) ≡ record {
      number = c.lines.number;
      text = c.deref.result.now;
    } ∷ joined None c.in-Ok-Some.found.1 (raw_lines c.in-Ok-Some.found.0.now) =
    more ∙ ap (λ (text : List ℕ). record { number = c.lines.number; text = text } ∷ joined None
    c.in-Ok-Some.found.1 (raw_lines c.in-Ok-Some.found.0.now)) (sym c.deref.ensures.value) in
    record {
      said = c.lines.invariant.said ∙ run_more c.lines.draft c.read_line.new.draft
          (joined None c.lines.number (raw_lines c.lines.rest.now))
          (joined None c.in-Ok-Some.found.1 (raw_lines c.in-Ok-Some.found.0.now)) c.lines.number
          c.deref.result.now lines c.in-Ok.ensures;
      room = omega (arith, room, c.lines.invariant.room);
    }

pub returns : goal.returns
returns c =
    let test : nat_eq (length c.lines.rest.now) 0 ≡ true = sym c.is_empty.ensures ∙ c.lines-test.false in
    let empty : length c.lines.rest.now ≡ 0 = grind (arith, nat_tests) in
    c.lines.invariant.said
    ∙ run_end c.lines.draft (joined None c.lines.number (raw_lines c.lines.rest.now))
    (joined_none c.lines.number (raw_lines c.lines.rest.now) (no_raw_lines c.lines.rest.now empty))
