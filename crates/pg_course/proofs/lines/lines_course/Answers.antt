use Rattle.std.proofs.Common.{List, rules, subst, w32, ℤ}
use Rattle.std.specs.Prelude.{Ok, Result}
use Rattle.std.proofs.lemmas.Int.{to_z-of_z}
use Rattle.pg_hlist.specs.declared.item.HItem.{HItem}
use Rattle.pg_outside.specs.Outside.{Held, output_over, sent}
use Rattle.pg_command.specs.Lines.{line_of, status_of}
use Rattle.pg_course.specs.Calls.{Writes}
use Rattle.pg_course.specs.Course.{BeginsBy, EndsBy, LinesCourse, Stop, opened_paras, rule_of}
use Rattle.pg_course.proofs.Runs.{on_read_fault, on_settled, on_write_fault, when_said}
use Rattle.pg_course.proofs.lines.lines_course.Goals as goal

pub returns-in-Ok : goal.returns-in-Ok
returns-in-Ok g c =
    let rule = rule_of c.args.job.width c.args.job.tolerance c.args.job.around in
    let file = c.args.job.file.now in
    let old = sent g.O.Sink.written g.O.Sink.writes c.args.out.now in
    let new = sent g.O.Sink.written g.O.Sink.writes c.write_lines.new.out in
    let end = c.write_lines.result in
    let out = output_over old new (g.O.Sink.faults c.args.out.now) (g.O.Sink.faults c.write_lines.new.out) in
    let own = to_z-of_z w32 c.args.job.width (record { sfits = search rules }) in
    let writes =
    subst (λ (width : ℤ). Writes (LinesCourse (rule_of width c.args.job.tolerance c.args.job.around) file
    (Ok c.in-Ok.paras)) out end) own c.write_lines.ensures.writes in
    record {
      goes =
          record {
            settled =
                on_settled (status_of end) (when_said (λ (said : Result (List (List HItem)) Stop).
                EndsBy (LinesCourse rule file said) old new (status_of end) (line_of end))
                (g.H.Shelf.held c.args.shelf.now) (λ (held : Held). opened_paras file (held file)) c.in-Ok.paras
                c.in-Ok.ensures.paras) writes.settled;
            read = on_read_fault (status_of end) (λ never. absurd never) writes.no_read;
            read_keeps = on_read_fault (status_of end) (λ never. absurd never) writes.no_read;
            write = writes.write;
            front =
                on_write_fault (status_of end) (when_said (λ (said : Result (List (List HItem)) Stop).
                BeginsBy (LinesCourse rule file said) old new)
                (g.H.Shelf.held c.args.shelf.now) (λ (held : Held). opened_paras file (held file)) c.in-Ok.paras
                c.in-Ok.ensures.paras) writes.front;
            memory = search rules;
            usage = search rules;
            usage_keeps = search rules;
          };
    }
