use Rattle.pg_outside.specs.Outside.{output_over, sent}
use Rattle.pg_course.proofs.Paragraphs.{lines_stop, lines_write}
use Rattle.pg_course.proofs.lines.write_lines.Goals as goal

pub returns-in-Ok : goal.returns-in-Ok
returns-in-Ok g c = record {
  writes =
      lines_write c.args.rule.now c.args.name.now c.args.paras.now c.in-Ok.galley
      (output_over (sent g.O.Sink.written g.O.Sink.writes c.args.out.now) (sent g.O.Sink.written g.O.Sink.writes c.write_galley.new.out)
      (g.O.Sink.faults c.args.out.now) (g.O.Sink.faults c.write_galley.new.out)) c.write_galley.result
      c.in-Ok.ensures
      (c.lines_read_back.ensures c.requires.said.0 c.args.paras.now c.in-Ok.galley c.requires.said.1 c.in-Ok.ensures)
      c.write_galley.ensures.writes;
}

pub returns-in_default : goal.returns-in_default
returns-in_default g c = record {
  writes =
      record {
        settled =
            lines_stop c.args.rule.now c.args.name.now c.args.paras.now c.in-Err.fault
            (sent g.O.Sink.written g.O.Sink.writes c.args.out.now) c.in-Err.ensures c.in_default.not-Memory;
        write = tt;
        front = tt;
        memory = tt;
        no_read = tt;
        no_usage = λ e. absurd (cc);
      };
}
