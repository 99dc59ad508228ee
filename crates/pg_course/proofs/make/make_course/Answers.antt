use Rattle.pg_outside.specs.Outside.{output_over, sent}
use Rattle.pg_course.specs.Out.{bytes_of, end_of}
use Rattle.pg_course.proofs.Making.{made_goes}
use Rattle.pg_course.proofs.make.make_course.Goals as goal

pub returns-in-Ok-clause-goes : goal.returns-in-Ok-clause-goes
returns-in-Ok-clause-goes g c = λ shelf.
    made_goes c.args.count (bytes_of c.in-Ok.line) (end_of c.in-Ok.line) shelf
    (output_over (sent g.O.Sink.written g.O.Sink.writes c.args.out.now)
    (sent g.O.Sink.written g.O.Sink.writes c.write_text.new.out)
    (g.O.Sink.faults c.args.out.now) (g.O.Sink.faults c.write_text.new.out)) c.write_text.result
    c.in-Ok.ensures.line c.write_text.ensures.writes
