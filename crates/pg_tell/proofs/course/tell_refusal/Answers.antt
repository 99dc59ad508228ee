use Rattle.std.proofs.Common.{subst, sym}
use Rattle.pg_tell.specs.Lines.{Begins, refusal_front}
use Rattle.pg_tell.proofs.course.tell_refusal.Goals as goal

pub returns : goal.returns
returns g c =
    c.write_text.ensures (refusal_front c.args.form c.args.stop.ending)
    (subst (Begins (refusal_front c.args.form c.args.stop.ending)) (sym c.deref.ensures.value) c.in-Ok.ensures)
