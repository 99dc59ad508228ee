use Rattle.std.proofs.Common.{subst, sym}
use Rattle.pg_tell.specs.Lines.{Begins, none_front}
use Rattle.pg_tell.proofs.course.tell_findings.Goals as goal

pub returns-in-Ok : goal.returns-in-Ok
returns-in-Ok g c =
    c.write_text.ensures (none_front c.args.form c.args.found.now)
    (subst (Begins (none_front c.args.form c.args.found.now)) (sym c.deref.ensures.value) c.in-Ok.ensures)
