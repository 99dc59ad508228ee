use Rattle.std.proofs.Common.{inl}
use Rattle.pg_tell.proofs.course.tell_none.Goals as goal

pub returns-in-Ok : goal.returns-in-Ok
returns-in-Ok g c = inl (c.in-Ok.found, c.in-Ok.ensures, c.tell_findings.ensures)
