use Rattle.std.proofs.Common.{inr}
use Rattle.pg_tell.proofs.course.tell_files.Goals as goal

pub returns-in-Ok : goal.returns-in-Ok
returns-in-Ok g c =
    inr (c.in-Ok.search.galley, c.in-Ok.search.style, c.in-Ok.ensures.search, c.tell_pages.ensures)
