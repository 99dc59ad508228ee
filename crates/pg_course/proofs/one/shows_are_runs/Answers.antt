use Rattle.pg_course.proofs.OneRun.{shows_run}
use Rattle.pg_course.proofs.one.shows_are_runs.Goals as goal

pub returns : goal.returns
returns c = shows_run
