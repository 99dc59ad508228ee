use Rattle.pg_make.specs.Generated.{made_galley}
use Rattle.pg_make.specs.Made.{made_style}
use Rattle.pg_course.proofs.Counts.{ok_of, shown_once}
use Rattle.pg_course.proofs.Shown.{paginated_shows}
use Rattle.pg_course.proofs.make.line_under.Goals as goal

pub returns-clause-counted : goal.returns-clause-counted
returns-clause-counted g c =
    ok_of c.line_of.result (shown_once (made_galley c.args.count) made_style c.in_ok-session.session
    c.paginate.new.self c.args.steps.now c.paginate.new.steps c.in_ok-session.ensures
    (paginated_shows c.in_ok-session.session c.paginate.new.self c.in_ok-told.told c.args.steps.now
    c.paginate.new.steps c.in_ok-told.ensures.ok))
