use Rattle.pg_course.proofs.Shown.{paginated_shows}
use Rattle.pg_course.proofs.heads.heads_text_of.Goals as goal

pub returns-clause-shown : goal.returns-clause-shown
returns-clause-shown g c = paginated_shows c.args.session.now c.paginate.new.self c.in_ok-told.told c.args.steps.now
    c.paginate.new.steps c.in_ok-told.ensures.ok
