use Rattle.pg_draw.specs.Words.{names_in}
use Rattle.pg_draw.proofs.course.draw.Goals as goal

pub returns-in-Ok-clause-ends : goal.returns-in-Ok-clause-ends
returns-in-Ok-clause-ends g c =
    c.write_page.ensures.ends (g.H.Shelf.held c.args.shelf.now) (names_in c.args.job.now) c.in-Ok.ensures.drawn
