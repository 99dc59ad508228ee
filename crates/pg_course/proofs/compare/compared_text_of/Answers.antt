use Rattle.std.proofs.Common.{subst, sym}
use Rattle.pg_list.specs.GalleyValue.{GalleyValue}
use Rattle.pg_style.specs.Values.{StyleValue}
use Rattle.pg_floats.specs.AreFloats.{AreFloats}
use Rattle.pg_course.proofs.Shown.{paginated_shows}
use Rattle.pg_course.proofs.compare.compared_text_of.Goals as goal

pub compared-requires-clause-floats : goal.compared-requires-clause-floats
compared-requires-clause-floats g c =
    subst (λ (galley : GalleyValue). AreFloats galley.blocks c.style.result.now c.floats.result.now)
    (sym c.galley.ensures)
    (subst (λ (style : StyleValue). AreFloats c.paginate.new.self.galley.blocks style c.floats.result.now)
    (sym c.style.ensures) c.floats.ensures.are)

pub returns-clause-shown : goal.returns-clause-shown
returns-clause-shown g c = paginated_shows c.args.session.now c.paginate.new.self c.in_ok-told.told c.args.steps.now
    c.paginate.new.steps c.in_ok-told.ensures.ok
