use Rattle.std.proofs.Common.{◌≤◌, ◌^◌, subst, sym}
use Rattle.pg_list.specs.GalleyValue.{GalleyValue}
use Rattle.pg_style.specs.Values.{StyleValue}
use Rattle.pg_floats.specs.AreFloats.{float_total}
use Rattle.pg_course.proofs.Shown.{paginated_shows}
use Rattle.pg_course.proofs.fold.sheets_text_of.Goals as goal

pub sheets_of-requires-clause-floats : goal.sheets_of-requires-clause-floats
sheets_of-requires-clause-floats g c =
    let session = c.paginate.new.self in
    subst (λ (galley : GalleyValue). float_total galley.blocks c.style.result.now ≤ 2 ^ 12) (sym c.galley.ensures)
    (subst (λ (style : StyleValue). float_total session.galley.blocks style ≤ 2 ^ 12) (sym c.style.ensures)
    (c.stays_few.ensures session.galley.blocks session.style c.floats-floats.ensures.are))

pub returns-clause-shown : goal.returns-clause-shown
returns-clause-shown g c = paginated_shows c.args.session.now c.paginate.new.self c.in_ok-told.told c.args.steps.now
    c.paginate.new.steps c.in_ok-told.ensures.ok
