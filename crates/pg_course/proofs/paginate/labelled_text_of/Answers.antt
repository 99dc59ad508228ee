use Rattle.std.proofs.Common.{ap, subst, sym}
use Rattle.pg_list.specs.GalleyValue.{GalleyValue}
use Rattle.pg_style.specs.Values.{StyleValue}
use Rattle.pg_floats.specs.AreFloats.{AreFloats}
use Rattle.pg_session.specs.SessionValue.{SessionValue}
use Rattle.pg_course.proofs.Labelled.{labelled_text}
use Rattle.pg_course.proofs.Counts.{ok_of}
use Rattle.pg_course.proofs.Shown.{solved_shows}
use Rattle.pg_course.proofs.paginate.labelled_text_of.Goals as goal

pub text_of-requires-clause-floats : goal.text_of-requires-clause-floats
text_of-requires-clause-floats g c =
    subst (λ (galley : GalleyValue). AreFloats galley.blocks c.style.result.now c.floats.result.now)
    (sym c.galley.ensures)
    (subst (λ (style : StyleValue). AreFloats c.solve.new.self.galley.blocks style c.floats.result.now)
    (sym c.style.ensures) c.floats.ensures.are)

pub returns-clause-text : goal.returns-clause-text
returns-clause-text g c =
    let is = c.in_ok-outcome.ensures.ok.is in
    labelled_text c.args.session.now c.solve.new.self c.galley.result.now c.style.result.now
    c.style-2.result.now c.in_ok-text.text c.labels.result.now c.with_labels.result
    (ap (λ (s : SessionValue). s.galley) is) (ap (λ (s : SessionValue). s.style) is) c.galley.ensures c.style.ensures
    c.style-2.ensures c.in_ok-text.ensures c.labels.ensures.frontier c.with_labels.ensures.text
    c.with_labels.ensures.end

pub returns-clause-shown : goal.returns-clause-shown
returns-clause-shown g c = ok_of c.with_labels.result
    (solved_shows c.args.session.now c.solve.new.self c.in_ok-outcome.outcome c.args.steps.now c.solve.new.steps
    c.in_ok-outcome.ensures.ok)
