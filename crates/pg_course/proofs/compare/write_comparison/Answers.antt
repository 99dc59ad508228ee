use Rattle.std.proofs.Common.{◌≡◌, [], ◌∷◌, subst}
use Rattle.std.specs.Prelude.{None}
use Rattle.std.proofs.Common.{sym}
use Rattle.pg_outside.specs.Outside.{output_over, sent}
use Rattle.pg_list.specs.GalleyValue.{GalleyValue}
use Rattle.pg_style.specs.Values.{StyleValue}
use Rattle.pg_greedy.specs.Faults.{Causes, greedy_fault}
use Rattle.pg_session.specs.Shows.{show_of}
use Rattle.pg_command.specs.Lines.{status_of}
use Rattle.pg_command.specs.declared.ending.Ending.{Ending}
use Rattle.pg_course.specs.Calls.{Writes}
use Rattle.pg_course.specs.Course.{CompareGalley}
use Rattle.pg_course.specs.Counted.{made_shows}
use Rattle.pg_course.specs.declared.product.Product.TheVariants.{Comparison}
use Rattle.pg_course.proofs.Counts.{fitted_counted, still_counted, unless_memory, whatever}
use Rattle.pg_course.proofs.Fits.{compared_writes, no_fit_writes}
use Rattle.pg_course.proofs.compare.write_comparison.Goals as goal

pub returns-in-Err-clause-writes : goal.returns-in-Err-clause-writes
returns-in-Err-clause-writes g c =
    let session = c.args.session.now in
    let old = sent g.O.Sink.written g.O.Sink.writes c.args.out.now in
    let faults = g.O.Sink.faults c.args.out.now in
    subst (λ (end : Ending). Writes (CompareGalley session.style session.galley) (output_over old old faults faults) end)
    (sym c.no_fit.ensures) (no_fit_writes session.style session.galley old faults c.in-Err.fault
    (subst (λ (galley : GalleyValue). Causes session.style galley.blocks c.in-Err.fault) c.galley.ensures
    (subst (λ (style : StyleValue). Causes style c.galley.result.now.blocks c.in-Err.fault) c.style.ensures
    c.in-Err.ensures.cause)))

pub returns-in-Err-clause-counted : goal.returns-in-Err-clause-counted
returns-in-Err-clause-counted g c =
    whatever (status_of c.no_fit.result) (still_counted c.args.session.now.style
    (made_shows Comparison c.args.session.now.style c.args.session.now.galley (show_of c.args.session.now ∷ []))
    c.args.steps.now)

pub returns-in-Ok-clause-writes : goal.returns-in-Ok-clause-writes
returns-in-Ok-clause-writes g c =
    let session = c.args.session.now in
    compared_writes session.style session.galley
    (output_over (sent g.O.Sink.written g.O.Sink.writes c.args.out.now) (sent g.O.Sink.written g.O.Sink.writes c.write_compared.new.out)
    (g.O.Sink.faults c.args.out.now) (g.O.Sink.faults c.write_compared.new.out)) c.write_compared.result
    (subst (λ (galley : GalleyValue). greedy_fault session.style galley.blocks ≡ None) c.galley.ensures
    (subst (λ (style : StyleValue). greedy_fault style c.galley.result.now.blocks ≡ None) c.style.ensures
    c.in-Ok.ensures.none)) c.write_compared.ensures.writes

pub returns-in-Ok-clause-counted : goal.returns-in-Ok-clause-counted
returns-in-Ok-clause-counted g c =
    let session = c.args.session.now in
    let fits : greedy_fault session.style session.galley.blocks ≡ None =
    subst (λ (galley : GalleyValue). greedy_fault session.style galley.blocks ≡ None) c.galley.ensures
    (subst (λ (style : StyleValue). greedy_fault style c.galley.result.now.blocks ≡ None) c.style.ensures
    c.in-Ok.ensures.none) in
    unless_memory (status_of c.write_compared.result)
    (λ shown. fitted_counted session c.write_compared.new.session c.args.steps.now c.write_compared.new.steps fits shown)
    c.write_compared.ensures.shown
