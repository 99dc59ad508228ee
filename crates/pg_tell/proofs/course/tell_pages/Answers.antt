use Rattle.std.proofs.Common.{subst, sym, inl, inr}
use Rattle.pg_furthest.specs.Pages.{IsBestPages, TellsBestPages}
use Rattle.pg_list.specs.GalleyValue.{GalleyValue}
use Rattle.pg_style.specs.Values.{StyleValue}
use Rattle.pg_tell.proofs.Fronts.{told_pages}
use Rattle.pg_tell.proofs.course.tell_pages.Goals as goal

pub tell_best-requires : goal.tell_best-requires
tell_best-requires g c =
    let best = subst (TellsBestPages c.args.search.now.galley c.args.search.now.style) c.in-Ok-Some.field-0-is
    c.in-Ok-Some.ensures in
    subst (λ (galley : GalleyValue). IsBestPages galley c.style.result.now c.in-Ok-Some.pages) (sym c.galley.ensures)
    (subst (λ (style : StyleValue). IsBestPages c.args.search.now.galley style c.in-Ok-Some.pages) (sym c.style.ensures)
    best)

pub tell_none-requires : goal.tell_none-requires
tell_none-requires g c =
    subst (TellsBestPages c.args.search.now.galley c.args.search.now.style) c.in-Ok-None.field-0-is c.in-Ok-None.ensures

pub returns-in-Ok-Some : goal.returns-in-Ok-Some
returns-in-Ok-Some g c = told_pages c.args.form c.args.search.now.galley c.galley.result.now c.args.search.now.style
    c.style.result.now c.in-Ok-Some.pages _ _ _ c.galley.ensures c.style.ensures
    (subst (TellsBestPages c.args.search.now.galley c.args.search.now.style) c.in-Ok-Some.field-0-is
    c.in-Ok-Some.ensures) c.tell_best.ensures

pub returns-in-Ok-None : goal.returns-in-Ok-None
returns-in-Ok-None g c = inr (inl (
  subst (TellsBestPages c.args.search.now.galley c.args.search.now.style) c.in-Ok-None.field-0-is c.in-Ok-None.ensures,
  c.tell_none.ensures,
))
