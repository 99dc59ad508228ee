use Rattle.std.proofs.Common.{sym, subst, Option, Box, Global}
use Rattle.std.specs.Prelude.{IfSome}
use Rattle.std.proofs.lemmas.Result.{IfOk-from_err}
use Rattle.pg_hops.specs.Index.{AreHops}
use Rattle.pg_list.specs.GalleyValue.{GalleyValue}
use Rattle.pg_sources.specs.Document.{doc_of}
use Rattle.pg_style.specs.Values.{StyleValue}
use Rattle.pg_walk.specs.Fronts.{ComesTo}
use Rattle.pg_walk.specs.declared.front.Front.{Front}
use Rattle.pg_space.proofs.Telling.{of_equal}
use Rattle.pg_space.proofs.kept.KeptPages.walk.Goals as goal

pub walk_first-requires-clause-hops : goal.walk_first-requires-clause-hops
walk_first-requires-clause-hops g c = of_equal (λ (galley : GalleyValue) (style : StyleValue).
    AreHops galley.blocks style.maxdepth c.args.self.now.index.now) _ _ _ _
    (sym c.args.self.now.galley) (sym c.args.self.now.style) c.args.self.now.hops

pub walk_first-requires-clause-place : goal.walk_first-requires-clause-place
walk_first-requires-clause-place g c = c.requires.place

pub walk_first-requires-clause-none : goal.walk_first-requires-clause-none
walk_first-requires-clause-none g c = c.requires.none

pub returns-in_err-first : goal.returns-in_err-first
returns-in_err-first g c = IfOk-from_err c.from_residual.result _ c.from_residual.ensures.0

pub keep_alone-requires-clause-place : goal.keep_alone-requires-clause-place
keep_alone-requires-clause-place g c = c.requires.place

pub keep_alone-requires-clause-tells : goal.keep_alone-requires-clause-tells
keep_alone-requires-clause-tells g c = c.in_ok-first.ensures.whole c.in-None.is

pub keep_alone-requires-clause-reach : goal.keep_alone-requires-clause-reach
keep_alone-requires-clause-reach g c = c.in_ok-first.ensures.reach c.in-None.is

pub returns-in-None : goal.returns-in-None
returns-in-None g c = c.keep_alone.ensures

pub keep_before-requires-clause-place : goal.keep_before-requires-clause-place
keep_before-requires-clause-place g c = c.requires.place

pub keep_before-requires-clause-comes : goal.keep_before-requires-clause-comes
keep_before-requires-clause-comes g c =
    let comes = ComesTo (doc_of c.args.self.now.pages.sources) c.args.from c.in_ok-first.first in
    subst comes (sym c.deref.ensures) (subst (λ (o : Option (Box Front Global)).
    IfSome o (λ (front : Box Front Global). comes front.value)) c.in-Some.is c.in_ok-first.ensures.front)

pub returns : goal.returns
returns g c = c.keep_before.ensures
