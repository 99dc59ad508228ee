use Rattle.std.proofs.Common.{subst, arith}
use Rattle.std.proofs.lemmas.Option.{same_Some}
use Rattle.pg_cover.specs.Covered.{IsFirstOpen, IsOpenOf}
use Rattle.pg_cover.specs.declared.cover.Open.{Open as AnOpen}
use Rattle.pg_cover.proofs.Remembered.{marks_none}
use Rattle.pg_cover.proofs.Searched.{first_at, none_open_more}
use Rattle.pg_cover.proofs.cover.first_open.Goals as goal

pub loop-index-init : goal.loop-index-init
loop-index-init g c = record {
  before = λ i label less at. absurd (omega (arith, less));
  opened = omega arith;
  marks = marks_none _ _ _ c.none-marks.ensures;
}

pub returns-in-Some-clause-some : goal.returns-in-Some-clause-some
returns-in-Some-clause-some g c = λ o e.
    subst (λ (o : AnOpen). IsFirstOpen (g.S.Space.meaning c.args.space.now) c.args.labels.now o.index o.to)
    (same_Some _ o e)
    (first_at _ _ c.loop-index.index c.index-labels-index.result c.in-Some.to c.loop-index-test.true
    c.index-labels-index.is
    (subst (IsOpenOf (g.S.Space.meaning c.args.space.now) c.args.labels.now c.index-labels-index.result)
    c.in-Some.is c.in_ok-to.ensures.least) c.loop-index.invariant.before)

pub loop-index-preserved : goal.loop-index-preserved
loop-index-preserved g c = record {
  before =
      none_open_more _ _ c.loop-index.index c.index-labels-index.result c.index-labels-index.is
      (subst (IsOpenOf (g.S.Space.meaning c.args.space.now) c.args.labels.now c.index-labels-index.result)
      c.in_default.is c.in_ok-to.ensures.least) c.loop-index.invariant.before;
  opened = let one = c.open_of.ensures.counted in let all = c.loop-index.invariant.opened in omega (arith, one, all);
  marks = c.in_ok-unmarked.ensures;
}

pub returns-clause-none : goal.returns-clause-none
returns-clause-none g c = λ e i label less at.
    c.loop-index.invariant.before i label (let end = c.loop-index-test.false in omega arith) at
