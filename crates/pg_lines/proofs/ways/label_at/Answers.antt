use Rattle.std.proofs.Common.{◌∙◌, sym, arith}
use Rattle.std.proofs.lemmas.Option.{slice_get_within}
use Rattle.pg_lines.proofs.Counted.{label_here, none_further}
use Rattle.pg_lines.proofs.ways.label_at.Goals as goal

pub returns-then-is_at : goal.returns-then-is_at
returns-then-is_at c = record {
  some = label_here c.args.labels.now c.labels.index c.args.place c.args.lines _ c.labels-test.true
      (sym c.is_at.ensures ∙ c.if-is_at.true);
  none = tt;
}

pub labels-preserved : goal.labels-preserved
labels-preserved c = none_further c.args.labels.now c.labels.index c.args.place c.args.lines _ c.labels.invariant
    (sym c.is_at.ensures ∙ c.if-is_at.false)

pub returns : goal.returns
returns c = record {
  some = tt;
  none = λ i e at same. c.labels.invariant i e
      (let w = slice_get_within c.args.labels.now i e at in omega (arith, w, c.labels-test.false)) at same;
}
