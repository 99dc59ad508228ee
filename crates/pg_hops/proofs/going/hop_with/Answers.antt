use Rattle.std.proofs.Common.{◌∙◌, ap}
use Rattle.pg_column.specs.Passed.{Passed}
use Rattle.pg_hops.specs.Hop.{moved}
use Rattle.pg_hops.proofs.going.hop_with.Goals as goal

pub returns-clause-value : goal.returns-clause-value
returns-clause-value c = λ style are.
    c.add_items.ensures.value ∙ ap (λ (p : Passed). moved p c.args.hop.now.added.shift) (c.cross_with.ensures.value style are)

pub returns-clause-style : goal.returns-clause-style
returns-clause-style c = λ style is.
    let mid = c.cross_with.ensures.style style is in
    record {
      topskip = c.add_items.ensures.kept.0 ∙ mid.topskip;
      maxdepth = c.add_items.ensures.kept.1 ∙ mid.maxdepth;
    }
