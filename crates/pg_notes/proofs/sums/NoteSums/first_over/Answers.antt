use Rattle.std.proofs.Common.{◌∙◌, ap}
use Rattle.std.specs.Prelude.{is_none}
use Rattle.pg_notes.proofs.Kept.{first_is, none_is}
use Rattle.pg_notes.proofs.sums.NoteSums.first_over.Goals as goal

pub returns-clause-first : goal.returns-clause-first
returns-clause-first c = λ items are.
    c.first_above.ensures.value
    ∙ first_is items c.args.style.now.classes c.args.self.now.sums c.first_above.ensures.range.each are.sums_are

pub returns-clause-none : goal.returns-clause-none
returns-clause-none c = λ items are.
    ap is_none (c.first_above.ensures.value
    ∙ first_is items c.args.style.now.classes c.args.self.now.sums c.first_above.ensures.range.each are.sums_are)
    ∙ none_is items c.args.style.now.classes
