use Rattle.std.proofs.Common.{◌∙◌, ap}
use Rattle.pg_style.specs.declared.style.Give.{Give}
use Rattle.pg_rules.specs.Floats.{gap_stretch, gap_shrink}
use Rattle.pg_notes.proofs.Kept.{skips_are}
use Rattle.pg_notes.proofs.sums.NoteSums.give.Goals as goal

pub returns-clause-stretch : goal.returns-clause-stretch
returns-clause-stretch c = λ items are.
    ap (λ (g : Give). g.stretch) c.given.ensures.value
    ∙ skips_are gap_stretch items c.args.style.now.classes c.args.self.now.sums are.sums_are

pub returns-clause-shrink : goal.returns-clause-shrink
returns-clause-shrink c = λ items are.
    ap (λ (g : Give). g.shrink) c.given.ensures.value
    ∙ skips_are gap_shrink items c.args.style.now.classes c.args.self.now.sums are.sums_are
