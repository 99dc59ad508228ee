use Rattle.std.proofs.Common.{◌≡◌, ◌∙◌, ap, pos, rules, w64, to_z}
use Rattle.pg_notes.proofs.Kept.{heights_are}
use Rattle.pg_notes.proofs.sums.NoteSums.height.Goals as goal

pub returns-clause-sums : goal.returns-clause-sums
returns-clause-sums c = λ items are.
    let same : to_z w64 c.taken.result ≡ pos c.taken.result = search rules in
    same ∙ (ap pos c.taken.ensures.value
    ∙ heights_are items c.args.style.now.classes c.args.self.now.sums c.taken.ensures.range.each are.sums_are)
