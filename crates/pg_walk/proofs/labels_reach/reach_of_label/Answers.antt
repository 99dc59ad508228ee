use Rattle.std.proofs.Common.{◌∙◌, ◌<◌, ap, sym, arith, ℕ, length}
use Rattle.std.specs.Prelude.{max}
use Rattle.pg_rules.specs.Legal.{document}
use Rattle.law_walk.specs.Walk.{variants_at}
use Rattle.pg_walk.proofs.Greatest.{some_items, some_picks}
use Rattle.pg_walk.proofs.labels_reach.reach_of_label.Goals as goal

pub returns : goal.returns
returns c = λ style top told.
    let e = c.args.label.now in
    let there = some_items c.variants_at.result.now (sym c.is_empty.ensures ∙ c.if-is_empty.false) in
    let same = ap length c.variants_at.ensures.variants in
    let some : 0 < length (variants_at c.args.galley.now.blocks e.state.block) = omega (arith, there, same) in
    c.max.ensures ∙ (ap (λ (n : ℕ). max c.args.least n) c.saturating_sub.ensures
    ∙ some_picks (document c.args.galley.now style) top e told c.args.least some)
