use Rattle.std.proofs.Common.{◌≡◌, ◌∙◌, ap}
use Rattle.pg_style.specs.Values.{AreaRuleValue}
use Rattle.pg_rules.specs.Floats.{gap_shrink, gap_stretch}
use Rattle.law_columns.proofs.Gives.{shrink_part, stretch_part}
use Rattle.pg_walk.proofs.Gives.{few_area}
use Rattle.pg_walk.proofs.give.full_give.Goals as goal

pub returns-clause-size : goal.returns-clause-size
returns-clause-size c =
    let rule = c.args.rule.now in
    let full : c.from.result ≡ rule.count = c.from.ensures ∙ ap (λ (r : AreaRuleValue). r.count) c.rule.view_is in (
      few_area gap_stretch stretch_part rule c.requires c.from.result full c.area_give.result.stretch
          c.area_give.ensures.stretch,
      few_area gap_shrink shrink_part rule c.requires c.from.result full c.area_give.result.shrink
          c.area_give.ensures.shrink,
    )
