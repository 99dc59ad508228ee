use Rattle.std.proofs.Common.{rules, ap, ◌∙◌, ◌≡◌, w64}
use Rattle.std.proofs.lemmas.Int.{to_z-of_z}
use Rattle.pg_style.specs.Values.{AreaRuleValue}
use Rattle.pg_rules.specs.Floats.{floats}
use Rattle.pg_rules.specs.Room.{checked_height}
use Rattle.pg_judge.proofs.added.wide_area.Goals as goal

pub returns : goal.returns
returns c = λ blocks are.
    let own : c.style.inside.wide ≡ c.args.style.now.wide = search rules in
    to_z-of_z w64 c.checked_area.result (record { sfits = search rules })
    ∙ (c.checked_area.ensures blocks c.args.style.now are
    ∙ ap (λ (rule : AreaRuleValue). checked_height (floats blocks c.args.style.now) c.args.is_allowed rule
    c.args.placed.now c.args.counts.now) own)
