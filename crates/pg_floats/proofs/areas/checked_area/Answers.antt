use Rattle.std.proofs.Common.{rules, ap, sym, ◌∙◌, Bool, ℤ, pos, Option, w64}
use Rattle.std.specs.Prelude.{unwrap_or}
use Rattle.std.proofs.lemmas.Int.{to_z-of_z}
use Rattle.pg_rules.specs.Floats.{floats}
use Rattle.pg_rules.specs.Room.{checked_height}
use Rattle.pg_floats.proofs.Heights.{height_is}
use Rattle.pg_floats.proofs.areas.checked_area.Goals as goal

pub returns : goal.returns
returns c = λ blocks style are. to_z-of_z w64 c.unwrap_or.result (record { sfits = search rules })
    ∙ (c.unwrap_or.ensures ∙ (ap (λ (o : Option ℤ). unwrap_or o (pos 0)) (c.area.ensures blocks style are)
    ∙ (height_is (floats blocks style) c.args.rule.now c.args.placed.now c.args.counts.now
    ∙ ap (λ (b : Bool). checked_height (floats blocks style) b c.args.rule.now c.args.placed.now c.args.counts.now)
    (sym c.if-not-is_allowed.false))))
