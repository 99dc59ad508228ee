use Rattle.std.proofs.Common.{rules, ◌∙◌, w64}
use Rattle.std.proofs.lemmas.Int.{to_z-of_z}
use Rattle.pg_rules.specs.Floats.{floats, has_all}
use Rattle.pg_pages.proofs.Printed.{height_none, height_some}
use Rattle.pg_pages.proofs.seats.area_height.Goals as goal

pub returns-in-Some : goal.returns-in-Some
returns-in-Some c = λ blocks style are.
    to_z-of_z w64 c.in-Some.height (record { sfits = search rules })
    ∙ height_some (has_all (floats blocks style) c.args.before.now c.args.counts.now) _ c.in-Some.height
    (c.in-Some.ensures blocks style are)

pub returns-in-None : goal.returns-in-None
returns-in-None c = λ blocks style are.
    height_none (has_all (floats blocks style) c.args.before.now c.args.counts.now) _ (c.in-None.ensures blocks style are)
