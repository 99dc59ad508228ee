use Rattle.std.proofs.Common.{rules, ◌∙◌, ap, true, w64}
use Rattle.std.proofs.lemmas.Int.{to_z-of_z}
use Rattle.pg_rules.specs.Floats.{floats}
use Rattle.pg_rules.specs.Room.{checked_height}
use Rattle.pg_style.specs.Values.{StyleValue}
use Rattle.pg_pages.proofs.seats.wide_area.Goals as goal

pub returns : goal.returns
returns c = λ blocks those are.
    to_z-of_z w64 c.area_height.result (record { sfits = search rules }) ∙ c.area_height.ensures blocks those are
    ∙ ap (λ (style : StyleValue). checked_height (floats blocks those) true style.wide c.args.placed.now
    c.args.counts.now) c.style.view_is
