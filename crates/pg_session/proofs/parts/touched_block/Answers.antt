use Rattle.std.proofs.Common.{◌∙◌, ap, ℕ}
use Rattle.std.specs.Prelude.{min}
use Rattle.pg_list.specs.GalleyValue.{GalleyValue}
use Rattle.pg_list.specs.Places.{tail}
use Rattle.pg_session.proofs.parts.touched_block.Goals as goal

pub returns : goal.returns
returns c old same is = c.min-2.ensures
    ∙ ap (min c.args.edit.now.at) (c.min.ensures
    ∙ (ap (λ (n : ℕ). min n c.tail.result) same
    ∙ ap (min (tail old.blocks)) (c.tail.ensures ∙ ap (λ (g : GalleyValue). tail g.blocks) is)))
