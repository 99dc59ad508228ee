use Rattle.std.proofs.Common.{◌∙◌, ap, ℕ, length, ◌+◌}
use Rattle.std.specs.Prelude.{◌==◌, ◌&&◌, ◌||◌, nat_lt}
use Rattle.pg_lines.specs.Near.{forces, passes_at}
use Rattle.pg_lines.proofs.NearLaws.{forced_is}
use Rattle.pg_lines.proofs.near.is_forced.Goals as goal

pub returns : goal.returns
returns c = c.near_forced_at.ensures
    ∙ ap (λ (n : ℕ). (c.args.place == length c.args.items.now) || (passes_at forces c.args.items.now c.args.place && nat_lt (c.args.place + 1) n))
    c.requires.box_end
    ∙ forced_is c.args.items.now c.args.place
