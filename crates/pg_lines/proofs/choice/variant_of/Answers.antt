use Rattle.std.proofs.Common.{subst, sym, ◌<◌, ◌^◌}
use Rattle.std.specs.Prelude.{ℤ, nat_abs}
use Rattle.pg_lines.proofs.LineSizes.{demerits_small}
use Rattle.pg_lines.proofs.choice.variant_of.Goals as goal

pub demerits_beyond-requires-clause-way : goal.demerits_beyond-requires-clause-way
demerits_beyond-requires-clause-way c = subst (λ (z : ℤ). nat_abs z < 2 ^ 100) (sym c.requires.way.price)
    (demerits_small c.args.rule.now c.args.items.now c.args.way.now.ends.items c.requires.para c.requires.way.legal)

pub demerits_beyond-requires-clause-best : goal.demerits_beyond-requires-clause-best
demerits_beyond-requires-clause-best c = subst (λ (z : ℤ). nat_abs z < 2 ^ 100) (sym c.requires.best.price)
    (demerits_small c.args.rule.now c.args.items.now c.args.best.now.ends.items c.requires.para c.requires.best.legal)
