use Rattle.std.proofs.Common.{ap, sym, ◌∙◌}
use Rattle.pg_rules.specs.NoWorse.{are_same_counts}
use Rattle.law_columns.proofs.Simulation.{counts_refl}
use Rattle.pg_states.proofs.comparing.has_same_placed.Goals as goal

pub returns-then-has_surely_same_placed : goal.returns-then-has_surely_same_placed
returns-then-has_surely_same_placed c =
    sym (ap (are_same_counts c.args.a.now.placed)
    (sym (c.has_surely_same_placed.ensures c.if-has_surely_same_placed.true))
    ∙ counts_refl c.args.a.now.placed)
