use Rattle.std.proofs.Common.{◌∙◌, ap, List, ℕ, length}
use Rattle.std.specs.Prelude.{nat_lt}
use Rattle.std.specs.List.{list_all}
use Rattle.pg_states.proofs.ages.are_within.Goals as goal

pub returns : goal.returns
returns c = c.are_below.ensures ∙ ap (λ (table : List ℕ). list_all (λ (age : ℕ). nat_lt age (length table))
    c.args.ages.now) c.table_of.ensures
