-- The bounds in the form of their contracts.
use Rattle.std.proofs.Common.{sym, subst, ℕ, ◌+◌, ◌*◌, ◌≤◌, [], ◌∷◌, length}
use Rattle.std.specs.Prelude.{◌==◌, if◌then◌else◌, nat_abs, ℤ}
use Rattle.std.specs.List.{AllByRecursion}
use Rattle.pg_list.specs.GalleyValue.{GalleyValue}
use Rattle.pg_list.specs.Shapes.{IsBlock}
use Rattle.pg_list.specs.declared.galley.Place.{Place}
use Rattle.pg_style.specs.Values.{StyleValue}
use Rattle.pg_list.specs.Flat.{blocks_at}
use Rattle.pg_rules.specs.ColumnRules.{column_variants}
use Rattle.pg_rules.specs.Follow.{age_in, context_in}
use Rattle.pg_rules.specs.IsState.{IsState}
use Rattle.pg_rules.specs.Legal.{added, document}
use Rattle.pg_rules.specs.States.{state_at}
use Rattle.pg_rules.specs.Ranges.{AreInRange}
use Rattle.law_columns.specs.BoundLaws.{ColumnsCostLittle, StatesLeadToStates}
use Rattle.law_columns.proofs.Owned.{own_next, own_start}
use Rattle.law_columns.proofs.Prices.{cost_few, picked_limits}
use Rattle.pg_lemmas.proofs.Lists.{all_drop}

module _ (g : GalleyValue) (s : StyleValue) (range : AreInRange g s) where
  pub start_is_state : IsState (document g s) (state_at (document g s) [])
  start_is_state = own_start (document g s) range.blocks range.style_in

  pub states_lead : StatesLeadToStates g s
  states_lead = own_next (document g s) range.blocks range.style_in

  pub columns_cost : ColumnsCostLittle g s
  columns_cost u m v c f =
      subst (λ (z : ℤ). nat_abs z ≤ 700000000
      + 100000000 * (length (column_variants (context_in (document g s) u m))
      + length (added (document g s) u.placed m))) (sym f.pays)
      (cost_few (context_in (document g s) u m) range.style_in u.column u.fitness (age_in (document g s) u)
      (added (document g s) u.placed m)
      (picked_limits (blocks_at g.blocks m.column.from) m.column.picks (limits m.column.from)))
    where
      limits : (at : Place) → AllByRecursion IsBlock (blocks_at g.blocks at)
      limits at = all_drop IsBlock (if at.index == 0 then at.block else at.block + 1) g.blocks range.blocks
