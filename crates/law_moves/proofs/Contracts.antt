-- The laws in the form of their contracts.
use Rattle.pg_list.specs.GalleyValue.{GalleyValue}
use Rattle.pg_style.specs.Values.{StyleValue}
use Rattle.pg_rules.specs.Legal.{document}
use Rattle.pg_rules.specs.Ranges.{AreInRange}
use Rattle.law_moves.specs.Laws.{ListedAreMoves, ReachIsCeiling, StatesAreTested}
use Rattle.law_places.proofs.Members.{among_contains}
use Rattle.law_moves.proofs.Ceilings.{reach_ceiling}
use Rattle.law_moves.proofs.StateTest.{state_test, test_state}
use Rattle.law_moves.proofs.Listed.{listed_are_moves}

pub states_tested : (galley : GalleyValue) (style : StyleValue) → StatesAreTested galley style
states_tested galley style u = (test_state (document galley style) u, state_test (document galley style) u)

module _ (galley : GalleyValue) (style : StyleValue) (range : AreInRange galley style) where
  pub listed_moves : ListedAreMoves galley style
  listed_moves u ceiling ends own is_ceiling are =
      listed_are_moves (document galley style) u range.blocks own ceiling is_ceiling ends
      (λ layout a. are layout (among_contains _ layout a))

  pub reach_is_ceiling : ReachIsCeiling galley style
  reach_is_ceiling u own = reach_ceiling (document galley style) range.blocks range.style_in u own
