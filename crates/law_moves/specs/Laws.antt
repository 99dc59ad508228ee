-- What is listed, in the words of the contracts.
use Rattle.std.specs.Prelude.{ℕ, List, Contains, ◌≡◌, ◌↔◌, true}
use Rattle.pg_list.specs.GalleyValue.{GalleyValue}
use Rattle.pg_plan.specs.declared.states.State.{State}
use Rattle.pg_style.specs.Values.{StyleValue}
use Rattle.pg_rules.specs.Floats.{called}
use Rattle.pg_rules.specs.IsState.{IsState}
use Rattle.pg_rules.specs.Legal.{document}
use Rattle.pg_rules.specs.Room.{Document}
use Rattle.law_space.specs.PageSpace.{page_meaning}
use Rattle.pg_table.specs.Space.{AreMoves}
use Rattle.pg_column.specs.declared.end.End.{End}
use Rattle.pg_column.specs.Ends.{AreEnds}
use Rattle.pg_layouts.specs.declared.layout.Layout.{Layout}
use Rattle.pg_layouts.specs.Layouts.{text_layouts}
use Rattle.law_moves.specs.Listed.{beyond, listed_steps}
use Rattle.law_moves.specs.StateTest.{is_state}
use Rattle.law_moves.specs.Steps.{IsCeiling, text_room}

-- for each layout of a list its ends
abbrev pub AreEndsOf : Document → State → List ℕ → (Layout → List End) → Type 0
AreEndsOf doc u ceiling ends = (layout : Layout) → Contains (text_layouts doc u ceiling) layout →
    AreEnds doc u.place (text_room doc u layout) (ends layout)

-- the listed steps are the moves of a state, each once
abbrev pub ListedAreMoves : GalleyValue → StyleValue → Type 0
ListedAreMoves galley style = (u : State) (ceiling : List ℕ) (ends : Layout → List End) →
    IsState (document galley style) u → IsCeiling (document galley style) u ceiling →
    AreEndsOf (document galley style) u ceiling ends →
    AreMoves (page_meaning (document galley style)) u (listed_steps (document galley style) u ceiling ends)

-- the floats that are called below the reach of a state are a ceiling
abbrev pub ReachIsCeiling : GalleyValue → StyleValue → Type 0
ReachIsCeiling galley style = (u : State) → IsState (document galley style) u →
    IsCeiling (document galley style) u
    (called galley.blocks style (beyond (document galley style) u.place))

-- the test says of each value whether it is a state
abbrev pub StatesAreTested : GalleyValue → StyleValue → Type 0
StatesAreTested galley style = (u : State) →
    (is_state (document galley style) u ≡ true) ↔ IsState (document galley style) u
