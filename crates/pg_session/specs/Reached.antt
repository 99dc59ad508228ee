-- How far columns behind labels may go.
use Rattle.std.specs.Prelude.{ℕ, List, Contains}
use Rattle.pg_list.specs.GalleyValue.{GalleyValue}
use Rattle.pg_plan.specs.declared.states.Label.{Label}
use Rattle.pg_style.specs.Values.{StyleValue}
use Rattle.pg_rules.specs.Legal.{document}
use Rattle.pg_rules.specs.Reach.{IsReach}

-- to each of these labels belongs the reach of its place
abbrev pub HaveReach : GalleyValue → StyleValue → List Label → (Label → ℕ) → Type 0
HaveReach galley style labels reach = (label : Label) → Contains labels label →
    IsReach (document galley style) label.state.place (reach label)
