-- The shows of a script, and how many steps they may take.
use Rattle.std.specs.Prelude.{◌≡◌, ℕ, ◌+◌, ◌≤◌, min, nat_le, List, [], ◌∷◌, take, Option, Some, None}
use Rattle.std.specs.List.{count_by}
use Rattle.pg_list.specs.GalleyValue.{GalleyValue}
use Rattle.pg_list.specs.declared.galley.Edit.{Edit}
use Rattle.pg_plan.specs.declared.states.Label.{Label}
use Rattle.pg_style.specs.Values.{StyleValue}
use Rattle.pg_rules.specs.Frontier.{Frontier}
use Rattle.pg_rules.specs.Reach.{touched}
use Rattle.pg_edits.specs.declared.fault.EditFault.{EditFault}
use Rattle.pg_edits.specs.declared.script.ScriptStep.{ScriptStep}
use Rattle.pg_edits.specs.declared.script.ScriptStep.TheVariants.{Change, Show as Shows}
use Rattle.pg_session.specs.Edits.{edit_fault, edited}
use Rattle.pg_session.specs.SessionValue.{SessionValue}
use Rattle.pg_session.specs.Reached.{HaveReach}
use Rattle.pg_session.specs.Sessions.{above_all}

-- a galley as it is at some point of a script, and the block that was touched since it was shown last
pub record Show : Type 0 where
  pub galley : GalleyValue
  pub touched : ℕ

-- the same behind an edit, and behind a show
abbrev pub after_edit : Show → Edit → Show
after_edit show edit = record {
  galley = edited show.galley edit;
  touched = min show.touched (touched show.galley.blocks edit);
}

abbrev pub after_show : Show → Show
after_show show = record { galley = show.galley; touched = above_all }

-- the galley of a session as it stands
abbrev pub show_of : SessionValue → Show
show_of session = record { galley = session.galley; touched = session.touched }

-- a galley that was not shown yet
abbrev pub unseen : GalleyValue → Show
unseen galley = record { galley = galley; touched = 0 }

-- these shows, where there is no fault
abbrev pub unless_refused : Option EditFault → List Show → List Show
unless_refused None shown = shown
unless_refused (Some fault) shown = []

-- the shows from some point of a script on; the first edit that is refused ends it
abbrev pub shows_from : Show → StyleValue → List ScriptStep → List Show
shows_from at style [] = []
shows_from at style (Change edit ∷ steps) =
    unless_refused (edit_fault at.galley style edit) (shows_from (after_edit at edit) style steps)
shows_from at style (Shows ∷ steps) = at ∷ shows_from (after_show at) style steps

-- the shows of a script
abbrev pub shows : GalleyValue → StyleValue → List ScriptStep → List Show
shows galley style steps = shows_from (unseen galley) style steps

-- a command without a script shows its galley once
abbrev pub one_show : GalleyValue → List Show
one_show galley = unseen galley ∷ []

-- ---- steps

-- the number of a show: how many labels of its frontier have a reach of at least its touched block
pub record Counts (style : StyleValue) (show : Show) (number : ℕ) : Type 0 where
  pub labels : List Label
  pub frontier : Frontier show.galley style labels
  pub reach : Label → ℕ
  pub reaches : HaveReach show.galley style labels reach
  pub number_is : number ≡ count_by (λ (label : Label). nat_le show.touched (reach label)) labels

-- one number for each show, and their sum
abbrev pub SumsTo : StyleValue → List Show → ℕ → Type 0
SumsTo style [] total = total ≡ 0
SumsTo style (show ∷ rest) total = (n k : ℕ) × (Counts style show n × SumsTo style rest k × (total ≡ n + k))

-- the steps rose by at most the sum of the numbers of these shows
pub record AreAllCounted (style : StyleValue) (shown : List Show) (before after : ℕ) : Type 0 where
  pub total : ℕ
  pub sums : SumsTo style shown total
  pub bounded : after ≤ before + total

-- the steps rose by at most the sum of the numbers of the first of these shows; a script that fails early has not come
-- to the others
pub record AreCounted (style : StyleValue) (shown : List Show) (before after : ℕ) : Type 0 where
  pub count : ℕ
  pub firsts : AreAllCounted style (take count shown) before after
