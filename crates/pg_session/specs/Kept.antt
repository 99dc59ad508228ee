-- What a session keeps beside what contracts see of it.
use Rattle.std.specs.Prelude.{◌≡◌, ℕ, ◌⊎◌, min, true, List}
use Rattle.pg_floats.specs.AreFloats.{AreFloats}
use Rattle.pg_floats.specs.FloatsValue.{ClassFloatsValue}
use Rattle.pg_hops.specs.Index.{AreHops}
use Rattle.pg_hops.specs.declared.index.Row.{Row}
use Rattle.pg_list.specs.GalleyValue.{GalleyValue}
use Rattle.pg_list.specs.declared.galley.Edit.{Edit}
use Rattle.pg_plan.specs.declared.pages.PageMove.{PageMove}
use Rattle.pg_plan.specs.declared.states.State.{State}
use Rattle.pg_style.specs.Values.{StyleValue}
use Rattle.pg_rules.specs.Frontier.{Frontier}
use Rattle.pg_rules.specs.Legal.{document}
use Rattle.pg_rules.specs.Ranges.{AreInRange}
use Rattle.pg_rules.specs.Reach.{touched}
use Rattle.law_space.specs.PageSpace.{page_meaning}
use Rattle.pg_table.specs.Below.{IsRightBelow}
use Rattle.pg_table.specs.Label.{IsTable}
use Rattle.pg_table.specs.declared.table.Entry.{Entry}
use Rattle.pg_session.specs.Edits.{edited}
use Rattle.pg_session.specs.SessionValue.{SessionValue}
use Rattle.pg_session.specs.Reached.{HaveReach}
use Rattle.pg_session.specs.Sessions.{above_all, label_reach}
use Rattle.pg_session.specs.declared.kept.Kept.{Kept}

-- what contracts see of these fields
abbrev pub seen : GalleyValue → StyleValue → List ClassFloatsValue → Kept → SessionValue
seen galley style floats kept = record {
  galley = galley;
  style = style;
  floats = floats;
  is_solved = kept.solved;
  labels = kept.labels;
  touched = kept.touched;
}

-- the table was filled from the touched block on, so that nothing is touched, and all else is as it was
pub record IsFilled (galley : GalleyValue) (style : StyleValue) (old new : Kept) : Type 0 where
  pub filled : IsTable (page_meaning (document galley style)) new.table
  pub is : new ≡ record old { table = new.table; touched = above_all }

-- the table is that of the galley as it stands, its labels in order are the frontier, each with its reach, and nothing is
-- touched
pub record IsKnown (galley : GalleyValue) (style : StyleValue) (kept : Kept) : Type 0 where
  pub filled : IsTable (page_meaning (document galley style)) kept.table
  pub frontier : Frontier galley style kept.labels
  pub reaches : HaveReach galley style kept.labels (label_reach galley style)
  pub solved : kept.solved ≡ true
  pub untouched : kept.touched ≡ above_all

-- the table is right below the touched block for the galley as it stands; below 0 nothing has to be right
abbrev pub IsRight : GalleyValue → StyleValue → Kept → Type 0
IsRight galley style kept = (kept.touched ≡ 0)
    ⊎ IsRightBelow (page_meaning (document galley style)) kept.touched kept.table

-- what is right below a block for a galley is right for the edited one below what the edit touches, too
abbrev pub StaysRight : GalleyValue → StyleValue → Edit → Type 0
StaysRight galley style edit = (block : ℕ) (table : List (Entry State PageMove)) →
    IsRightBelow (page_meaning (document galley style)) block table →
    IsRightBelow (page_meaning (document (edited galley edit) style)) (min block (touched galley.blocks edit)) table

-- the floats and the hops are the galley's, the table is right below the touched block, and where the session is solved all of it is
-- known
pub record IsSession (galley : GalleyValue) (style : StyleValue) (floats : List ClassFloatsValue)
    (rows : List Row) (kept : Kept) : Type 0 where
  pub range : AreInRange galley style
  pub floats_are : AreFloats galley.blocks style floats
  pub hops : AreHops galley.blocks style.maxdepth rows
  pub right : IsRight galley style kept
  pub known : kept.solved ≡ true → IsKnown galley style kept
