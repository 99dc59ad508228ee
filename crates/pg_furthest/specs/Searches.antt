-- A galley under a style with the labels of all its pages.
use Rattle.std.specs.Prelude.{◌≡◌, ◌^◌, ◌≤◌, List, None, Result, Ok, Err}
use Rattle.pg_floats.specs.AreFloats.{AreFloats, MakesList, float_total, unknown_class}
use Rattle.pg_floats.specs.FloatsValue.{ClassFloatsValue}
use Rattle.pg_floats.specs.declared.fault.FloatFault.{FloatFault}
use Rattle.pg_list.specs.GalleyValue.{GalleyValue}
use Rattle.pg_plan.specs.declared.pages.PageMove.{PageMove}
use Rattle.pg_plan.specs.declared.states.State.{State}
use Rattle.pg_style.specs.Values.{StyleValue}
use Rattle.pg_rules.specs.Legal.{document}
use Rattle.pg_rules.specs.Ranges.{AreInRange}
use Rattle.law_space.specs.PageSpace.{page_meaning}
use Rattle.pg_table.specs.Label.{IsTable}
use Rattle.pg_table.specs.declared.table.Entry.{Entry}

-- what contracts see of it
pub record SearchValue : Type 0 where
  pub galley : GalleyValue
  pub style : StyleValue
  pub labels : List (Entry State PageMove)

-- the labels are those of the galley's pages
pub record IsSearch (galley : GalleyValue) (style : StyleValue) (floats : List ClassFloatsValue)
    (labels : List (Entry State PageMove)) : Type 0 where
  pub range : AreInRange galley style
  pub floats_are : AreFloats galley.blocks style floats
  pub filled : IsTable (page_meaning (document galley style)) labels

-- it is of this galley and style, where the style has all classes and the floats are not too many
pub record Searches (galley : GalleyValue) (style : StyleValue) (made : SearchValue) : Type 0 where
  pub galley_is : made.galley ≡ galley
  pub style_is : made.style ≡ style
  pub known : unknown_class galley.blocks style ≡ None
  pub few : float_total galley.blocks style ≤ 2 ^ 12

-- the search, or the refusals of the list of floats
abbrev pub MakesSearch : Result SearchValue FloatFault → GalleyValue → StyleValue → Type 0
MakesSearch (Ok made) galley style = Searches galley style made
MakesSearch (Err fault) galley style = MakesList (Err fault) galley.blocks style
