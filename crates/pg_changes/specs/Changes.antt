-- Changes of one number under which a galley has a legal pagination.
use Rattle.std.specs.Prelude.{◌≡◌, ◌<◌, ◌^◌, ℕ, Bool, true, List, IfSome}
use Rattle.std.specs.List.{AllByRecursion}
use Rattle.pg_list.specs.GalleyValue.{GalleyValue}
use Rattle.pg_style.specs.Ranges.{IsStyle}
use Rattle.pg_style.specs.Values.{StyleValue}
use Rattle.pg_plan.specs.declared.pages.Pagination.{Pagination}
use Rattle.pg_rules.specs.Legal.{Legal}
use Rattle.pg_furthest.specs.Pages.{TellsLegal}
use Rattle.pg_changes.specs.Numbers.{IsNamed, step_back, with_number}
use Rattle.pg_changes.specs.declared.change.Change.{Change}
use Rattle.pg_changes.specs.declared.pairs.Pair.{Pair}
use Rattle.pg_changes.specs.declared.helping.Helping.{Helping}
use Rattle.pg_changes.specs.declared.number.Number.{Number}
use Rattle.pg_changes.specs.declared.number.Number.TheVariants.{Tolerance, Looseness, LeastText}

-- some pagination is legal
abbrev pub SomeLegal : GalleyValue → StyleValue → Type 0
SomeLegal galley style = (plan : Pagination) × Legal galley style plan

-- none is
abbrev pub NoneLegal : GalleyValue → StyleValue → Type 0
NoneLegal galley style = (plan : Pagination) → Legal galley style plan → ⊥

-- what is told of a value that a number may have: whether something is legal under it
pub record TellsValue (galley : GalleyValue) (style : StyleValue) (number : Number) (value : ℕ) (is : Bool) : Type 0
  where
    pub range : IsStyle (with_number style number value)
    pub legal : TellsLegal galley (with_number style number value) is

-- the number is one of the style, and may have the value; under it something is legal; and where it is told as the least,
-- nothing is under the next value back
pub record Helps (galley : GalleyValue) (style : StyleValue) (it : Change) : Type 0 where
  pub named : IsNamed style it.number
  pub range : IsStyle (with_number style it.number it.value)
  pub some : SomeLegal galley (with_number style it.number it.value)
  pub least : it.is_least ≡ true → NoneLegal galley (with_number style it.number (step_back it.number it.value))

-- each of these changes helps
abbrev pub AllHelp : GalleyValue → StyleValue → List Change → Type 0
AllHelp galley style changes = AllByRecursion (Helps galley style) changes

-- both numbers are of the style, and under both changes something is legal
pub record HelpTogether (galley : GalleyValue) (style : StyleValue) (it : Pair) : Type 0 where
  pub one_named : IsNamed style it.one.number
  pub other_named : IsNamed style it.other.number
  pub some : SomeLegal galley
      (with_number (with_number style it.one.number it.one.value) it.other.number it.other.value)

-- each change helps, and two do together, if two are told
pub record AreHelping (galley : GalleyValue) (style : StyleValue) (it : Helping) : Type 0 where
  pub changes : AllHelp galley style it.changes.items
  pub together : IfSome it.together (HelpTogether galley style)

-- ---- least changes

-- a least tolerance is the least of all
abbrev pub LeastTolerances : GalleyValue → StyleValue → Type 0
LeastTolerances galley style = (it : Change) (tolerance : ℕ) → Helps galley style it → it.number ≡ Tolerance →
    it.is_least ≡ true → tolerance < it.value → NoneLegal galley (with_number style Tolerance tolerance)

-- so is a least looseness
abbrev pub LeastLoosenesses : GalleyValue → StyleValue → Type 0
LeastLoosenesses galley style = (it : Change) (looseness : ℕ) → Helps galley style it → it.number ≡ Looseness →
    it.is_least ≡ true → looseness < it.value → NoneLegal galley (with_number style Looseness looseness)

-- so is a least count of floats at the top of a text, at its bottom, and in a column without text
abbrev pub LeastCounts : Number → GalleyValue → StyleValue → Type 0
LeastCounts number galley style = (it : Change) (count : ℕ) → Helps galley style it → it.number ≡ number →
    it.is_least ≡ true → count < it.value → NoneLegal galley (with_number style number count)

-- where a text may be lower, no greater height of it helps
abbrev pub GreatestTexts : GalleyValue → StyleValue → Type 0
GreatestTexts galley style = (it : Change) (text : ℕ) → Helps galley style it → it.number ≡ LeastText →
    it.is_least ≡ true → it.value < text → text < 2 ^ 30 → NoneLegal galley (with_number style LeastText text)
