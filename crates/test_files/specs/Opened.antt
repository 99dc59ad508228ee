-- What the files of a shelf say.
use Rattle.std.specs.Prelude.{◌≡◌, ℕ, List, Option, Some, None, Ok}
use Rattle.pg_list.specs.GalleyValue.{GalleyValue}
use Rattle.pg_outside.specs.Outside.{Held}
use Rattle.pg_showbox.specs.Reading.{galley_of}
use Rattle.pg_style.specs.Values.{StyleValue}
use Rattle.pg_stylefile.specs.Style.{style_of_text}

-- the galley of a file, where the shelf tells its bytes
abbrev pub IsGalleyOf : Option Held → List ℕ → Option ℕ → GalleyValue → Type 0
IsGalleyOf None name wrap galley = Unit {0}
IsGalleyOf (Some held) name wrap galley = (bytes : List ℕ) × (held name ≡ Some bytes) × (galley_of bytes wrap ≡ Ok galley)

-- the style of a file, where the shelf tells its bytes
abbrev pub IsStyleOf : Option Held → List ℕ → StyleValue → Type 0
IsStyleOf None name style = Unit {0}
IsStyleOf (Some held) name style = (bytes : List ℕ) × (held name ≡ Some bytes) × (style_of_text bytes ≡ Ok style)
