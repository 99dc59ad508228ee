-- What contracts see of what is kept.
use Rattle.std.specs.Prelude.{◌≡◌, Option, Some, None}
use Rattle.pg_style.specs.Values.{StyleValue}
use Rattle.pg_column.specs.Passed.{Passed as PassedValue}
use Rattle.pg_hops.specs.declared.passed.Passed.{Passed}

-- the sums, the notes and the bound
abbrev pub view : Passed → PassedValue
view p = record { totals = p.sums.totals; notes = p.notes.sums; bound = p.bound }

-- of what may not be there
abbrev pub views : Option Passed → Option PassedValue
views None = None
views (Some p) = Some (view p)

-- kept for this style
pub record IsFor (style : StyleValue) (p : Passed) : Type 0 where
  pub topskip : p.sums.topskip ≡ style.topskip
  pub maxdepth : p.sums.maxdepth ≡ style.maxdepth
