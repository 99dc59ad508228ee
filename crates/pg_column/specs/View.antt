-- What contracts see of what is kept along a span.
use Rattle.std.specs.Prelude.{◌≡◌}
use Rattle.pg_style.specs.Values.{StyleValue}
use Rattle.pg_column.specs.declared.walked.Walked.{Walked}
use Rattle.pg_column.specs.Judged.{Walked as WalkedValue}

-- the sums, the notes and the breaks, without the counts of items
abbrev pub view : Walked → WalkedValue
view w = record { totals = w.sums.totals; notes = w.notes.sums; passes = w.passes }

-- kept for this style
pub record IsFor (style : StyleValue) (w : Walked) : Type 0 where
  pub topskip : w.sums.topskip ≡ style.topskip
  pub maxdepth : w.sums.maxdepth ≡ style.maxdepth
