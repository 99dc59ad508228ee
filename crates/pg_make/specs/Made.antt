-- The style of the generator's galleys.
use Rattle.std.specs.Prelude.{ℕ, ◌*◌, ℤ, pos, neg_ℤ, List, [], ◌∷◌, None}
use Rattle.pg_style.specs.declared.style.First.TheVariants.{Left}
use Rattle.pg_style.specs.declared.style.Area.TheVariants as area
use Rattle.pg_style.specs.declared.style.Run.{Run}
use Rattle.pg_style.specs.declared.style.Class.{Class}
use Rattle.pg_style.specs.declared.style.Kind.TheVariants.{Note, Float}
use Rattle.pg_style.specs.Plain.{no_area, rigid}
use Rattle.pg_style.specs.Values.{StyleValue}

-- whole points, 65536 scaled points each
abbrev pub points : ℕ → ℤ
points n = pos (n * 65536)

abbrev pub made_runs : List Run
made_runs = record { extra = points 0; demerits = 0 } ∷ record { extra = points 12; demerits = 1000 } ∷ record { extra = neg_ℤ (points 12); demerits = 1000 } ∷ []

abbrev pub made_floats : Class
made_floats = record { number = 100; kind = Float area.Top (0 ∷ 500 ∷ 2000 ∷ []) }

abbrev pub made_notes : Class
made_notes = record { number = 200; kind = Note (rigid (points 12)) (points 200) }

abbrev pub made_classes : List Class
made_classes = made_floats ∷ made_notes ∷ []

-- one column of 550 points, floats at the top, notes, and spreads that run long or short
abbrev pub made_style : StyleValue
made_style = record {
  version = 1;
  columns = 1;
  first = Left;
  height = points 550;
  topskip = points 10;
  maxdepth = points 4;
  min_text = points 100;
  tolerance = 10000;
  line = 10;
  max_looseness = 1;
  runs = made_runs;
  top = record { count = 2; sep = rigid (points 12); gap = rigid (points 20) };
  bottom = no_area;
  wide = no_area;
  float_column = record { count = 2; demerits = 5000 };
  classes = made_classes;
  fitness = 0;
  ragged = None;
}
