-- The plain style, rigid gaps, and what gaps give.
use Rattle.std.specs.Prelude.{ℤ, pos, ◌+ℤ◌, [], ◌∷◌, None}
use Rattle.pg_style.specs.declared.style.First.TheVariants.{Single}
use Rattle.pg_style.specs.declared.style.Gap.{Gap}
use Rattle.pg_style.specs.declared.style.Give.{Give}
use Rattle.pg_style.specs.Values.{AreaRuleValue, StyleValue}

-- a gap that may be neither stretched nor shrunk
abbrev pub rigid : ℤ → Gap
rigid size = record { size = size; stretch = pos 0; shrink = pos 0 }

-- nothing is given
abbrev pub no_give : Give
no_give = record { stretch = pos 0; shrink = pos 0 }

-- what both give
abbrev pub plus_give : Give → Give → Give
plus_give a b = record { stretch = a.stretch +ℤ b.stretch; shrink = a.shrink +ℤ b.shrink }

-- an area that takes no float
abbrev pub no_area : AreaRuleValue
no_area = record { count = 0; sep = rigid (pos 0); gap = rigid (pos 0) }

-- one column of this height, any badness, no floats, no notes
abbrev pub plain : ℤ → StyleValue
plain height = record {
  version = 1;
  columns = 1;
  first = Single;
  height = height;
  topskip = pos 655360;
  maxdepth = pos 262144;
  min_text = pos 0;
  tolerance = 10000;
  line = 10;
  max_looseness = 0;
  runs = record { extra = pos 0; demerits = 0 } ∷ [];
  top = no_area;
  bottom = no_area;
  wide = no_area;
  float_column = record { count = 0; demerits = 1 };
  classes = [];
  fitness = 0;
  ragged = None;
}
