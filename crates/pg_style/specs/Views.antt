-- The fields of a style as its value.
use Rattle.pg_style.specs.Values.{StyleValue}
use Rattle.pg_style.specs.declared.style.Style.TheInside.{Inside}

-- a style as callers see it
abbrev pub style_of : Inside → StyleValue
style_of a = record {
  version = a.version;
  columns = a.columns;
  first = a.first;
  height = a.height;
  topskip = a.topskip;
  maxdepth = a.maxdepth;
  min_text = a.min_text;
  tolerance = a.tolerance;
  line = a.line;
  max_looseness = a.max_looseness;
  runs = a.runs;
  top = a.top;
  bottom = a.bottom;
  wide = a.wide;
  float_column = a.float_column;
  classes = a.classes;
  fitness = a.fitness;
  ragged = a.ragged;
}
