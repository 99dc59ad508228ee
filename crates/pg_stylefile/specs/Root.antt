-- What the root table of a style file says, key by key in the order in which faults are told.
use Rattle.std.specs.Prelude.{◌≡◌, ◌==◌, ℕ, ◌^◌, ◌-◌, ◌≤◌, nat_le, ℤ, pos, ◌≤ℤ◌, if◌then◌else◌, List, length, codes}
use Rattle.std.specs.Prelude.{Option, None, Result, Ok, Err}
use Rattle.toml.specs.Data.{Members}
use Rattle.toml.specs.View.{table_view}
use Rattle.pg_style.specs.Ranges.{IsLength, IsFoot, AreDemerits, max_columns}
use Rattle.pg_scaled.specs.Ranges.{IsScaled}
use Rattle.pg_stylefile.specs.declared.fault.TableName.{TableName}
use Rattle.pg_stylefile.specs.declared.fault.StyleKind.TheVariants.{NoRun, OutOfRange}
use Rattle.pg_stylefile.specs.declared.fault.StyleFault.{StyleFault}
use Rattle.pg_stylefile.specs.declared.root.Head.{Head}
use Rattle.pg_stylefile.specs.declared.root.Lengths.{Lengths}
use Rattle.pg_stylefile.specs.declared.root.Limits.{Limits}
use Rattle.pg_stylefile.specs.declared.root.Subtables.{Subtables}
use Rattle.pg_stylefile.specs.Faults.{fault_at, ◌>>=◌}
use Rattle.pg_stylefile.specs.Values.{whole_of, dimension_of, length_of, first_of, table_of, tables_of, tables_in}
use Rattle.pg_stylefile.specs.Keys.{keyed, keyed_if_any, absent, tables_if_any}

-- version 1 knows no fitness
unfoldable pub no_fitness_yet : TableName → ℕ → Members → Result (Unit {0}) StyleFault
no_fitness_yet table_name version members = if version == 1 then absent table_name (codes "fitness") members else Ok tt

-- versions 1 and 2 know no ragged texts
unfoldable pub no_ragged_yet : TableName → ℕ → Members → Result (Unit {0}) StyleFault
no_ragged_yet table_name version members = if version == 3 then Ok tt else absent table_name (codes "ragged") members

unfoldable pub head_of : TableName → Members → Result Head StyleFault
head_of table_name members = do
  version ← keyed table_name (codes "version") (whole_of 1 3) members
  _ ← no_fitness_yet table_name version members
  _ ← no_ragged_yet table_name version members
  columns ← keyed table_name (codes "columns") (whole_of 1 max_columns) members
  first ← keyed table_name (codes "first") first_of members
  Ok (record { version = version; columns = columns; first = first })

pub record IsHead (head : Head) : Type 0 where
  pub version_from : 1 ≤ head.version
  pub version_to : head.version ≤ 3
  pub columns_from : 1 ≤ head.columns
  pub columns_to : head.columns ≤ max_columns

unfoldable pub lengths_of : TableName → Members → Result Lengths StyleFault
lengths_of table_name members = do
  height ← keyed table_name (codes "height") (dimension_of (pos 1) (pos (2 ^ 30 - 1))) members
  topskip ← keyed table_name (codes "topskip") length_of members
  maxdepth ← keyed table_name (codes "maxdepth") length_of members
  min_text ← keyed table_name (codes "min_text") length_of members
  Ok (record { height = height; topskip = topskip; maxdepth = maxdepth; min_text = min_text })

pub record AreLengths (lengths : Lengths) : Type 0 where
  pub height_from : pos 1 ≤ℤ lengths.height
  pub height_to : IsScaled lengths.height
  pub topskip_in : IsLength lengths.topskip
  pub maxdepth_in : IsLength lengths.maxdepth
  pub min_text_in : IsLength lengths.min_text

unfoldable pub fitness_of : TableName → ℕ → Members → Result ℕ StyleFault
fitness_of table_name version members = if version == 1 then Ok 0 else keyed table_name (codes "fitness")
    (whole_of 0 100000000) members

unfoldable pub ragged_of : TableName → ℕ → Members → Result (Option ℤ) StyleFault
ragged_of table_name version members = if version == 3 then keyed_if_any table_name (codes "ragged")
    (dimension_of (pos 1) (pos (2 ^ 30 - 1))) members else Ok None

unfoldable pub limits_of : TableName → ℕ → Members → Result Limits StyleFault
limits_of table_name version members = do
  tolerance ← keyed table_name (codes "tolerance") (whole_of 0 10000) members
  line ← keyed table_name (codes "line") (whole_of 0 10000) members
  max_looseness ← keyed table_name (codes "max_looseness") (whole_of 0 100) members
  fitness ← fitness_of table_name version members
  ragged ← ragged_of table_name version members
  Ok (record { tolerance = tolerance; line = line; max_looseness = max_looseness; fitness = fitness; ragged = ragged })

pub record AreLimits (version : ℕ) (limits : Limits) : Type 0 where
  pub tolerance_in : limits.tolerance ≤ 10000
  pub line_in : limits.line ≤ 10000
  pub looseness_in : limits.max_looseness ≤ 100
  pub fitness_in : AreDemerits limits.fitness
  pub no_fitness : version ≡ 1 → limits.fitness ≡ 0
  pub ragged_in : IsFoot limits.ragged
  pub no_ragged : version ≤ 2 → limits.ragged ≡ None

abbrev pub few_runs : TableName → List Members → Result (List Members) StyleFault
few_runs table_name tables =
    if length tables == 0 then Err (fault_at NoRun table_name (codes "runs"))
    else if nat_le (length tables) 5 then Ok tables
    else Err (fault_at OutOfRange table_name (codes "runs"))

-- one to five runs
unfoldable pub run_tables : TableName → Members → Result (List Members) StyleFault
run_tables table_name members = keyed table_name (codes "runs") tables_of members >>= few_runs table_name

abbrev pub most_classes : ℕ → ℕ
most_classes version = if version == 1 then 4 else 8

-- at most four classes, or eight from version 2 on
unfoldable pub class_tables : TableName → ℕ → Members → Result (List Members) StyleFault
class_tables table_name version members = do
  tables ← tables_if_any table_name (codes "classes") members
  if nat_le (length tables) (most_classes version) then Ok tables else Err (fault_at OutOfRange table_name (codes "classes"))

-- the tables within the root table
pub record SubtablesValue : Type 0 where
  pub runs : List Members
  pub top : Members
  pub bottom : Members
  pub wide : Members
  pub float_column : Members
  pub classes : List Members

abbrev pub subtables_view : Subtables → SubtablesValue
subtables_view subtables = record {
  runs = tables_in subtables.runs.values.now;
  top = table_view subtables.top.now;
  bottom = table_view subtables.bottom.now;
  wide = table_view subtables.wide.now;
  float_column = table_view subtables.float_column.now;
  classes = tables_in subtables.classes.values.now;
}

unfoldable pub subtables_of : TableName → ℕ → Members → Result SubtablesValue StyleFault
subtables_of table_name version members = do
  runs ← run_tables table_name members
  top ← keyed table_name (codes "top") table_of members
  bottom ← keyed table_name (codes "bottom") table_of members
  wide ← keyed table_name (codes "wide") table_of members
  float_column ← keyed table_name (codes "float_column") table_of members
  classes ← class_tables table_name version members
  Ok (record { runs = runs; top = top; bottom = bottom; wide = wide; float_column = float_column; classes = classes })

pub record AreSubtablesFew (version : ℕ) (subtables : Subtables) : Type 0 where
  pub some_runs : 1 ≤ length (tables_in subtables.runs.values.now)
  pub few_runs : length (tables_in subtables.runs.values.now) ≤ 5
  pub few_classes : length (tables_in subtables.classes.values.now) ≤ most_classes version
