-- The style of a style file, or its first fault.
use Rattle.std.specs.Prelude.{◌≡◌, ℕ, ◌≤◌, ℤ, if◌then◌else◌, List, length, Result, Ok, Err}
use Rattle.std.specs.List.{AllByRecursion}
use Rattle.std.specs.Option.{ok_or}
use Rattle.std.specs.Str.{is_utf8}
use Rattle.toml.specs.Data.{Members}
use Rattle.toml.specs.Parse.{parse_document}
use Rattle.pg_style.specs.Ranges.{AreRuns, IsHeight, IsAreaRule, IsColumnRule, IsRigidArea}
use Rattle.pg_style.specs.Values.{StyleValue}
use Rattle.pg_stylefile.specs.declared.fault.TableName.TheVariants.{Root as AtRoot, Top, Bottom, Wide}
use Rattle.pg_stylefile.specs.declared.fault.StyleKind.TheVariants.{Toml}
use Rattle.pg_stylefile.specs.declared.fault.StyleFault.{StyleFault}
use Rattle.pg_stylefile.specs.declared.root.Head.{Head}
use Rattle.pg_stylefile.specs.declared.root.Lengths.{Lengths}
use Rattle.pg_stylefile.specs.declared.root.Limits.{Limits}
use Rattle.pg_stylefile.specs.declared.read.Areas.{Areas}
use Rattle.pg_stylefile.specs.declared.read.Root.{Root}
use Rattle.pg_stylefile.specs.declared.read.Rules.{Rules}
use Rattle.pg_stylefile.specs.Faults.{bare_fault, ◌>>=◌}
use Rattle.pg_stylefile.specs.Keys.{named}
use Rattle.pg_stylefile.specs.Root.{SubtablesValue, subtables_view, head_of, lengths_of, limits_of, subtables_of, IsHead}
use Rattle.pg_stylefile.specs.Root.{AreLengths, AreLimits, AreSubtablesFew}
use Rattle.pg_stylefile.specs.Tables.{runs_of, area_rule_of, column_rule_of, classes_of, AreClassesOf}

-- the root table, with its tables still to be read
pub record RootValue : Type 0 where
  pub head : Head
  pub lengths : Lengths
  pub limits : Limits
  pub subtables : SubtablesValue

abbrev pub root_view : Root → RootValue
root_view root =
    record { head = root.head; lengths = root.lengths; limits = root.limits; subtables = subtables_view root.subtables }

unfoldable pub root_of : Members → Result RootValue StyleFault
root_of members = do
  _ ← named AtRoot members
  head ← head_of AtRoot members
  lengths ← lengths_of AtRoot members
  limits ← limits_of AtRoot head.version members
  subtables ← subtables_of AtRoot head.version members
  Ok (record { head = head; lengths = lengths; limits = limits; subtables = subtables })

pub record IsRoot (root : Root) : Type 0 where
  pub head_in : IsHead root.head
  pub lengths_in : AreLengths root.lengths
  pub limits_in : AreLimits root.head.version root.limits
  pub subtables_few : AreSubtablesFew root.head.version root.subtables

-- the rules of the three areas
unfoldable pub areas_of : ℕ → SubtablesValue → Result Areas StyleFault
areas_of version subtables = do
  top ← area_rule_of version Top subtables.top
  bottom ← area_rule_of version Bottom subtables.bottom
  wide ← area_rule_of version Wide subtables.wide
  Ok (record { top = top; bottom = bottom; wide = wide })

pub record AreAreas (version : ℕ) (areas : Areas) : Type 0 where
  pub top_in : IsAreaRule areas.top
  pub bottom_in : IsAreaRule areas.bottom
  pub wide_in : IsAreaRule areas.wide
  pub rigid_top : version ≤ 2 → IsRigidArea areas.top
  pub rigid_bottom : version ≤ 2 → IsRigidArea areas.bottom
  pub rigid_wide : version ≤ 2 → IsRigidArea areas.wide

-- what the tables within the root table say, in the order of the root table's keys
unfoldable pub rules_of : ℕ → ℤ → SubtablesValue → Result Rules StyleFault
rules_of version height subtables = do
  runs ← runs_of height subtables.runs
  areas ← areas_of version subtables
  float_column ← column_rule_of subtables.float_column
  classes ← classes_of version subtables.classes
  Ok (record { runs = runs; areas = areas; float_column = float_column; classes = classes })

pub record AreRules (version : ℕ) (height : ℤ) (rules : Rules) : Type 0 where
  pub runs_in : AreRuns rules.runs
  pub heights_in : AllByRecursion (IsHeight height) rules.runs
  pub areas_in : AreAreas version rules.areas
  pub float_column_in : IsColumnRule rules.float_column
  pub classes_in : AreClassesOf version rules.classes
  pub few_classes : version ≡ 1 → length rules.classes ≤ 4

abbrev pub style_with : RootValue → Rules → StyleValue
style_with root rules = record {
  version = root.head.version;
  columns = root.head.columns;
  first = root.head.first;
  height = root.lengths.height;
  topskip = root.lengths.topskip;
  maxdepth = root.lengths.maxdepth;
  min_text = root.lengths.min_text;
  tolerance = root.limits.tolerance;
  line = root.limits.line;
  max_looseness = root.limits.max_looseness;
  runs = rules.runs;
  top = rules.areas.top;
  bottom = rules.areas.bottom;
  wide = rules.areas.wide;
  float_column = rules.float_column;
  classes = rules.classes;
  fitness = root.limits.fitness;
  ragged = root.limits.ragged;
}

-- the style of a root table
unfoldable pub style_of : Members → Result StyleValue StyleFault
style_of members = do
  root ← root_of members
  rules ← rules_of root.head.version root.lengths.height root.subtables
  Ok (style_with root rules)

-- the root table of a text
abbrev pub table_of_text : List ℕ → Result Members StyleFault
table_of_text text = if is_utf8 text then ok_or (parse_document text) (bare_fault Toml) else Err (bare_fault Toml)

-- the style that a text says, or its first fault
unfoldable pub style_of_text : List ℕ → Result StyleValue StyleFault
style_of_text text = table_of_text text >>= style_of
