-- What the tables of a style file say, key by key in the order in which faults are told.
use Rattle.std.specs.Prelude.{ℕ, ◌+◌, ◌^◌, ◌-◌, ◌≤◌, ℤ, pos, ◌-ℤ◌, is_some, if◌then◌else◌, List, [], ◌∷◌, codes, Result}
use Rattle.std.specs.Prelude.{Ok, Err}
use Rattle.toml.specs.Data.{Members}
use Rattle.pg_style.specs.declared.style.Run.{Run}
use Rattle.pg_style.specs.declared.style.Kind.{Kind}
use Rattle.pg_style.specs.declared.style.Kind.TheVariants as kind
use Rattle.pg_style.specs.declared.style.Class.{Class}
use Rattle.pg_style.specs.Classes.{class_in, inserted}
use Rattle.pg_style.specs.Ranges.{AreClasses, AreRigidClasses}
use Rattle.pg_style.specs.Values.{AreaRuleValue, ColumnRuleValue}
use Rattle.pg_stylefile.specs.declared.fault.TableName.{TableName}
use Rattle.pg_stylefile.specs.declared.fault.TableName.TheVariants as table_name
use Rattle.pg_stylefile.specs.declared.fault.StyleFault.{StyleFault}
use Rattle.pg_stylefile.specs.declared.fault.StyleKind.TheVariants.{DuplicateClass}
use Rattle.pg_stylefile.specs.declared.values.Sort.{Sort}
use Rattle.pg_stylefile.specs.declared.values.Sort.TheVariants as sort
use Rattle.pg_stylefile.specs.Faults.{fault_at, ◌>>=◌}
use Rattle.pg_stylefile.specs.Values.{whole_of, dimension_of, length_of, gap_of, area_of, sort_of, distance_of}
use Rattle.pg_stylefile.specs.Keys.{keyed, absent, named}

-- the rules of an area
unfoldable pub area_rule_of : ℕ → TableName → Members → Result AreaRuleValue StyleFault
area_rule_of version table_name members = do
  _ ← named table_name members
  count ← keyed table_name (codes "count") (whole_of 0 4) members
  sep ← keyed table_name (codes "sep") (gap_of version) members
  gap ← keyed table_name (codes "gap") (gap_of version) members
  Ok (record { count = count; sep = sep; gap = gap })

-- the rules of a column without text
unfoldable pub column_rule_of : Members → Result ColumnRuleValue StyleFault
column_rule_of members = do
  _ ← named table_name.FloatColumn members
  count ← keyed table_name.FloatColumn (codes "count") (whole_of 0 4) members
  demerits ← keyed table_name.FloatColumn (codes "demerits") (whole_of 1 100000000) members
  Ok (record { count = count; demerits = demerits })

-- what a run adds to pages of this height, so that they have a height that is a dimension above 0
unfoldable pub extra_at : ℤ → TableName → Members → Result ℤ StyleFault
extra_at height table_name members = keyed table_name (codes "extra")
    (dimension_of (pos 1 -ℤ height) (pos (2 ^ 30 - 1) -ℤ height)) members

-- a run of pages of this height
unfoldable pub run_of : ℤ → ℕ → Members → Result Run StyleFault
run_of height position members = do
  _ ← named (table_name.Run position) members
  extra ← extra_at height (table_name.Run position) members
  demerits ← keyed (table_name.Run position) (codes "demerits") (whole_of 0 100000000) members
  Ok (record { extra = extra; demerits = demerits })

-- the runs of these tables, the first of which stands at this position
abbrev pub runs_from : ℤ → ℕ → List Members → Result (List Run) StyleFault
runs_from height position [] = Ok []
runs_from height position (members ∷ tables) = run_of height position members
    >>= (λ run. runs_from height (position + 1) tables >>= (λ runs. Ok (run ∷ runs)))

unfoldable pub runs_of : ℤ → List Members → Result (List Run) StyleFault
runs_of height tables = runs_from height 0 tables

-- a class of notes
unfoldable pub note_of : ℕ → TableName → Members → Result Kind StyleFault
note_of version table_name members = do
  _ ← absent table_name (codes "area") members
  _ ← absent table_name (codes "distance") members
  skip ← keyed table_name (codes "skip") (gap_of version) members
  limit ← keyed table_name (codes "limit") length_of members
  Ok (kind.Note skip limit)

-- a class of floats
unfoldable pub float_of : TableName → Members → Result Kind StyleFault
float_of table_name members = do
  _ ← absent table_name (codes "limit") members
  _ ← absent table_name (codes "skip") members
  area ← keyed table_name (codes "area") area_of members
  distance ← keyed table_name (codes "distance") distance_of members
  Ok (kind.Float area distance)

abbrev pub kind_of : ℕ → Sort → TableName → Members → Result Kind StyleFault
kind_of version sort.Note table_name members = note_of version table_name members
kind_of version sort.Float table_name members = float_of table_name members

-- the class of a table
unfoldable pub class_of : ℕ → ℕ → Members → Result Class StyleFault
class_of version position members = do
  _ ← named (table_name.Class position) members
  number ← keyed (table_name.Class position) (codes "number") (whole_of 0 254) members
  sort ← keyed (table_name.Class position) (codes "kind") sort_of members
  kind ← kind_of version sort (table_name.Class position) members
  Ok (record { number = number; kind = kind })

-- the earlier classes and one more, whose number none of them has
abbrev pub with_class : ℕ → List Class → Class → Result (List Class) StyleFault
with_class position earlier class =
    if is_some (class_in earlier class.number)
    then Err (fault_at DuplicateClass (table_name.Class position) (codes "number")) else Ok (inserted class earlier)

-- the earlier classes and that of the next table
unfoldable pub with_next : ℕ → ℕ → Members → List Class → Result (List Class) StyleFault
with_next version position members earlier = class_of version position members >>= with_class position earlier

-- the earlier classes and those of these tables, the first of which stands at this position
abbrev pub classes_from : ℕ → ℕ → List Class → List Members → Result (List Class) StyleFault
classes_from version position earlier [] = Ok earlier
classes_from version position earlier (members ∷ tables) = with_next version position members earlier
    >>= (λ classes. classes_from version (position + 1) classes tables)

-- the classes of these tables, in increasing number
unfoldable pub classes_of : ℕ → List Members → Result (List Class) StyleFault
classes_of version tables = classes_from version 0 [] tables

pub record AreClassesOf (version : ℕ) (classes : List Class) : Type 0 where
  pub classes_in : AreClasses classes
  pub rigid_in : version ≤ 2 → AreRigidClasses classes
