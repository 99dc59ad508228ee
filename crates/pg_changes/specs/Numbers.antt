-- Numbers of a style that may be changed one by one.
use Rattle.std.specs.Prelude.{◌≡◌, ℕ, zero, suc, ◌+◌, ◌-◌, Bool, true, false, if◌then◌else◌, List, [], ◌∷◌, ◌++◌, length, take, replicate, slice_index, slice_get, Option, Some, option_map, ℤ, pos, unsigned_abs}
use Rattle.std.specs.Option.{option_map_or}
use Rattle.pg_style.specs.Values.{AreaRuleValue, ColumnRuleValue, StyleValue}
use Rattle.pg_style.specs.declared.style.Class.{Class}
use Rattle.pg_style.specs.declared.style.Kind.{Kind}
use Rattle.pg_style.specs.declared.style.Kind.TheVariants.{Note, Float}
use Rattle.pg_changes.specs.declared.number.Number.{Number}
use Rattle.pg_changes.specs.declared.number.Number.TheVariants.{Tolerance, Looseness, LeastText, Height, TopCount, BottomCount, WideCount, ColumnCount, Limit, Distance}

-- the rule of an area with another count
abbrev pub with_count : AreaRuleValue → ℕ → AreaRuleValue
with_count rule count = record { count = count; sep = rule.sep; gap = rule.gap }

-- the same of columns without text
abbrev pub with_column_count : ColumnRuleValue → ℕ → ColumnRuleValue
with_column_count rule count = record { count = count; demerits = rule.demerits }

-- a class of another kind, or as it is
abbrev pub kinded_class : Bool → Class → Kind → Class
kinded_class true class kind = record { number = class.number; kind = kind }
kinded_class false class kind = class

-- the classes with another kind of the one at an index
abbrev pub kinded_at : List Class → ℕ → Kind → List Class
kinded_at [] index kind = []
kinded_at (class ∷ classes) zero kind = kinded_class true class kind ∷ classes
kinded_at (class ∷ classes) (suc index) kind = class ∷ kinded_at classes index kind

-- the kind of the class at an index
abbrev pub kind_at : List Class → ℕ → Option Kind
kind_at classes index = option_map (λ (class : Class). class.kind) (slice_get classes index)

-- the style with another kind of the class at an index
abbrev pub with_kind : StyleValue → ℕ → Kind → StyleValue
with_kind style index kind = record style { classes = kinded_at style.classes index kind }

-- the style with what is made of the kind of the class at an index
abbrev pub with_kind_by : (Kind → Kind) → StyleValue → ℕ → StyleValue
with_kind_by change style index =
    option_map_or (λ (kind : Kind). with_kind style index (change kind)) (kind_at style.classes index) style

-- a kind with another limit, where it is one of notes
abbrev pub limited : ℤ → Kind → Kind
limited limit (Note skip old) = Note skip limit
limited limit (Float area distance) = Float area distance

-- so many entries, of which those behind the last are as that
abbrev pub longer : List ℕ → ℕ → List ℕ
longer entries count =
    take count (entries ++ replicate (9 - length entries) (slice_index entries (length entries - 1)))

-- a kind with so many entries, where it is one of floats
abbrev pub lengthened : ℕ → Kind → Kind
lengthened count (Note skip limit) = Note skip limit
lengthened count (Float area distance) = Float area (longer distance count)

-- the style with another value of a number; a length counts scaled points
abbrev pub with_number : StyleValue → Number → ℕ → StyleValue
with_number style Tolerance value = record style { tolerance = value }
with_number style Looseness value = record style { max_looseness = value }
with_number style LeastText value = record style { min_text = pos value }
with_number style Height value = record style { height = pos value }
with_number style TopCount value = record style { top = with_count style.top value }
with_number style BottomCount value = record style { bottom = with_count style.bottom value }
with_number style WideCount value = record style { wide = with_count style.wide value }
with_number style ColumnCount value = record style { float_column = with_column_count style.float_column value }
with_number style (Limit index number) value = with_kind_by (limited (pos value)) style index
with_number style (Distance index number) value = with_kind_by (lengthened value) style index

-- the limit of a kind of notes
abbrev pub limit_in : Kind → ℕ
limit_in (Note skip limit) = unsigned_abs limit
limit_in (Float area distance) = 0

-- how many entries a kind of floats has
abbrev pub entries_in : Kind → ℕ
entries_in (Note skip limit) = 0
entries_in (Float area distance) = length distance

-- the value that a style has of a number
abbrev pub value_in : StyleValue → Number → ℕ
value_in style Tolerance = style.tolerance
value_in style Looseness = style.max_looseness
value_in style LeastText = unsigned_abs style.min_text
value_in style Height = unsigned_abs style.height
value_in style TopCount = style.top.count
value_in style BottomCount = style.bottom.count
value_in style WideCount = style.wide.count
value_in style ColumnCount = style.float_column.count
value_in style (Limit index number) = option_map_or limit_in (kind_at style.classes index) 0
value_in style (Distance index number) = option_map_or entries_in (kind_at style.classes index) 0

-- a number that helps where it is lower
abbrev pub falls : Number → Bool
falls LeastText = true
falls number = false

-- what is named of a class is of the class at its index
abbrev pub IsNamed : StyleValue → Number → Type 0
IsNamed style (Limit index number) = (class : Class) → slice_get style.classes index ≡ Some class → class.number ≡ number
IsNamed style (Distance index number) = (class : Class) → slice_get style.classes index ≡ Some class → class.number ≡ number
IsNamed style number = Unit {0}

-- the next value towards those that help less
abbrev pub step_back : Number → ℕ → ℕ
step_back number value = if falls number then value + 1 else value - 1
