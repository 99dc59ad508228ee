-- The class of a number, and the float classes.
use Rattle.std.specs.Prelude.{ℕ, Bool, true, false, ◌==◌, nat_lt, if◌then◌else◌, List, [], ◌∷◌, map, Option}
use Rattle.std.specs.List.{filter, find}
use Rattle.pg_style.specs.declared.style.Class.{Class}
use Rattle.pg_style.specs.declared.style.Kind.{Kind}
use Rattle.pg_style.specs.declared.style.Kind.TheVariants.{Note, Float}

-- the class of a number among classes
abbrev pub class_in : List Class → ℕ → Option Class
class_in classes number = find (λ (class : Class). class.number == number) classes

-- a class of floats
abbrev pub is_float_kind : Kind → Bool
is_float_kind (Note skip limit) = false
is_float_kind (Float area distance) = true

-- a class of floats
abbrev pub is_float_class : Class → Bool
is_float_class class = is_float_kind class.kind

-- the numbers of the float classes, in increasing order
abbrev pub float_numbers_of : List Class → List ℕ
float_numbers_of classes = map (λ (class : Class). class.number) (filter is_float_class classes)

-- the class between those of lesser and of greater number
abbrev pub inserted : Class → List Class → List Class
inserted class [] = class ∷ []
inserted class (first ∷ classes) = if nat_lt first.number class.number then first ∷ inserted class classes else class ∷ first ∷ classes
