-- What a style keeps has one proof at most.
use Rattle.std.specs.Prelude.{ℕ, ℤ, List, [], ◌∷◌, Option, Some, None}
use Rattle.std.specs.Coded.{×_prop}
use Rattle.std.proofs.Props.{props}
use Rattle.pg_style.specs.declared.style.Class.{Class}
use Rattle.pg_style.specs.declared.style.Kind.{Kind}
use Rattle.pg_style.specs.declared.style.Kind.TheVariants.{Note, Float}
use Rattle.pg_style.specs.Ranges.{AreInOrder, IsFoot, IsKind, IsRigidKind, IsStyle, Rises}
use Rattle.pg_style.specs.Values.{StyleValue}

rises_prop : (entries : List ℕ) → IsProp (Rises entries)
rises_prop [] = hlevel props
rises_prop (x ∷ []) = hlevel props
rises_prop (x ∷ y ∷ ys) = ×_prop (hlevel props) (rises_prop (y ∷ ys))

kind_prop : (kind : Kind) → IsProp (IsKind kind)
kind_prop (Note skip limit) = hlevel props
kind_prop (Float area distance) = hlevel (props, rises_prop)

rigid_prop : (kind : Kind) → IsProp (IsRigidKind kind)
rigid_prop (Note skip limit) = hlevel props
rigid_prop (Float area distance) = hlevel props

foot_prop : (foot : Option ℤ) → IsProp (IsFoot foot)
foot_prop None = hlevel props
foot_prop (Some size) = hlevel props

order_prop : (classes : List Class) → IsProp (AreInOrder classes)
order_prop [] = hlevel props
order_prop (class ∷ classes) = ×_prop (hlevel props) (order_prop classes)

pub IsStyle_prop : (style : StyleValue) → IsProp (IsStyle style)
IsStyle_prop style = hlevel (props, kind_prop, rigid_prop, foot_prop, order_prop)
