-- A style with its own value of a number is itself.
use Rattle.std.proofs.Common.{◌≡◌, refl, sym, ap, subst, ◌∙◌, ℕ, zero, suc, List, [], ◌∷◌, arith}
use Rattle.std.specs.Prelude.{Option, Some, None, option_map, slice_get, ℤ, pos, ◌≤ℤ◌}
use Rattle.std.specs.List.{AllByRecursion}
use Rattle.std.specs.Option.{option_map_or}
use Rattle.std.proofs.Math.Seq.{take-append_seam}
use Rattle.std.proofs.lemmas.Int.{ints}
use Rattle.std.proofs.lemmas.Option.{same_Some}
use Rattle.pg_lemmas.proofs.Numbers.{length_is}
use Rattle.pg_list.specs.GalleyValue.{GalleyValue}
use Rattle.pg_style.specs.Ranges.{IsClass, IsKind, IsStyle}
use Rattle.pg_style.specs.Values.{StyleValue}
use Rattle.pg_style.specs.declared.style.Class.{Class}
use Rattle.pg_style.specs.declared.style.Kind.{Kind}
use Rattle.pg_style.specs.declared.style.Kind.TheVariants.{Note, Float}
use Rattle.pg_rules.specs.Legal.{Legal}
use Rattle.pg_changes.specs.Changes.{NoneLegal}
use Rattle.pg_changes.specs.Numbers.{entries_in, kind_at, kinded_at, lengthened, limit_in, limited, value_in, with_kind, with_kind_by, with_number}
use Rattle.pg_changes.specs.declared.number.Number.{Number}
use Rattle.pg_changes.specs.declared.number.Number.TheVariants.{Tolerance, Looseness, LeastText, Height, TopCount, BottomCount, WideCount, ColumnCount, Limit, Distance}
use Rattle.pg_changes.proofs.InOrder.{each_at}

same_limit : (kind : Kind) → IsKind kind → limited (pos (limit_in kind)) kind ≡ kind
same_limit (Note skip limit) is = ap (Note skip) (sym (length_is limit is.1.0))
same_limit (Float area distance) is = refl

same_entries : (kind : Kind) → lengthened (entries_in kind) kind ≡ kind
same_entries (Note skip limit) = refl
same_entries (Float area distance) = ap (Float area) (take-append_seam distance _)

same_classes : (cs : List Class) (index : ℕ) (c : Class) → slice_get cs index ≡ Some c → kinded_at cs index c.kind ≡ cs
same_classes [] index c is = absurd cc
same_classes (x ∷ cs) zero c is =
    ap (λ (y : Class). record { number = x.number; kind = y.kind } ∷ cs) (sym (same_Some x c is))
same_classes (x ∷ cs) (suc index) c is = ap (λ (xs : List Class). x ∷ xs) (same_classes cs index c is)

same_style : (style : StyleValue) (index : ℕ) (measure : Kind → ℕ) (change : ℕ → Kind → Kind) →
    AllByRecursion IsClass style.classes → ((kind : Kind) → IsKind kind → change (measure kind) kind ≡ kind) →
    with_kind_by (change (option_map_or measure (kind_at style.classes index) 0)) style index ≡ style
same_style style index measure change all same = by (slice_get style.classes index) refl
  where
    by : (o : Option Class) → slice_get style.classes index ≡ o →
        option_map_or (λ (kind : Kind). with_kind style index (change
        (option_map_or measure (option_map (λ (class : Class). class.kind) o) 0) kind))
        (option_map (λ (class : Class). class.kind) o) style ≡ style
    by None e = refl
    by (Some c) e =
        ap (with_kind style index) (same c.kind (each_at style.classes index c all e).kind_in)
        ∙ ap (λ (classes : List Class). record style { classes = classes }) (same_classes style.classes index c e)

low : (z : ℤ) → pos 1 ≤ℤ z → pos 0 ≤ℤ z
low z h = omega (arith, ints)

pub own_is : (style : StyleValue) (number : Number) → IsStyle style →
    with_number style number (value_in style number) ≡ style
own_is style Tolerance is = refl
own_is style Looseness is = refl
own_is style LeastText is =
    ap (λ (text : ℤ). record style { min_text = text }) (sym (length_is style.min_text is.min_text_in.0))
own_is style Height is =
    ap (λ (height : ℤ). record style { height = height }) (sym (length_is style.height (low style.height is.height_from)))
own_is style TopCount is = refl
own_is style BottomCount is = refl
own_is style WideCount is = refl
own_is style ColumnCount is = refl
own_is style (Limit index number) is =
    same_style style index limit_in (λ (value : ℕ). limited (pos value)) is.classes_in.each same_limit
own_is style (Distance index number) is =
    same_style style index entries_in lengthened is.classes_in.each (λ kind _. same_entries kind)

-- where nothing is legal under the style, nothing is under its own value
pub none_own : (g : GalleyValue) (s : StyleValue) (number : Number) (own : ℕ) → IsStyle s → own ≡ value_in s number →
    NoneLegal g s → NoneLegal g (with_number s number own)
none_own g s number own is same none plan legal =
    none plan (subst (λ (style : StyleValue). Legal g style plan)
    (ap (with_number s number) same ∙ own_is s number is) legal)
