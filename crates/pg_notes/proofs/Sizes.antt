-- The sizes of a class's inserts, item by item, and without the discardable ones at the front.
use Rattle.std.proofs.Common.{◌≡◌, ◌≢◌, refl, ap, ◌∙◌, ℕ, List, [], ◌∷◌, ◌++◌, length, arith, Bool, false, Option, Some, None, ℤ, pos, ◌+ℤ◌}
use Rattle.std.specs.Prelude.{◌==◌, not, if◌then◌else◌, option_map, cond, int_le, ◌&&◌}
use Rattle.std.specs.List.{find, list_all, cons_option}
use Rattle.std.proofs.lemmas.List.{append-nil}
use Rattle.std.proofs.lemmas.List.Elements.{filter_map-append}
use Rattle.std.proofs.lemmas.Int.{ints}
use Rattle.std.proofs.lemmas.Bool.Decides.{nat_tests}
use Rattle.pg_list.specs.declared.item.Item.{Item}
use Rattle.pg_list.specs.declared.item.Item.TheVariants.{BoxItem, Rule, Glue, Kern, Penalty, Insert, Carry}
use Rattle.pg_list.specs.Shapes.{is_insert}
use Rattle.pg_list.specs.Totals.{trimmed}
use Rattle.pg_list.specs.Whole.{whole_sum, whole_sum_by}
use Rattle.pg_style.specs.Values.{StyleValue}
use Rattle.pg_style.specs.declared.style.Class.{Class}
use Rattle.pg_style.specs.declared.style.Gap.{Gap}
use Rattle.pg_style.specs.declared.style.Kind.{Kind}
use Rattle.pg_style.specs.declared.style.Kind.TheVariants.{Note, Float}
use Rattle.pg_rules.specs.Floats.{sizes_of, insert_size}
use Rattle.pg_rules.specs.Room.{notes, class_notes, class_give, skips_give, is_within_limit, are_notes_within_limits}
use Rattle.pg_notes.specs.AreNotes.{first_over}
use Rattle.pg_lemmas.proofs.Numbers.{eq_refl}

-- ---- the front

pub sizes_trimmed : (number : ℕ) (items : List Item) → sizes_of number (trimmed items) ≡ sizes_of number items
sizes_trimmed number [] = refl
sizes_trimmed number (BoxItem h d body ∷ items) = refl
sizes_trimmed number (Rule h d body ∷ items) = refl
sizes_trimmed number (Glue w s o k body ∷ items) = sizes_trimmed number items
sizes_trimmed number (Kern w body ∷ items) = sizes_trimmed number items
sizes_trimmed number (Penalty v body ∷ items) = sizes_trimmed number items
sizes_trimmed number (Insert c z body ∷ items) =
    ap (cons_option (insert_size number (Insert c z body))) (sizes_trimmed number items)
sizes_trimmed number (Carry body ∷ items) = sizes_trimmed number items

class_notes_trimmed : (items : List Item) (number : ℕ) (kind : Kind) →
    class_notes (trimmed items) number kind ≡ class_notes items number kind
class_notes_trimmed items number (Note skip limit) =
    ap (λ (sizes : List ℤ). if length sizes == 0 then pos 0 else (skip.size +ℤ whole_sum sizes))
    (sizes_trimmed number items)
class_notes_trimmed items number (Float area distance) = refl

class_give_trimmed : (part : Gap → ℤ) (items : List Item) (number : ℕ) (kind : Kind) →
    class_give part (trimmed items) number kind ≡ class_give part items number kind
class_give_trimmed part items number (Note skip limit) =
    ap (λ (sizes : List ℤ). if length sizes == 0 then pos 0 else part skip) (sizes_trimmed number items)
class_give_trimmed part items number (Float area distance) = refl

within_trimmed : (items : List Item) (number : ℕ) (kind : Kind) →
    is_within_limit (trimmed items) number kind ≡ is_within_limit items number kind
within_trimmed items number (Note skip limit) =
    ap (λ (sizes : List ℤ). int_le (whole_sum sizes) limit) (sizes_trimmed number items)
within_trimmed items number (Float area distance) = refl

sums_alike : (f g : Class → ℤ) → ((class : Class) → f class ≡ g class) → (classes : List Class) →
    whole_sum_by f classes ≡ whole_sum_by g classes
sums_alike f g same [] = refl
sums_alike f g same (class ∷ classes) =
    ap (λ z. z +ℤ whole_sum_by f classes) (same class) ∙ ap (λ z. g class +ℤ z) (sums_alike f g same classes)

all_alike : (p q : Class → Bool) → ((class : Class) → p class ≡ q class) → (classes : List Class) →
    list_all p classes ≡ list_all q classes
all_alike p q same [] = refl
all_alike p q same (class ∷ classes) =
    ap (λ b. b && list_all p classes) (same class) ∙ ap (λ z. q class && z) (all_alike p q same classes)

find_alike : (p q : Class → Bool) → ((class : Class) → p class ≡ q class) → (classes : List Class) →
    find p classes ≡ find q classes
find_alike p q same [] = refl
find_alike p q same (class ∷ classes) =
    ap (λ b. cond b (Some class) (find p classes)) (same class)
    ∙ ap (λ (o : Option Class). cond (q class) (Some class) o) (find_alike p q same classes)

pub notes_trimmed : (style : StyleValue) (items : List Item) → notes style (trimmed items) ≡ notes style items
notes_trimmed style items =
    sums_alike (λ (class : Class). class_notes (trimmed items) class.number class.kind)
    (λ (class : Class). class_notes items class.number class.kind)
    (λ class. class_notes_trimmed items class.number class.kind) style.classes

pub skips_trimmed : (part : Gap → ℤ) (style : StyleValue) (items : List Item) →
    skips_give part style (trimmed items) ≡ skips_give part style items
skips_trimmed part style items =
    sums_alike (λ (class : Class). class_give part (trimmed items) class.number class.kind)
    (λ (class : Class). class_give part items class.number class.kind)
    (λ class. class_give_trimmed part items class.number class.kind) style.classes

pub limits_trimmed : (style : StyleValue) (items : List Item) →
    are_notes_within_limits style (trimmed items) ≡ are_notes_within_limits style items
limits_trimmed style items =
    all_alike (λ (class : Class). is_within_limit (trimmed items) class.number class.kind)
    (λ (class : Class). is_within_limit items class.number class.kind)
    (λ class. within_trimmed items class.number class.kind) style.classes

pub first_trimmed : (style : StyleValue) (items : List Item) →
    first_over style (trimmed items) ≡ first_over style items
first_trimmed style items = ap (option_map (λ (class : Class). class.number))
    (find_alike (λ (class : Class). not (is_within_limit (trimmed items) class.number class.kind))
    (λ (class : Class). not (is_within_limit items class.number class.kind))
    (λ class. ap not (within_trimmed items class.number class.kind)) style.classes)

-- ---- one more item

sizes_push : (number : ℕ) (items : List Item) (x : Item) →
    sizes_of number (items ++ x ∷ []) ≡ sizes_of number items ++ sizes_of number (x ∷ [])
sizes_push number items x = filter_map-append (insert_size number) items (x ∷ [])

pub not_same : (m n : ℕ) → m ≢ n → (m == n) ≡ false
not_same m n e = grind (arith, nat_tests)

pub sizes_own : (number : ℕ) (items : List Item) (z : ℤ) (body : List ℕ) →
    sizes_of number (items ++ Insert number z body ∷ []) ≡ sizes_of number items ++ z ∷ []
sizes_own number items z body =
    sizes_push number items (Insert number z body)
    ∙ ap (λ b. sizes_of number items ++ cons_option (if b then Some z else None) []) (eq_refl number)

pub sizes_other : (number other : ℕ) (items : List Item) (z : ℤ) (body : List ℕ) → other ≢ number →
    sizes_of number (items ++ Insert other z body ∷ []) ≡ sizes_of number items
sizes_other number other items z body ne =
    sizes_push number items (Insert other z body)
    ∙ (ap (λ b. sizes_of number items ++ cons_option (if b then Some z else None) []) (not_same other number ne)
    ∙ append-nil (sizes_of number items))

pub sizes_plain : (number : ℕ) (items : List Item) (x : Item) → is_insert x ≡ false →
    sizes_of number (items ++ x ∷ []) ≡ sizes_of number items
sizes_plain number items (BoxItem h d body) e =
    sizes_push number items (BoxItem h d body) ∙ append-nil (sizes_of number items)
sizes_plain number items (Rule h d body) e =
    sizes_push number items (Rule h d body) ∙ append-nil (sizes_of number items)
sizes_plain number items (Glue w s o k body) e =
    sizes_push number items (Glue w s o k body) ∙ append-nil (sizes_of number items)
sizes_plain number items (Kern w body) e =
    sizes_push number items (Kern w body) ∙ append-nil (sizes_of number items)
sizes_plain number items (Penalty v body) e =
    sizes_push number items (Penalty v body) ∙ append-nil (sizes_of number items)
sizes_plain number items (Insert c z body) e = absurd (cc)
sizes_plain number items (Carry body) e = sizes_push number items (Carry body) ∙ append-nil (sizes_of number items)

pub sum_push : (xs : List ℤ) (x : ℤ) → whole_sum (xs ++ x ∷ []) ≡ whole_sum xs +ℤ x
sum_push [] x = omega (arith, ints)
sum_push (y ∷ xs) x = omega (arith, ints, sum_push xs x)
