-- What the ranges of a style give of its float classes.
use Rattle.std.proofs.Common.{◌≡◌, refl, sym, subst, ◌∙◌, ℕ, zero, suc, ◌≤◌, ◌<◌, List, [], ◌∷◌, length, Bool, true, false, Option, Some, None, arith}
use Rattle.std.specs.Prelude.{cond, slice_get, slice_index}
use Rattle.std.specs.List.{filter, find, AllByRecursion, range_with_len}
use Rattle.std.specs.Option.{option_map_or}
use Rattle.pg_style.specs.Ranges.{IsStyle, IsDistance, IsClass, IsKind, Rises, AreDemerits}
use Rattle.pg_style.specs.Values.{StyleValue}
use Rattle.pg_style.specs.declared.style.Class.{Class}
use Rattle.pg_style.specs.declared.style.Kind.{Kind}
use Rattle.pg_style.specs.declared.style.Kind.TheVariants.{Note, Float}
use Rattle.pg_style.specs.declared.style.Area.{Area}
use Rattle.pg_rules.specs.Floats.{class_of, float_kind, float_class, float_numbers}
use Rattle.pg_rules.specs.Floats.{distance_table}
use Rattle.pg_rules.specs.Room.{Document}
use Rattle.law_columns.proofs.Push.{HasTables}
use Rattle.law_columns.proofs.Simulation.{Tables}
use Rattle.pg_lemmas.proofs.Bools.{by_bool}

-- an element of a filtered list passes
pub filter_at : {X : Type 0} (p : X → Bool) (xs : List X) (n : ℕ) → n < length (filter p xs) →
    (x : X) × ((slice_get (filter p xs) n ≡ Some x) × (p x ≡ true))
filter_at p [] n h = absurd (omega arith)
filter_at {X} p (x ∷ xs) n h = by (p x) refl (filter_at p xs)
  where
    Passing : List X → ℕ → Type 0
    Passing ys n = (x : X) × ((slice_get ys n ≡ Some x) × (p x ≡ true))

    here : (b : Bool) → b ≡ p x → (ys : List X) → b ≡ true → ((k : ℕ) → k < length ys → Passing ys k) →
        (k : ℕ) → k < suc (length ys) → Passing (x ∷ ys) k
    here b e ys t later zero k = (x, (refl, sym e ∙ t))
    here b e ys t later (suc j) k = later j (omega arith)

    by : (b : Bool) → b ≡ p x → ((k : ℕ) → k < length (filter p xs) → Passing (filter p xs) k) →
        Passing (filter p (x ∷ xs)) n
    by true e later = subst (λ (c : Bool). Passing (cond c (x ∷ filter p xs) (filter p xs)) n) e
        (here true e (filter p xs) refl later n
        (subst (λ (c : Bool). n < length (cond c (x ∷ filter p xs) (filter p xs))) (sym e) h))
    by false e later = subst (λ (c : Bool). Passing (cond c (x ∷ filter p xs) (filter p xs)) n) e
        (later n (subst (λ (c : Bool). n < length (cond c (x ∷ filter p xs) (filter p xs))) (sym e) h))

pub find_all : {X : Type 0} (P : X → Type 0) (p : X → Bool) (xs : List X) → AllByRecursion P xs → (x : X) →
    find p xs ≡ Some x → P x
find_all P p [] a x e = absurd cc
find_all {X} P p (y ∷ ys) a x e = by (p y) e (λ q. find_all P p ys a.1 x q)
  where
    some_same : (a b : X) → Some a ≡ Some b → a ≡ b
    some_same a b e = cc

    by : (b : Bool) → cond b (Some y) (find p ys) ≡ Some x → (find p ys ≡ Some x → P x) → P x
    by true q later = let s : y ≡ x = some_same y x q in subst P s a.0
    by false q later = later q

kind_table : (k : Kind) → IsKind k →
    option_map_or (λ (kind : Area × List ℕ). true) (float_kind k) false ≡ true →
    IsDistance (option_map_or (λ (kind : Area × List ℕ). kind.1) (float_kind k) [])
kind_table (Note skip limit) i h = absurd cc
kind_table (Float area distance) i h = i

-- the table of a float class
pub class_table : (style : StyleValue) → IsStyle style → (number : ℕ) →
    option_map_or (λ (kind : Area × List ℕ). true) (float_class style number) false ≡ true →
    IsDistance (option_map_or (λ (kind : Area × List ℕ). kind.1) (float_class style number) [])
class_table style range number h = by (class_of style number) refl h
  where
    by : (o : Option Class) → o ≡ class_of style number →
        option_map_or (λ (kind : Area × List ℕ). true)
        (option_map_or (λ (class : Class). float_kind class.kind) o None) false ≡ true →
        IsDistance (option_map_or (λ (kind : Area × List ℕ). kind.1)
        (option_map_or (λ (class : Class). float_kind class.kind) o None) [])
    by None e t = absurd cc
    by (Some class) e t = let k : IsClass class =
        find_all IsClass _ style.classes range.classes_in.each class (sym e) in
        kind_table class.kind k.kind_in t

pub slot_table : (style : StyleValue) → IsStyle style → (slot : ℕ) → slot < length (float_numbers style) →
    IsDistance (distance_table style slot)
slot_table style range slot h =
    let f = filter_at (λ number. option_map_or (λ (kind : Area × List ℕ). true) (float_class style number)
    false) (range_with_len 0 255) slot h in
    subst (λ (o : Option ℕ). IsDistance
    (option_map_or (λ (number : ℕ). option_map_or (λ (kind : Area × List ℕ). kind.1)
    (float_class style number) []) o [])) (sym f.1.0) (class_table style range f.0 f.1.1)

pub rises_to : (xs : List ℕ) → Rises xs → (i j : ℕ) → i ≤ j → j < length xs →
    slice_index xs i ≤ slice_index xs j
rises_to [] r i j h l = absurd (omega arith)
rises_to (x ∷ xs) r zero zero h l = omega arith
rises_to (x ∷ xs) r (suc i) zero h l = absurd (omega arith)
rises_to (x ∷ []) r i (suc j) h l = absurd (omega arith)
rises_to (x ∷ y ∷ ys) r zero (suc j) h l = let s : slice_index (y ∷ ys) 0 ≤ slice_index (y ∷ ys) j =
    rises_to (y ∷ ys) r.1 zero j (omega arith) (omega arith) in let t : x ≤ y = r.0 in omega arith
rises_to (x ∷ y ∷ ys) r (suc i) (suc j) h l = rises_to (y ∷ ys) r.1 i j (omega arith) (omega arith)

pub has_tables : (doc : Document) → IsStyle doc.style → HasTables doc
has_tables doc range = record {
  some =
      λ slot h. (let d : IsDistance (distance_table doc.style slot) = slot_table doc.style range slot h in
      let s : 1 ≤ length (distance_table doc.style slot) = d.some in omega arith);
}

-- the table of each slot rises, and its entries are in range
pub slot_entries : (style : StyleValue) → IsStyle style → (slot : ℕ) →
    Rises (distance_table style slot) × AllByRecursion AreDemerits (distance_table style slot)
slot_entries style range slot = by (slice_get (float_numbers style) slot)
  where
    none : (o : Option (Area × List ℕ)) → option_map_or (λ (kind : Area × List ℕ). true) o false ≡ false →
        Rises (option_map_or (λ (kind : Area × List ℕ). kind.1) o []) × AllByRecursion AreDemerits
        (option_map_or (λ (kind : Area × List ℕ). kind.1) o [])
    none None f = (tt, tt)
    none (Some k) f = absurd cc

    by : (o : Option ℕ) → Rises (option_map_or
        (λ (number : ℕ). option_map_or (λ (kind : Area × List ℕ). kind.1) (float_class style number) []) o [])
        × AllByRecursion AreDemerits (option_map_or
        (λ (number : ℕ). option_map_or (λ (kind : Area × List ℕ). kind.1) (float_class style number) []) o [])
    by None = (tt, tt)
    by (Some number) = by_bool (option_map_or (λ (kind : Area × List ℕ). true) (float_class style number) false)
        (λ t. let d : IsDistance (option_map_or (λ (kind : Area × List ℕ). kind.1) (float_class style number)
        []) = class_table style range number t in (d.rises, d.each))
        (λ f. none (float_class style number) f)

pub tables_of : (doc : Document) → IsStyle doc.style → Tables doc
tables_of doc range = record {
  some = (has_tables doc range).some;
  rises = λ slot i j h l. rises_to (distance_table doc.style slot) (slot_entries doc.style range slot).0 i j h
      l;
}
