-- Labels that are states print in range.
use Rattle.std.proofs.Common.{◌≡◌, refl, sym, subst, ◌≤◌, ◌^◌, ℕ, Bool, true, false, List, [], ◌∷◌, length, arith}
use Rattle.std.proofs.lemmas.Bool.Decides.{nat_tests}
use Rattle.std.proofs.lemmas.Int.{ints}
use Rattle.std.specs.Prelude.{◌==◌, ◌&&◌, not, nat_le, nat_lt, slice_get, Option, Some, None, ℤ, pos, negsuc, nat_abs, int_le, int_lt, ◌<ℤ◌}
use Rattle.std.specs.List.{AllByRecursion}
use Rattle.std.specs.Option.{option_map_or}
use Rattle.pg_lemmas.proofs.Bools.{by_bool}
use Rattle.pg_lemmas.proofs.Bools.{both_of}
use Rattle.law_places.proofs.Tests.{less_int}
use Rattle.pg_lemmas.proofs.Numbers.{less_true}
use Rattle.pg_list.specs.Counts.{item_count, item_limit}
use Rattle.pg_list.specs.Shapes.{IsBlock}
use Rattle.pg_plan.specs.declared.states.Label.{Label}
use Rattle.pg_plan.specs.declared.states.State.{State}
use Rattle.pg_style.specs.Ranges.{IsStyle}
use Rattle.pg_style.specs.Values.{StyleValue}
use Rattle.pg_rules.specs.Follow.{waiting_in}
use Rattle.pg_rules.specs.Floats.{distance_table}
use Rattle.pg_rules.specs.IsState.{IsState, are_young, not_first}
use Rattle.pg_rules.specs.Floats.{float_class, float_numbers}
use Rattle.pg_rules.specs.Room.{Document}
use Rattle.pg_style.specs.declared.style.Area.{Area}
use Rattle.law_columns.proofs.StyleFacts.{class_table}
use Rattle.law_words.specs.Ranges.{AllBelow}
use Rattle.law_read_back.specs.Ranges.{IsPrintedState, ArePrintedLabels}
use Rattle.law_read_back.specs.StateRanges.{AreStatesInRange}
use Rattle.law_read_back.proofs.Ranges.{some_within}
use Rattle.law_read_back.proofs.Places.{place_printed}
use Rattle.law_read_back.proofs.Placed.{placed_below}
use Rattle.pg_floats.specs.AreFloats.{float_total}
use Rattle.std.proofs.lemmas.Bool.{leb-true}

holds : {X : Type 0} (f : X → Bool) (o : Option X) → option_map_or f o true ≡ true → (x : X) → o ≡ Some x → f x ≡ true
holds f o h x e = subst (λ (p : Option _). option_map_or f p true ≡ true) e h

wide_few : (z : ℤ) → int_lt z (pos (2 ^ 33)) ≡ true → int_le (pos 0) z ≡ true → nat_abs z ≤ 2 ^ 60
wide_few (pos n) h k = let l : pos n <ℤ pos (2 ^ 33) = less_int (pos n) (pos (2 ^ 33)) h in omega (arith, ints)
wide_few (negsuc n) h k = absurd cc

-- no table of distances has more than 9 entries
table_few : (style : StyleValue) → IsStyle style → (slot : ℕ) → length (distance_table style slot) ≤ 9
table_few style range slot = by (slice_get (float_numbers style) slot)
  where
    none : (o : Option (Area × List ℕ)) → option_map_or (λ (kind : Area × List ℕ). true) o false ≡ false →
        length (option_map_or (λ (kind : Area × List ℕ). kind.1) o []) ≤ 9
    none None f = omega arith
    none (Some k) f = absurd cc

    by : (o : Option ℕ) → length (option_map_or
        (λ (number : ℕ). option_map_or (λ (kind : Area × List ℕ). kind.1) (float_class style number) []) o []) ≤ 9
    by None = omega arith
    by (Some number) = by_bool (option_map_or (λ (kind : Area × List ℕ). true) (float_class style number) false)
        (λ t. (class_table style range number t).few)
        (λ f. none (float_class style number) f)

ages_few : (doc : Document) → IsStyle doc.style → (ages : List ℕ) (floats : List (ℕ × ℕ)) →
    are_young doc ages floats ≡ true → AllBelow (2 ^ 8) ages
ages_few doc range [] floats h = tt
ages_few doc range (age ∷ ages) [] h = absurd cc
ages_few doc range (age ∷ ages) (float ∷ floats) h =
    let t = both_of (nat_lt age (length (distance_table doc.style float.0))) (are_young doc ages floats) h in
    let l = less_true age (length (distance_table doc.style float.0)) t.0 in
    let f = table_few doc.style range float.0 in
    (omega (arith, l, f), ages_few doc range ages floats t.1)

second : (version : ℕ) → not (version == 1) ≡ false → not_first version ≡ true → ⊥
second version other first = by (not (version == 1)) other first
  where
    by : (b : Bool) → b ≡ false → b ≡ true → ⊥
    by true e h = absurd cc
    by false e h = absurd cc

pub state_printed : (doc : Document) → IsStyle doc.style → AllByRecursion IsBlock doc.blocks →
    item_count doc.blocks ≤ item_limit → float_total doc.blocks doc.style ≤ 2 ^ 12 → (u : State) → IsState doc u →
    IsPrintedState (not (doc.style.version == 1)) u
state_printed doc range a limit few u is = record {
  place = place_printed doc.blocks u.place a limit is.place;
  column = (is.column.0, is.column.1.1);
  run = λ n e. (let w = some_within doc.style.runs n (holds _ u.run is.run n e) in omega (arith, w, range.runs_in.few));
  wide = λ z e. (let t = both_of (not_first u.column) (int_le (pos 0) z && int_lt z (pos (2 ^ 33)))
      (holds _ u.wide is.wide z e) in
      let s = both_of (int_le (pos 0) z) (int_lt z (pos (2 ^ 33))) t.1 in wide_few z s.1 s.0);
  fitness_in = λ n e. (let t = both_of (not_first doc.style.version) (nat_le n 3) (holds _ u.fitness is.fitness n e) in
      let l = leb-true n 3 t.1 in omega (arith, l));
  told = λ other. told other u.fitness refl;
  placed = placed_below doc a few u is;
  ages = ages_few doc range u.ages (waiting_in doc u) is.young;
}
  where
    told : (not (doc.style.version == 1)) ≡ false → (o : Option ℕ) → o ≡ u.fitness → u.fitness ≡ None
    told other None e = sym e
    told other (Some n) e =
        let t = both_of (not_first doc.style.version) (nat_le n 3) (holds _ u.fitness is.fitness n (sym e)) in
        absurd (second doc.style.version other t.0)

pub labels_printed : (doc : Document) → IsStyle doc.style → AllByRecursion IsBlock doc.blocks →
    item_count doc.blocks ≤ item_limit → float_total doc.blocks doc.style ≤ 2 ^ 12 → (labels : List Label) →
    AreStatesInRange doc labels →
    ArePrintedLabels (not (doc.style.version == 1)) labels
labels_printed doc range a limit few [] h = tt
labels_printed doc range a limit few (label ∷ labels) h = (
  record { state = state_printed doc range a limit few label.state h.0.is_state; cost = h.0.cost },
  labels_printed doc range a limit few labels h.1,
)
