-- No more floats of a class are placed than there are floats.
use Rattle.std.proofs.Common.{◌≡◌, subst, ℕ, zero, suc, ◌+◌, ◌≤◌, ◌<◌, ◌^◌, List, [], ◌∷◌, length, map, arith}
use Rattle.std.specs.Prelude.{nat_le, ℤ}
use Rattle.std.specs.List.{AllByRecursion, sum_by}
use Rattle.std.proofs.lemmas.Bool.{leb-true}
use Rattle.std.proofs.lemmas.List.Sums.{sum_by-cons}
use Rattle.pg_list.specs.declared.item.Item.{Item}
use Rattle.pg_list.specs.Shapes.{IsBlock}
use Rattle.pg_plan.specs.declared.states.State.{State}
use Rattle.pg_list.specs.Flat.{flat}
use Rattle.pg_list.specs.Flat.{items_before}
use Rattle.pg_rules.specs.Floats.{called, entry, float_numbers, sizes_of, slots}
use Rattle.pg_rules.specs.IsState.{IsState}
use Rattle.pg_rules.specs.Room.{Document}
use Rattle.law_places.proofs.Among.{Among, all_at}
use Rattle.law_places.proofs.Callouts.{called_total}
use Rattle.pg_floats.specs.AreFloats.{float_total}
use Rattle.law_space.proofs.Bounds.{slot_among}
use Rattle.law_words.specs.Ranges.{AllBelow}

-- one class has no more than all together
class_few : (before all : List Item) (numbers : List ℕ) (slot : ℕ) →
    ((number : ℕ) → length (sizes_of number before) ≤ length (sizes_of number all)) →
    entry (map (λ (number : ℕ). length (sizes_of number before)) numbers) slot
    ≤ sum_by (λ (sizes : List ℤ). length sizes) (map (λ (number : ℕ). sizes_of number all) numbers)
class_few before all [] slot h = omega arith
class_few before all (number ∷ numbers) zero h =
    let first = h number in
    let sum = sum_by-cons (λ (sizes : List ℤ). length sizes) (sizes_of number all)
    (map (λ (n : ℕ). sizes_of n all) numbers) in
    omega (arith, first, sum)
class_few before all (number ∷ numbers) (suc slot) h =
    let rest = class_few before all numbers slot h in
    let sum = sum_by-cons (λ (sizes : List ℤ). length sizes) (sizes_of number all)
    (map (λ (n : ℕ). sizes_of n all) numbers) in
    omega (arith, rest, sum)

all_entries : (bound : ℕ) (counts : List ℕ) → ((i : ℕ) → i < length counts → entry counts i < bound) →
    AllBelow bound counts
all_entries bound [] h = tt
all_entries bound (count ∷ counts) h =
    (h 0 (omega arith), all_entries bound counts (λ i less. h (suc i) (omega arith)))

pub placed_below : (doc : Document) → AllByRecursion IsBlock doc.blocks → float_total doc.blocks doc.style ≤ 2 ^ 12 →
    (u : State) → IsState doc u → AllBelow (2 ^ 16) u.placed
placed_below doc blocks few u own = all_entries (2 ^ 16) u.placed each
  where
    each : (i : ℕ) → i < length u.placed → entry u.placed i < 2 ^ 16
    each i less =
        let long : length u.placed ≡ length (float_numbers doc.style) = own.placed in
        let here : 0 + i ≡ i = omega arith in
        let among : Among (0 + i) (slots doc.style) =
        slot_among 0 (length (float_numbers doc.style)) i (omega arith) in
        let within : entry u.placed i ≤ entry (called doc.blocks doc.style u.place) i =
        leb-true _ _ (all_at (λ (slot : ℕ). nat_le (entry u.placed slot)
        (entry (called doc.blocks doc.style u.place) slot)) (slots doc.style) i own.called
        (subst (λ (n : ℕ). Among n (slots doc.style)) here among)) in
        let total = class_few (items_before doc.blocks u.place) (flat doc.blocks []) (float_numbers doc.style) i
        (λ number. called_total doc blocks number u.place) in
        omega (arith, within, total, few)
