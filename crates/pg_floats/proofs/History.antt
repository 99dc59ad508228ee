-- A queue counts what happened to it.
use Rattle.std.proofs.Common.{◌≡◌, refl, sym, ap, ◌∙◌, subst, ℕ, zero, suc, ◌+◌, ◌-◌, ◌<◌, ◌≤◌, List, [], ◌∷◌, ◌++◌}
use Rattle.std.proofs.Common.{length, length-append, append_assoc, map, take, drop, get_or, set, add-one, arith, Bool}
use Rattle.std.proofs.Common.{inl, inr, length-drop}
use Rattle.std.specs.Prelude.{◌==◌, if◌then◌else◌, sum}
use Rattle.std.specs.List.{insert, remove}
use Rattle.std.proofs.lemmas.Bool.{cases_Bool, eqb-true}
use Rattle.std.proofs.lemmas.List.{append-nil, take-map, drop-map, map-append, length-map, get_or-set_same}
use Rattle.std.proofs.lemmas.List.{get_or-set_other, drop-append-le}
use Rattle.std.proofs.lemmas.List.Edits.{length-insert, length-remove}
use Rattle.std.proofs.lemmas.List.Sums.{sum_by-cons, sum_by-set, sum_by-take-drop}
use Rattle.pg_floats.specs.QueueValue.{IsQueue, QueueValue, turned, with_callout, with_placed}
use Rattle.pg_floats.specs.History.{CountsHistory, Event, Leads, ages_by, ages_of, called, page_ended, pages, placed}
use Rattle.pg_floats.specs.History.{placings, since_callouts}
use Rattle.pg_floats.proofs.Queues.{drop_more, far_drop, far_take, near_drop, near_take, set_long, sum_one}
use Rattle.pg_lemmas.proofs.Numbers.{eq_not}

-- ---- the ages of one class

-- a callout adds an age of its class
insert_own : (slot : ℕ) (waiting ages : List ℕ) → slot < length waiting → sum waiting ≡ length ages →
    ages_of (set waiting slot (get_or waiting slot 0 + 1)) (insert ages (sum (take (slot + 1) waiting)) 0) slot
    ≡ ages_of waiting ages slot ++ 0 ∷ []
insert_own slot [] ages h e = absurd (omega (arith, h))
insert_own zero (count ∷ waiting) ages h e =
    let c = sum_by-cons (λ (n : ℕ). n) count waiting in
    let few : count ≤ length ages = omega (arith, e, c) in
    ap (λ (n : ℕ). take (count + 1) (insert ages n 0)) (sum_one count)
    ∙ (ap (λ (n : ℕ). take n (insert ages count 0)) (add-one count) ∙ near_take count ages few)
insert_own (suc slot) (count ∷ waiting) ages h e =
    let c = sum_by-cons (λ (n : ℕ). n) count waiting in
    let few : count ≤ length ages = omega (arith, e, c) in
    let d = length-drop count ages in
    let rest : sum waiting ≡ length (drop count ages) = omega (arith, e, c, d) in
    let j : ℕ = sum (take (slot + 1) waiting) in
    let next : suc slot + 1 ≡ suc (slot + 1) = omega arith in
    let m : sum (take (suc slot + 1) (count ∷ waiting)) ≡ count + j =
    ap (λ n. sum (take n (count ∷ waiting))) next ∙ sum_by-cons (λ (n : ℕ). n) count (take (slot + 1) waiting) in
    let i : ℕ = sum (take (suc slot + 1) (count ∷ waiting)) in
    ap (λ (xs : List ℕ). ages_of (set waiting slot (get_or waiting slot 0 + 1)) xs slot)
    (far_drop count j i ages (0 ∷ drop i ages) m few
    ∙ ap (λ (xs : List ℕ). take j (drop count ages) ++ 0 ∷ xs) (drop_more count j i ages m))
    ∙ insert_own slot waiting (drop count ages) (omega arith) rest

insert_other : (slot other : ℕ) (waiting ages : List ℕ) → slot < length waiting → sum waiting ≡ length ages →
    (slot ≡ other → ⊥) →
    ages_of (set waiting slot (get_or waiting slot 0 + 1)) (insert ages (sum (take (slot + 1) waiting)) 0) other
    ≡ ages_of waiting ages other
insert_other slot other [] ages h e differ = absurd (omega (arith, h))
insert_other zero zero (count ∷ waiting) ages h e differ = absurd (differ refl)
insert_other zero (suc other) (count ∷ waiting) ages h e differ =
    let c = sum_by-cons (λ (n : ℕ). n) count waiting in
    let few : count ≤ length ages = omega (arith, e, c) in
    ap (λ (xs : List ℕ). ages_of waiting xs other)
    (ap (λ (n : ℕ). drop (count + 1) (insert ages n 0)) (sum_one count)
    ∙ (ap (λ (n : ℕ). drop n (insert ages count 0)) (add-one count) ∙ near_drop count ages few))
insert_other (suc slot) zero (count ∷ waiting) ages h e differ =
    let c = sum_by-cons (λ (n : ℕ). n) count waiting in
    let few : count ≤ length ages = omega (arith, e, c) in
    let j : ℕ = sum (take (slot + 1) waiting) in
    let next : suc slot + 1 ≡ suc (slot + 1) = omega arith in
    let m : sum (take (suc slot + 1) (count ∷ waiting)) ≡ count + j =
    ap (λ n. sum (take n (count ∷ waiting))) next ∙ sum_by-cons (λ (n : ℕ). n) count (take (slot + 1) waiting) in
    let i : ℕ = sum (take (suc slot + 1) (count ∷ waiting)) in
    far_take count j i ages (0 ∷ drop i ages) m few
insert_other (suc slot) (suc other) (count ∷ waiting) ages h e differ =
    let c = sum_by-cons (λ (n : ℕ). n) count waiting in
    let few : count ≤ length ages = omega (arith, e, c) in
    let d = length-drop count ages in
    let rest : sum waiting ≡ length (drop count ages) = omega (arith, e, c, d) in
    let j : ℕ = sum (take (slot + 1) waiting) in
    let next : suc slot + 1 ≡ suc (slot + 1) = omega arith in
    let m : sum (take (suc slot + 1) (count ∷ waiting)) ≡ count + j =
    ap (λ n. sum (take n (count ∷ waiting))) next ∙ sum_by-cons (λ (n : ℕ). n) count (take (slot + 1) waiting) in
    let i : ℕ = sum (take (suc slot + 1) (count ∷ waiting)) in
    ap (λ (xs : List ℕ). ages_of (set waiting slot (get_or waiting slot 0 + 1)) xs other)
    (far_drop count j i ages (0 ∷ drop i ages) m few
    ∙ ap (λ (xs : List ℕ). take j (drop count ages) ++ 0 ∷ xs) (drop_more count j i ages m))
    ∙ insert_other slot other waiting (drop count ages) (omega arith) rest (λ s. differ (ap suc s))

-- a placing takes the first age of its class
remove_own : (slot : ℕ) (waiting ages : List ℕ) → slot < length waiting → 0 < get_or waiting slot 0 →
    sum waiting ≡ length ages →
    ages_of (set waiting slot (get_or waiting slot 0 - 1)) (remove ages (sum (take slot waiting))) slot
    ≡ drop 1 (ages_of waiting ages slot)
remove_own slot [] ages h some e = absurd (omega (arith, h))
remove_own zero (zero ∷ waiting) ages h some e = absurd (omega (arith, some))
remove_own zero (suc n ∷ waiting) [] h some e =
    absurd (omega (arith, e, sum_by-cons (λ (n : ℕ). n) (suc n) waiting))
remove_own zero (suc n ∷ waiting) (age ∷ ages) h some e =
    let same : suc n - 1 ≡ n = omega arith in ap (λ (m : ℕ). take m ages) same
remove_own (suc slot) (count ∷ waiting) ages h some e =
    let c = sum_by-cons (λ (n : ℕ). n) count waiting in
    let few : count ≤ length ages = omega (arith, e, c) in
    let d = length-drop count ages in
    let rest : sum waiting ≡ length (drop count ages) = omega (arith, e, c, d) in
    let j : ℕ = sum (take slot waiting) in
    let i : ℕ = sum (take (suc slot) (count ∷ waiting)) in
    let m : i ≡ count + j = sum_by-cons (λ (n : ℕ). n) count (take slot waiting) in
    let more : suc i ≡ count + suc j = omega (arith, m) in
    ap (λ (xs : List ℕ). ages_of (set waiting slot (get_or waiting slot 0 - 1)) xs slot)
    (far_drop count j i ages (drop (suc i) ages) m few
    ∙ ap (λ (xs : List ℕ). take j (drop count ages) ++ xs) (drop_more count (suc j) (suc i) ages more))
    ∙ remove_own slot waiting (drop count ages) (omega arith) some rest

remove_other : (slot other : ℕ) (waiting ages : List ℕ) → slot < length waiting → 0 < get_or waiting slot 0 →
    sum waiting ≡ length ages → (slot ≡ other → ⊥) →
    ages_of (set waiting slot (get_or waiting slot 0 - 1)) (remove ages (sum (take slot waiting))) other
    ≡ ages_of waiting ages other
remove_other slot other [] ages h some e differ = absurd (omega (arith, h))
remove_other zero zero (count ∷ waiting) ages h some e differ = absurd (differ refl)
remove_other zero (suc other) (zero ∷ waiting) ages h some e differ = absurd (omega (arith, some))
remove_other zero (suc other) (suc n ∷ waiting) [] h some e differ =
    absurd (omega (arith, e, sum_by-cons (λ (n : ℕ). n) (suc n) waiting))
remove_other zero (suc other) (suc n ∷ waiting) (age ∷ ages) h some e differ =
    let same : suc n - 1 ≡ n = omega arith in ap (λ (m : ℕ). ages_of waiting (drop m ages) other) same
remove_other (suc slot) zero (count ∷ waiting) ages h some e differ =
    let c = sum_by-cons (λ (n : ℕ). n) count waiting in
    let few : count ≤ length ages = omega (arith, e, c) in
    let j : ℕ = sum (take slot waiting) in
    let i : ℕ = sum (take (suc slot) (count ∷ waiting)) in
    let m : i ≡ count + j = sum_by-cons (λ (n : ℕ). n) count (take slot waiting) in
    far_take count j i ages (drop (suc i) ages) m few
remove_other (suc slot) (suc other) (count ∷ waiting) ages h some e differ =
    let c = sum_by-cons (λ (n : ℕ). n) count waiting in
    let few : count ≤ length ages = omega (arith, e, c) in
    let d = length-drop count ages in
    let rest : sum waiting ≡ length (drop count ages) = omega (arith, e, c, d) in
    let j : ℕ = sum (take slot waiting) in
    let i : ℕ = sum (take (suc slot) (count ∷ waiting)) in
    let m : i ≡ count + j = sum_by-cons (λ (n : ℕ). n) count (take slot waiting) in
    let more : suc i ≡ count + suc j = omega (arith, m) in
    ap (λ (xs : List ℕ). ages_of (set waiting slot (get_or waiting slot 0 - 1)) xs other)
    (far_drop count j i ages (drop (suc i) ages) m few
    ∙ ap (λ (xs : List ℕ). take j (drop count ages) ++ xs) (drop_more count (suc j) (suc i) ages more))
    ∙ remove_other slot other waiting (drop count ages) (omega arith) some rest (λ s. differ (ap suc s))

-- all ages rise
turned_ages : (slot : ℕ) (waiting ages : List ℕ) →
    ages_of waiting (map (λ (age : ℕ). age + 1) ages) slot ≡ map (λ (age : ℕ). age + 1) (ages_of waiting ages slot)
turned_ages slot [] ages = refl
turned_ages zero (count ∷ waiting) ages = take-map (λ (age : ℕ). age + 1) count ages
turned_ages (suc slot) (count ∷ waiting) ages =
    ap (λ (xs : List ℕ). ages_of waiting xs slot) (drop-map (λ (age : ℕ). age + 1) count ages)
    ∙ turned_ages slot waiting (drop count ages)

-- as many ages as floats wait
own_long : (slot : ℕ) (waiting ages : List ℕ) → slot < length waiting → sum waiting ≡ length ages →
    length (ages_of waiting ages slot) ≡ get_or waiting slot 0
own_long slot [] ages h e = absurd (omega (arith, h))
own_long zero (count ∷ waiting) ages h e =
    let c = sum_by-cons (λ (n : ℕ). n) count waiting in taken count ages (omega (arith, e, c))
  where
    taken : (n : ℕ) (xs : List ℕ) → n ≤ length xs → length (take n xs) ≡ n
    taken zero xs h = refl
    taken (suc n) [] h = absurd (omega arith)
    taken (suc n) (x ∷ xs) h = ap suc (taken n xs (omega arith))
own_long (suc slot) (count ∷ waiting) ages h e =
    let c = sum_by-cons (λ (n : ℕ). n) count waiting in
    let d = length-drop count ages in
    own_long slot waiting (drop count ages) (omega arith) (omega (arith, e, c, d))

-- ---- queues on the way

pub record Kept (first queue : QueueValue) : Type 0 where
  pub slots : length queue.placed ≡ length queue.waiting
  pub same : length queue.waiting ≡ length first.waiting
  pub waits : sum queue.waiting ≡ length queue.ages

take_few : (slot : ℕ) (waiting : List ℕ) → sum (take slot waiting) ≤ sum waiting
take_few slot waiting = let p = sum_by-take-drop (λ (n : ℕ). n) waiting slot in omega (arith, p)

next_few : (slot : ℕ) (waiting : List ℕ) → slot < length waiting →
    sum (take slot waiting) + get_or waiting slot 0 ≤ sum waiting
next_few slot [] h = absurd (omega (arith, h))
next_few zero (count ∷ waiting) h = let c = sum_by-cons (λ (n : ℕ). n) count waiting in omega (arith, c)
next_few (suc slot) (count ∷ waiting) h =
    let c = sum_by-cons (λ (n : ℕ). n) count waiting in
    let t = sum_by-cons (λ (n : ℕ). n) count (take slot waiting) in
    omega (arith, c, t, next_few slot waiting (omega arith))

kept : (first last : QueueValue) (events : List Event) → IsQueue first → Leads first events last → Kept first last
kept first last [] is e = subst (Kept first) (sym e) (record { slots = is.slots; same = refl; waits = is.each_waits })
kept first last (called slot ∷ events) is (queue, (way, (h, e))) =
    let k = kept first queue events is way in
    let s = sum_by-set (λ (n : ℕ). n) queue.waiting slot (get_or queue.waiting slot 0 + 1) 0 h in
    let l = length-insert queue.ages (sum (take (slot + 1) queue.waiting)) 0
    (subst (λ (n : ℕ). sum (take (slot + 1) queue.waiting) ≤ n) k.waits (take_few (slot + 1) queue.waiting)) in
    subst (Kept first) (sym e) (record {
      slots = k.slots ∙ sym (set_long queue.waiting slot (get_or queue.waiting slot 0 + 1));
      same = set_long queue.waiting slot (get_or queue.waiting slot 0 + 1) ∙ k.same;
      waits = omega (arith, s, l, k.waits);
    })
kept first last (placed slot ∷ events) is (queue, (way, (h, (some, e)))) =
    let k = kept first queue events is way in
    let s = sum_by-set (λ (n : ℕ). n) queue.waiting slot (get_or queue.waiting slot 0 - 1) 0 h in
    let few = next_few slot queue.waiting h in
    let within : sum (take slot queue.waiting) < length queue.ages = omega (arith, few, some, k.waits) in
    let l = length-remove queue.ages (sum (take slot queue.waiting)) within in
    subst (Kept first) (sym e) (record {
      slots = set_long queue.placed slot (get_or queue.placed slot 0 + 1) ∙ (k.slots
          ∙ sym (set_long queue.waiting slot (get_or queue.waiting slot 0 - 1)));
      same = set_long queue.waiting slot (get_or queue.waiting slot 0 - 1) ∙ k.same;
      waits = omega (arith, s, l, k.waits, some);
    })
kept first last (page_ended ∷ events) is (queue, (way, e)) =
    let k = kept first queue events is way in
    subst (Kept first) (sym e) (record {
      slots = k.slots;
      same = k.same;
      waits = k.waits ∙ sym (length-map queue.ages (λ (age : ℕ). age + 1));
    })

-- ---- what they count

risen : (first : List ℕ) (n : ℕ) →
    map (λ (age : ℕ). age + 1) (map (λ (age : ℕ). age + n) first) ≡ map (λ (age : ℕ). age + (n + 1)) first
risen [] n = refl
risen (x ∷ xs) n = let e : x + n + 1 ≡ x + (n + 1) = omega arith in
    ap (λ (y : ℕ). y ∷ map (λ (age : ℕ). age + 1) (map (λ (age : ℕ). age + n) xs)) e
    ∙ ap (λ (ys : List ℕ). (x + (n + 1)) ∷ ys) (risen xs n)

drop-drop : (n : ℕ) (xs : List ℕ) → drop 1 (drop n xs) ≡ drop (suc n) xs
drop-drop zero xs = refl
drop-drop (suc n) [] = refl
drop-drop (suc n) (x ∷ xs) = drop-drop n xs

pub counts_history : (first last : QueueValue) (events : List Event) (slot : ℕ) → IsQueue first →
    Leads first events last → slot < length first.waiting → CountsHistory first events last slot
counts_history first last [] slot is e h =
    subst (λ (q : QueueValue). CountsHistory first [] q slot) (sym e) (record {
      placed = omega arith;
      enough = omega arith;
      ages = sym (append-nil _ ∙ unmoved (ages_of first.waiting first.ages slot));
    })
  where
    unmoved : (xs : List ℕ) → map (λ (age : ℕ). age + 0) xs ≡ xs
    unmoved [] = refl
    unmoved (x ∷ xs) = let e : x + 0 ≡ x = omega arith in
        ap (λ (y : ℕ). y ∷ map (λ (age : ℕ). age + 0) xs) e ∙ ap (λ (ys : List ℕ). x ∷ ys) (unmoved xs)
counts_history first last (called other ∷ events) slot is (queue, (way, (within, e))) h =
    subst (λ (q : QueueValue). CountsHistory first (called other ∷ events) q slot) (sym e)
    (more (kept first queue events is way) (counts_history first queue events slot is way h))
  where
    more : Kept first queue → CountsHistory first events queue slot →
        CountsHistory first (called other ∷ events) (with_callout queue other) slot
    more k r = elim (cases_Bool (other == slot)) [
      | inl t ↦
          let s : other ≡ slot = eqb-true other slot t in
          let grown : ages_by slot (ages_of first.waiting first.ages slot) (called other ∷ events)
          ≡ ages_by slot (ages_of first.waiting first.ages slot) events ++ 0 ∷ [] =
          ap (λ (b : Bool). map (λ (age : ℕ). age + pages events) (ages_of first.waiting first.ages slot)
          ++ (if b then since_callouts slot events ++ 0 ∷ [] else since_callouts slot events)) t
          ∙ sym (append_assoc _ (since_callouts slot events) (0 ∷ [])) in
          let own = subst (λ (o : ℕ). ages_of (set queue.waiting o (get_or queue.waiting o 0 + 1))
          (insert queue.ages (sum (take (o + 1) queue.waiting)) 0) slot ≡ ages_of queue.waiting queue.ages slot
          ++ 0 ∷ []) (sym s) (insert_own slot queue.waiting queue.ages (omega (arith, within, s)) k.waits) in
          record {
            placed = r.placed;
            enough = subst (λ (xs : List ℕ). placings slot events ≤ length xs) (sym grown)
                (omega (
                  arith,
                  r.enough,
                  length-append
                      (ages_by slot (ages_of first.waiting first.ages slot) events) (0 ∷ []),
                ));
            ages = own ∙ (ap (λ (xs : List ℕ). xs ++ 0 ∷ []) r.ages
                ∙ (sym (drop-append-le (placings slot events)
                (ages_by slot (ages_of first.waiting first.ages slot) events) (0 ∷ []) r.enough)
                ∙ ap (drop (placings slot events)) (sym grown)));
          }
      | inr f ↦
          let same : ages_by slot (ages_of first.waiting first.ages slot) (called other ∷ events)
          ≡ ages_by slot (ages_of first.waiting first.ages slot) events =
          ap (λ (b : Bool). map (λ (age : ℕ). age + pages events) (ages_of first.waiting first.ages slot)
          ++ (if b then since_callouts slot events ++ 0 ∷ [] else since_callouts slot events)) f in
          record {
            placed = r.placed;
            enough = subst (λ (xs : List ℕ). placings slot events ≤ length xs) (sym same) r.enough;
            ages = insert_other other slot queue.waiting queue.ages within k.waits (eq_not other slot f)
                ∙ (r.ages ∙ ap (drop (placings slot events)) (sym same));
          }
    ]
counts_history first last (placed other ∷ events) slot is (queue, (way, (within, (some, e)))) h =
    subst (λ (q : QueueValue). CountsHistory first (placed other ∷ events) q slot) (sym e)
    (more (kept first queue events is way) (counts_history first queue events slot is way h))
  where
    more : Kept first queue → CountsHistory first events queue slot →
        CountsHistory first (placed other ∷ events) (with_placed queue other) slot
    more k r = elim (cases_Bool (other == slot)) [
      | inl t ↦
          let s : other ≡ slot = eqb-true other slot t in
          let one : placings slot (placed other ∷ events) ≡ suc (placings slot events) =
          ap (λ (b : Bool). (if b then 1 else 0) + placings slot events) t ∙ omega arith in
          let there : slot < length queue.waiting = omega (arith, within, s) in
          let waits : 0 < get_or queue.waiting slot 0 = subst (λ (o : ℕ). 0 < get_or queue.waiting o 0) s some in
          let long = own_long slot queue.waiting queue.ages there k.waits in
          let left = ap length r.ages in
          let d = length-drop (placings slot events)
          (ages_by slot (ages_of first.waiting first.ages slot) events) in
          let own = subst (λ (o : ℕ). ages_of (set queue.waiting o (get_or queue.waiting o 0 - 1))
          (remove queue.ages (sum (take o queue.waiting))) slot ≡ drop 1 (ages_of queue.waiting queue.ages slot))
          (sym s) (remove_own slot queue.waiting queue.ages there waits k.waits) in
          record {
            placed = subst (λ (o : ℕ). get_or (set queue.placed o (get_or queue.placed o 0 + 1)) slot 0
                ≡ get_or first.placed slot 0 + placings slot (placed other ∷ events)) (sym s)
                (get_or-set_same queue.placed slot (get_or queue.placed slot 0 + 1) 0
                (omega (arith, there, k.slots)) ∙ omega (arith, r.placed, one));
            enough = omega (arith, one, long, left, d, waits, r.enough);
            ages = own ∙ (ap (drop 1) r.ages ∙ (drop-drop (placings slot events)
                (ages_by slot (ages_of first.waiting first.ages slot) events)
                ∙ ap (λ (n : ℕ). drop n (ages_by slot (ages_of first.waiting first.ages slot) events)) (sym one)));
          }
      | inr f ↦
          let none : placings slot (placed other ∷ events) ≡ placings slot events =
          ap (λ (b : Bool). (if b then 1 else 0) + placings slot events) f ∙ omega arith in
          record {
            placed = get_or-set_other queue.placed other slot (get_or queue.placed other 0 + 1) 0
                (λ s. eq_not other slot f (sym s)) ∙ (r.placed ∙ ap (λ (n : ℕ). get_or first.placed slot 0 + n)
                (sym none));
            enough = omega (arith, none, r.enough);
            ages = remove_other other slot queue.waiting queue.ages within some k.waits (eq_not other slot f)
                ∙ (r.ages ∙ ap (λ (n : ℕ). drop n (ages_by slot (ages_of first.waiting first.ages slot) events))
                (sym none));
          }
    ]
counts_history first last (page_ended ∷ events) slot is (queue, (way, e)) h =
    subst (λ (q : QueueValue). CountsHistory first (page_ended ∷ events) q slot) (sym e)
    (more (counts_history first queue events slot is way h))
  where
    all : map (λ (age : ℕ). age + 1) (ages_by slot (ages_of first.waiting first.ages slot) events)
        ≡ ages_by slot (ages_of first.waiting first.ages slot) (page_ended ∷ events)
    all = map-append (λ (age : ℕ). age + 1)
        (map (λ (age : ℕ). age + pages events) (ages_of first.waiting first.ages slot)) (since_callouts slot events)
        ∙ ap (λ (xs : List ℕ). xs ++ map (λ (n : ℕ). n + 1) (since_callouts slot events))
        (risen (ages_of first.waiting first.ages slot) (pages events))

    more : CountsHistory first events queue slot → CountsHistory first (page_ended ∷ events) (turned queue) slot
    more r = record {
      placed = r.placed;
      enough = subst (λ (xs : List ℕ). placings slot events ≤ length xs) all
          (subst (λ (n : ℕ). placings slot events ≤ n)
          (sym (length-map (ages_by slot (ages_of first.waiting first.ages slot) events) (λ (age : ℕ). age + 1)))
          r.enough);
      ages = turned_ages slot queue.waiting queue.ages ∙ (ap (map (λ (age : ℕ). age + 1)) r.ages
          ∙ (sym (drop-map (λ (age : ℕ). age + 1) (placings slot events)
          (ages_by slot (ages_of first.waiting first.ages slot) events)) ∙ ap (drop (placings slot events)) all));
    }
