-- Before all columns no float waits.
use Rattle.std.proofs.Common.{◌≡◌, refl, sym, ap, ◌∙◌, ℕ, zero, suc, ◌+◌, ◌-◌, List, [], ◌∷◌, ◌++◌, map, length, Option, None, arith}
use Rattle.std.specs.Prelude.{replicate, not, ◌==◌, ◌&&◌}
use Rattle.std.specs.List.{flat_map, range_with_len}
use Rattle.pg_list.specs.Places.{place}
use Rattle.pg_plan.specs.declared.states.Side.{Side}
use Rattle.pg_plan.specs.declared.states.State.{State}
use Rattle.pg_rules.specs.Floats.{called, entry, float_numbers, numbered}
use Rattle.pg_rules.specs.History.{is_right, next_run, placed_of, side_of}
use Rattle.pg_rules.specs.Room.{Document}
use Rattle.pg_rules.specs.States.{age, state_at, waiting}
use Rattle.law_places.proofs.Callouts.{entry_zero}
use Rattle.pg_lemmas.proofs.Bools.{either_way}

zeros : (from n : ℕ) → replicate {A = ℕ} n 0 ≡ map (λ (slot : ℕ). 0) (range_with_len from n)
zeros from zero = refl
zeros from (suc n) = ap (λ (xs : List ℕ). 0 ∷ xs) (zeros (from + 1) n)

none_between : (a b xs : List ℕ) → ((slot : ℕ) → entry b slot ≡ 0) →
    flat_map (λ (slot : ℕ). numbered slot (entry a slot) (entry b slot - entry a slot)) xs ≡ []
none_between a b [] h = refl
none_between a b (x ∷ xs) h =
    let n : entry b x - entry a x ≡ 0 = (let e = h x in omega (arith, e)) in
    ap (λ (k : ℕ). numbered x (entry a x) k
    ++ flat_map (λ (slot : ℕ). numbered slot (entry a slot) (entry b slot - entry a slot)) xs) n
    ∙ none_between a b xs h

fields : (side side' : Side) (run run' : Option ℕ) (placed placed' ages ages' : List ℕ) → side ≡ side' → run ≡ run' →
    placed ≡ placed' → ages ≡ ages' →
    ◌≡◌ {A = State} (record {
      place = place 0 0 0;
      column = 1;
      side = side;
      run = run;
      wide = None;
      fitness = None;
      placed = placed;
      ages = ages;
    }) (record {
      place = place 0 0 0;
      column = 1;
      side = side';
      run = run';
      wide = None;
      fitness = None;
      placed = placed';
      ages = ages';
    })
fields side side' run run' placed placed' ages ages' p q r s = cc

-- the first place and the first page's side, with no float placed and none that waits
pub start_is : (doc : Document) (side : Side) (placed ages : List ℕ) → side ≡ side_of doc.style.first 1 →
    placed ≡ replicate {A = ℕ} (length (float_numbers doc.style)) 0 → ages ≡ [] →
    ◌≡◌ {A = State} (record {
      place = place 0 0 0;
      column = 1;
      side = side;
      run = None;
      wide = None;
      fitness = None;
      placed = placed;
      ages = ages;
    }) (state_at doc [])
start_is doc side placed ages s p a =
    fields side (side_of doc.style.first 1) None (next_run doc.style []) placed (placed_of doc.style []) ages
    (map (age doc []) (waiting doc [])) s
    (sym (either_way ((1 == 1) && not (is_right (side_of doc.style.first 1))) None))
    (p ∙ zeros 0 (length (float_numbers doc.style)))
    (a ∙ sym (ap (map (age doc [])) (none_between (placed_of doc.style []) (called doc.blocks doc.style (place 0 0 0))
    (range_with_len 0 (length (float_numbers doc.style))) (λ slot. entry_zero (float_numbers doc.style) slot))))
