-- Ceilings: all floats, and those called below the reach of a state.
use Rattle.std.proofs.Common.{◌≡◌, refl, sym, ap, subst, ◌∙◌, ℕ, zero, suc, ◌+◌, ◌≤◌, ◌<◌, ◌⊎◌, inl, inr, List, [], ◌∷◌, map, length, true, Option, Some, None, arith}
use Rattle.std.specs.Prelude.{min, nat_lt, slice_get, ℤ}
use Rattle.std.specs.List.{AllByRecursion}
use Rattle.pg_list.specs.Places.{items_around, picked_items, place}
use Rattle.pg_list.specs.Shapes.{IsBlock}
use Rattle.pg_list.specs.declared.blocks.Block.{Block}
use Rattle.pg_list.specs.declared.blocks.Block.TheVariants.{One, Choice}
use Rattle.pg_list.specs.declared.galley.Place.{Place}
use Rattle.pg_plan.specs.declared.pages.PageMove.{PageMove}
use Rattle.pg_plan.specs.declared.states.State.{State}
use Rattle.pg_style.specs.Ranges.{IsStyle}
use Rattle.pg_list.specs.Flat.{end_of, flat, is_same_place, items_before}
use Rattle.pg_rules.specs.Floats.{called, entry, float_numbers, sizes_of}
use Rattle.pg_rules.specs.Follow.{Follow, context_in}
use Rattle.pg_rules.specs.IsState.{IsPlace, IsState}
use Rattle.pg_rules.specs.Room.{Document}
use Rattle.law_places.specs.Past.{IsPast}
use Rattle.pg_lemmas.proofs.Bools.{by_bool}
use Rattle.law_places.proofs.Callouts.{called_total, entry_less, fit_ends}
use Rattle.law_places.proofs.Measures.{called_grows, place_within}
use Rattle.law_places.proofs.Places.{around_is, begins, none_around}
use Rattle.law_places.proofs.Tests.{place_refl}
use Rattle.pg_lemmas.proofs.Numbers.{less_true, not_less}
use Rattle.pg_list.proofs.Places.{same_place}
use Rattle.law_space.specs.ReachAt.{reach_at}
use Rattle.law_space.proofs.Next.{next_low}
use Rattle.law_moves.specs.Listed.{beyond}
use Rattle.law_moves.specs.Steps.{IsCeiling, float_counts}

module _ (doc : Document) (blocks : AllByRecursion IsBlock doc.blocks) where
  -- no more floats are called before a place than there are
  pub called_few : (at : Place) (slot : ℕ) →
      entry (called doc.blocks doc.style at) slot ≤ entry (float_counts doc) slot
  called_few at slot = each (float_numbers doc.style) slot
    where
      each : (numbers : List ℕ) (slot : ℕ) →
          entry (map (λ (number : ℕ). length (sizes_of number (items_before doc.blocks at))) numbers) slot
          ≤ entry (map (λ (sizes : List ℤ). length sizes)
          (map (λ (number : ℕ). sizes_of number (flat doc.blocks [])) numbers)) slot
      each [] slot = omega arith
      each (number ∷ numbers) zero = called_total doc blocks number at
      each (number ∷ numbers) (suc slot) = each numbers slot

  -- callouts only grow
  pub called_more : (from to : Place) → IsPlace doc.blocks from → (to ≡ from) ⊎ IsPast doc.blocks from to →
      (slot : ℕ) → entry (called doc.blocks doc.style from) slot ≤ entry (called doc.blocks doc.style to) slot
  called_more from to p (inl e) slot = subst (λ (at : Place). entry (called doc.blocks doc.style from) slot
      ≤ entry (called doc.blocks doc.style at) slot) (sym e) (omega arith)
  called_more from to p (inr q) slot = entry_less
      (λ (number : ℕ). length (sizes_of number (items_before doc.blocks from)))
      (λ (number : ℕ). length (sizes_of number (items_before doc.blocks to))) (float_numbers doc.style) slot
      (λ number. called_grows number doc.blocks from to blocks p q)

  -- the front of a block is a place
  front_place : (n : ℕ) → n ≤ length doc.blocks → IsPlace doc.blocks (place n 0 0)
  front_place n h = record { within = by (slice_get doc.blocks n) refl; front = λ z. refl }
    where
      some : (b : Block) → IsBlock b → 0 < length (picked_items b 0)
      some (One item) a = omega arith
      some (Choice variants) a = begins variants a

      at : (xs : List Block) (k : ℕ) (b : Block) → AllByRecursion IsBlock xs → slice_get xs k ≡ Some b → IsBlock b
      at [] k b a e = absurd cc
      at (x ∷ xs) zero b a e = subst IsBlock (some_same x b e) a.0
        where
          some_same : (x y : Block) → Some x ≡ Some y → x ≡ y
          some_same x y e = cc
      at (x ∷ xs) (suc k) b a e = at xs k b a.1 e

      none : (xs : List Block) (k : ℕ) → slice_get xs k ≡ None → length xs ≤ k
      none [] k e = omega arith
      none (x ∷ xs) zero e = absurd cc
      none (x ∷ xs) (suc k) e = let r : length xs ≤ k = none xs k e in omega arith

      by : (o : Option Block) → slice_get doc.blocks n ≡ o →
          (is_same_place (place n 0 0) (end_of doc.blocks) ≡ true)
          ⊎ (0 < length (items_around doc.blocks (place n 0 0)))
      by None e = let l : length doc.blocks ≤ n = none doc.blocks n e in
          let s : n ≡ length doc.blocks = omega arith in
          inl (subst (λ (k : ℕ). is_same_place (place n 0 0) (place k 0 0) ≡ true) s (place_refl (place n 0 0)))
      by (Some b) e = inr (subst (λ xs. 0 < length xs) (sym (around_is doc.blocks b n 0 0 e))
          (some b (at doc.blocks n b blocks e)))

  -- a column ends where it starts, or behind
  pub ends_on : (u : State) (m : PageMove) (v : State) (c : ℤ) → IsState doc u → Follow doc u m v c →
      (m.column.to ≡ u.place) ⊎ IsPast doc.blocks u.place m.column.to
  ends_on u m v c own f =
      let from : m.column.from ≡ u.place = same_place m.column.from u.place f.starts in
      subst (λ (at : Place). (m.column.to ≡ at) ⊎ IsPast doc.blocks at m.column.to) from
      (fit_ends doc (context_in doc u m) refl blocks (subst (IsPlace doc.blocks) (sym from) own.place)
      f.stands.rules.fits)

  end_place : (u : State) (m : PageMove) → IsState doc u →
      (m.column.to ≡ u.place) ⊎ IsPast doc.blocks u.place m.column.to → IsPlace doc.blocks m.column.to
  end_place u m own (inl e) = subst (IsPlace doc.blocks) (sym e) own.place
  end_place u m own (inr p) = p.place

  pub reach_ceiling : IsStyle doc.style → (u : State) → IsState doc u →
      IsCeiling doc u (called doc.blocks doc.style (beyond doc u.place))
  reach_ceiling style u own = record { reached = reached; there = λ slot h. called_few (beyond doc u.place) slot }
    where
      reached : (m : PageMove) (v : State) (c : ℤ) → Follow doc u m v c → (slot : ℕ) →
          slot < length (float_numbers doc.style) → entry (called doc.blocks doc.style m.column.to) slot
          ≤ entry (called doc.blocks doc.style (beyond doc u.place)) slot
      reached m v c f slot h = by_bool (nat_lt m.column.to.block (min (reach_at doc u.place) (length doc.blocks)))
          (λ t. called_more m.column.to (beyond doc u.place) to_place
          (inr (record {
            place = front_place (min (reach_at doc u.place) (length doc.blocks)) (omega arith);
            past = inl (less_true _ _ t);
          })) slot)
          (λ n. called_more m.column.to (beyond doc u.place) to_place (inl (sym (at_end (not_less _ _ n)))) slot)
        where
          to_place : IsPlace doc.blocks m.column.to
          to_place = end_place u m own (ends_on u m v c own f)

          below : m.column.to.block + 1 ≤ reach_at doc u.place
          below = subst (λ (at : Place). at.block + 1 ≤ reach_at doc u.place) (ap (λ (w : State). w.place) f.leads)
              (next_low doc blocks style u m v c own f)

          at_end : min (reach_at doc u.place) (length doc.blocks) ≤ m.column.to.block →
              m.column.to ≡ beyond doc u.place
          at_end l =
              let b : m.column.to.block + 1 ≤ reach_at doc u.place = below in
              let w : m.column.to.block ≤ length doc.blocks = place_within doc.blocks m.column.to to_place in
              let k : length doc.blocks ≡ min (reach_at doc u.place) (length doc.blocks) = omega arith in
              by to_place.within ∙ ap (λ (n : ℕ). place n 0 0) k
            where
              no_block : (xs : List Block) (n : ℕ) → length xs ≤ n → slice_get xs n ≡ None
              no_block [] n h = refl
              no_block (x ∷ xs) zero h = absurd (omega arith)
              no_block (x ∷ xs) (suc n) h = no_block xs n (omega arith)

              by : (is_same_place m.column.to (end_of doc.blocks) ≡ true)
                  ⊎ (m.column.to.index < length (items_around doc.blocks m.column.to)) →
                  m.column.to ≡ end_of doc.blocks
              by (inl t) = same_place m.column.to (end_of doc.blocks) t
              by (inr i) =
                  let b : m.column.to.block + 1 ≤ reach_at doc u.place = below in
                  let e : items_around doc.blocks m.column.to ≡ [] =
                  none_around doc.blocks m.column.to.block m.column.to.variant m.column.to.index
                  (no_block doc.blocks m.column.to.block (omega arith)) in
                  absurd (let z : m.column.to.index < 0 =
                  subst (λ xs. m.column.to.index < length xs) e i in omega arith)
