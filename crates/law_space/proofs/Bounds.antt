-- The space of pages keeps the laws of a space, for each galley and style in range.
use Rattle.std.proofs.Common.{◌≡◌, refl, sym, ap, subst, ℕ, zero, suc, ◌+◌, ◌*◌, ◌^◌, ◌≤◌, ◌<◌, ◌⊎◌, inl, inr, List, [], ◌∷◌, map, length, Bool, true, false, Option, Some, None, arith}
use Rattle.std.specs.Prelude.{cond, drop, ◌&&◌, ◌==◌, if◌then◌else◌, is_some, nat_abs, nat_le, option_map, slice_get, unwrap_or, ℤ}
use Rattle.std.specs.List.{AllByRecursion, sum_by, range_with_len, filter}
use Rattle.std.specs.Option.{option_map_or}
use Rattle.std.proofs.lemmas.List.Sums.{sum_by-cons}
use Rattle.pg_list.specs.Counts.{block_size, item_count}
use Rattle.pg_list.specs.GalleyValue.{GalleyValue}
use Rattle.pg_list.specs.Places.{items_around, picked_items}
use Rattle.pg_list.specs.Shapes.{IsBlock}
use Rattle.pg_list.specs.declared.blocks.Block.{Block}
use Rattle.pg_list.specs.declared.blocks.Block.TheVariants.{One, Choice}
use Rattle.pg_list.specs.declared.galley.Place.{Place}
use Rattle.pg_list.specs.declared.variants.Variant.{Variant}
use Rattle.pg_plan.specs.declared.pages.PageMove.{PageMove}
use Rattle.pg_plan.specs.declared.states.Side.TheVariants.{R}
use Rattle.pg_plan.specs.declared.states.State.{State}
use Rattle.pg_style.specs.declared.style.Run.{Run}
use Rattle.pg_style.specs.Values.{StyleValue}
use Rattle.pg_list.specs.Flat.{blocks_at, end_of, flat, fronts, is_same_place, items_before}
use Rattle.pg_rules.specs.ColumnRules.{column_variants}
use Rattle.pg_style.specs.declared.style.Area.{Area}
use Rattle.pg_rules.specs.Floats.{float_class, entry, called, sizes_of, float_numbers, slots, total_count}
use Rattle.pg_rules.specs.Follow.{Follow, age_in, context_in, next_state}
use Rattle.pg_rules.specs.History.{placed_after}
use Rattle.pg_rules.specs.Legal.{added, document}
use Rattle.pg_rules.specs.NoWorse.{is_same_key, is_same_side}
use Rattle.pg_rules.specs.Room.{Document, flat_items_of, size_of}
use Rattle.pg_table.specs.Space.{Lawful}
use Rattle.pg_rules.specs.IsState.{IsPlace, IsState}
use Rattle.law_places.specs.Past.{IsPast, Past, far}
use Rattle.law_places.proofs.Among.{Among, all_at}
use Rattle.law_places.proofs.Callouts.{called_total}
use Rattle.law_places.proofs.Measures.{block_at, block_inserts, far_rises, inserted_flat, past_within, place_within}
use Rattle.law_places.proofs.Places.{around_block, around_is, begins}
use Rattle.law_places.proofs.Steps.{far_within, fronts_few, index_within, steps_far}
use Rattle.pg_rules.specs.Ranges.{AreInRange}
use Rattle.law_columns.proofs.StyleFacts.{tables_of}
use Rattle.law_columns.proofs.BoundCounts.{added_long, counts_few}
use Rattle.law_columns.proofs.Owned.{own_next, own_start}
use Rattle.law_columns.proofs.Prices.{cost_few, picked_limits}
use Rattle.law_space.proofs.Next.{next_low, own_low}
use Rattle.law_space.specs.PageSpace.{place_rank, rank, side_run, wide_meaning}
use Rattle.law_space.proofs.Rank.{climbs_with, onward, ranked, ranks, weighs}
use Rattle.law_space.proofs.SpaceLaws.{Moves, lawful}
use Rattle.pg_lemmas.proofs.Bools.{both_of}
use Rattle.pg_lemmas.proofs.Lists.{some_is}
use Rattle.std.proofs.lemmas.Bool.{eqb-true, leb-true}
use Rattle.std.proofs.lemmas.Option.{slice_get_within}
use Rattle.pg_lemmas.proofs.Numbers.{suc_not}
use Rattle.pg_list.proofs.Sizes.{picked_le}
use Rattle.pg_list.proofs.Places.{same_place}
use Rattle.law_places.proofs.Sizes.{sizes_few}

-- ---- how many floats there are

inserts_few : (number : ℕ) (blocks : List Block) → sum_by (block_inserts number) blocks ≤ item_count blocks
inserts_few number [] = omega arith
inserts_few number (b ∷ blocks) =
    let s : sum_by (block_inserts number) (b ∷ blocks) ≡ block_inserts number b
    + sum_by (block_inserts number) blocks = sum_by-cons (block_inserts number) b blocks in
    let t : item_count (b ∷ blocks) ≡ block_size b + item_count blocks = sum_by-cons block_size b blocks in
    let k : block_inserts number b ≤ length (picked_items b 0) = sizes_few number (picked_items b 0) in
    let l : length (picked_items b 0) ≤ block_size b = picked_le b 0 in
    let r : sum_by (block_inserts number) blocks ≤ item_count blocks = inserts_few number blocks in
    omega arith

entry_map_few : (f : ℕ → ℕ) (n : ℕ) (xs : List ℕ) (slot : ℕ) → ((x : ℕ) → f x ≤ n) → entry (map f xs) slot ≤ n
entry_map_few f n [] slot h = omega arith
entry_map_few f n (x ∷ xs) zero h = h x
entry_map_few f n (x ∷ xs) (suc k) h = entry_map_few f n xs k h

pub slot_among : (f k i : ℕ) → i < k → Among (f + i) (range_with_len f k)
slot_among f zero i h = absurd (omega arith)
slot_among f (suc k) zero h = inl (let e : f ≡ f + 0 = omega arith in e)
slot_among f (suc k) (suc i) h =
    inr (let e : f + 1 + i ≡ f + suc i = omega arith in
    subst (λ (z : ℕ). Among z (range_with_len (f + 1) k)) e (slot_among (f + 1) k i (omega arith)))

filter_few : (p : ℕ → Bool) (xs : List ℕ) → length (filter p xs) ≤ length xs
filter_few p [] = omega arith
filter_few p (x ∷ xs) = by (p x) (filter_few p xs)
  where
    by : (b : Bool) → length (filter p xs) ≤ length xs →
        length (cond b (x ∷ filter p xs) (filter p xs)) ≤ suc (length xs)
    by true h = omega arith
    by false h = omega arith

classes_few : (style : StyleValue) → length (float_numbers style) ≤ 255
classes_few style = filter_few
    (λ number. option_map_or (λ (kind : Area × List ℕ). true) (float_class style number) false)
    (range_with_len 0 255)

-- ---- the bounds

module _ (g : GalleyValue) (s : StyleValue) (range : AreInRange g s) where
  doc : Document
  doc = document g s

  pub placed_few : (u : State) → IsState (document g s) u → total_count u.placed ≤ 1048576 * 255
  placed_few u own =
      let t : total_count u.placed ≤ 1048576 * length u.placed = counts_few u.placed each in
      let l : length u.placed ≡ length (float_numbers s) = own.placed in
      let c : length (float_numbers s) ≤ 255 = classes_few s in
      omega arith
    where
      each : (i : ℕ) → i < length u.placed → entry u.placed i ≤ 1048576
      each i h =
          let l : length u.placed ≡ length (float_numbers s) = own.placed in
          let a : Among (0 + i) (slots s) = slot_among 0 (length (float_numbers s)) i (omega arith) in
          let z : 0 + i ≡ i = omega arith in
          let k : entry u.placed i ≤ entry (called g.blocks s u.place) i =
          leb-true _ _ (all_at (λ (slot : ℕ). nat_le (entry u.placed slot)
          (entry (called g.blocks s u.place) slot)) (slots s) i own.called
          (subst (λ (n : ℕ). Among n (slots s)) z a)) in
          let m : entry (called g.blocks s u.place) i ≤ 1048576 =
          entry_map_few (λ (number : ℕ). length (sizes_of number (items_before g.blocks u.place))) 1048576
          (float_numbers s) i few in
          omega arith
        where
          few : (number : ℕ) → length (sizes_of number (items_before g.blocks u.place)) ≤ 1048576
          few number =
              let a : length (sizes_of number (items_before g.blocks u.place))
              ≤ length (sizes_of number (flat g.blocks [])) =
              called_total (document g s) range.blocks number u.place in
              let b : length (sizes_of number (flat g.blocks [])) ≡ sum_by (block_inserts number) g.blocks =
              inserted_flat number 0 g.blocks in
              let c : sum_by (block_inserts number) g.blocks ≤ item_count g.blocks =
              inserts_few number g.blocks in
              let d : item_count g.blocks ≤ 1048576 = range.limit in
              omega arith

  pub index_few : (at : Place) → IsPlace g.blocks at → at.index < 1048576
  index_few at p = by at.index refl
    where
      by : (i : ℕ) → i ≡ at.index → i < 1048576
      by zero e = omega arith
      by (suc j) e =
          let h : at.index < item_count g.blocks = index_within g.blocks at p (omega (arith, e)) in
          let d : item_count g.blocks ≤ 1048576 = range.limit in
          omega arith

  -- a place inside a choice is in one of its variants, and any other in variant 0
  pub variant_few : (at : Place) → IsPlace g.blocks at → at.variant < 8
  variant_few at p = by p.within
    where
      inside : (b : Block) (v i : ℕ) → IsBlock b → i < length (picked_items b v) → v < 8
      inside (One item) zero i h k = omega arith
      inside (One item) (suc v) i h k =
          let z : length (picked_items (One item) (suc v)) ≡ 0 =
          ap (λ (b : Bool). length (if b then item ∷ [] else [])) (suc_not v) in
          absurd (omega (arith, k, z))
      inside (Choice variants) v i h k = named (slice_get variants v) refl k
        where
          named : (o : Option Variant) → o ≡ slice_get variants v →
              i < length (unwrap_or (option_map (λ (x : Variant). x.items) o) []) → v < 8
          named None e k = absurd (omega arith)
          named (Some x) e k = let l : v < length variants = slice_get_within variants v x (sym e) in
              let f : length variants ≤ 5 = h.shape.few in omega arith

      by : (is_same_place at (end_of g.blocks) ≡ true) ⊎ (at.index < length (items_around g.blocks at)) →
          at.variant < 8
      by (inl t) = let z : at.variant ≡ 0 = ap (λ (x : Place). x.variant) (same_place at (end_of g.blocks) t) in
          omega arith
      by (inr k) =
          let b = around_block g.blocks at (omega (arith, k)) in
          let a : length (items_around g.blocks at) ≡ length (picked_items b.0 at.variant) =
          ap length (around_is g.blocks b.0 at.block at.variant at.index b.1) in
          inside b.0 at.variant at.index (block_at 0 g.blocks at.block b.0 range.blocks b.1) (omega (arith, k, a))

  place_climbs : (from to : Place) → IsPlace g.blocks from → IsPast g.blocks from to → place_rank from < place_rank to
  place_climbs from to p q = by q.past
    where
      variants : (i : ℕ) → i ≡ from.index → (0 < from.index → from.variant ≡ to.variant) → from.variant ≤ to.variant
      variants zero e h = let z : from.variant ≡ 0 = p.front (sym e) in omega arith
      variants (suc i) e h = let z : from.variant ≡ to.variant = h (omega (arith, e)) in omega arith

      by : Past from to → place_rank from < place_rank to
      by (inl l) = let h : from.index < 1048576 = index_few from p in let v : from.variant < 8 = variant_few from p in
          omega arith
      by (inr r) = let e : from.block ≡ to.block = r.block in let h : from.index < to.index = r.index in
          let v : from.variant ≤ to.variant = variants from.index refl r.variant in omega arith

  far_climbs : (from to : Place) → IsPlace g.blocks from → IsPast g.blocks from to →
      far g.blocks from < far g.blocks to
  far_climbs from to p q = far_rises g.blocks from to p q (past_within g.blocks from to q)

  pub blocks_few : (blocks : List Block) → AllByRecursion IsBlock blocks → length blocks ≤ item_count blocks
  blocks_few [] a = omega arith
  blocks_few (b ∷ blocks) a =
      let r : length blocks ≤ item_count blocks = blocks_few blocks a.1 in
      let t : item_count (b ∷ blocks) ≡ block_size b + item_count blocks = sum_by-cons block_size b blocks in
      let k : 1 ≤ block_size b = some b a.0 in
      omega arith
    where
      some : (b : Block) → IsBlock b → 1 ≤ block_size b
      some (One item) h = omega arith
      some (Choice variants) h =
          let l : 0 < length (picked_items (Choice variants) 0) = begins variants h in
          let m : length (picked_items (Choice variants) 0) ≤ block_size (Choice variants) =
          picked_le (Choice variants) 0 in
          omega arith

  pub side_run_few : (u : State) → IsState (document g s) u → side_run u < 16
  side_run_few u own = by u.run (is_same_side u.side R) own.run
    where
      by : (o : Option ℕ) (b : Bool) → option_map_or (λ (run : ℕ). is_some (slice_get s.runs run)) o true ≡ true →
          2 * option_map_or (λ (run : ℕ). run + 1) o 0 + (if b then 1 else 0) < 16
      by None true t = omega arith
      by None false t = omega arith
      by (Some run) b t = last b (few (some_is (slice_get s.runs run) t))
        where
          few : (r : Run) × (slice_get s.runs run ≡ Some r) → run < 5
          few (r, e) = let l : run < length s.runs = slice_get_within s.runs run r e in
              let f : length s.runs ≤ 5 = range.style_in.runs_in.few in omega arith

          last : (b : Bool) → run < 5 → 2 * (run + 1) + (if b then 1 else 0) < 16
          last true h = omega arith
          last false h = omega arith

  pub rank_low : (u : State) → IsState (document g s) u → rank (document g s) u < 2 ^ 64
  rank_low u own =
      let a : u.place.index < 1048576 = index_few u.place own.place in
      let v : u.place.variant < 8 = variant_few u.place own.place in
      let b : u.place.block ≤ length g.blocks = place_within g.blocks u.place own.place in
      let c : length g.blocks ≤ item_count g.blocks = blocks_few g.blocks range.blocks in
      let d : item_count g.blocks ≤ 1048576 = range.limit in
      let e : total_count u.placed ≤ 1048576 * 255 = placed_few u own in
      let f : side_run u < 16 = side_run_few u own in
      last (u.column == 1) (place_rank u.place) (total_count u.placed) (side_run u) (omega arith) (omega arith) f
    where
      last : (b : Bool) (x p r : ℕ) → x < 2 ^ 44 → p < 2 ^ 28 → r < 16 →
          2 ^ 18 * x + 32 * p + (if b then 16 else 0) + r < 2 ^ 64
      last true x p r h i k = omega arith
      last false x p r h i k = omega arith

  weight_low : (u : State) → IsState (document g s) u → ranked (far g.blocks) u < 2 ^ 30
  weight_low u own =
      let a : far g.blocks u.place ≤ item_count g.blocks = far_within g.blocks u.place own.place in
      let d : item_count g.blocks ≤ 1048576 = range.limit in
      let e : total_count u.placed ≤ 1048576 * 255 = placed_few u own in
      last (u.column == 1) (far g.blocks u.place + total_count u.placed) (omega arith)
    where
      last : (b : Bool) (n : ℕ) → n ≤ 268435456 → 2 * n + (if b then 1 else 0) < 2 ^ 30
      last true n h = omega arith
      last false n h = omega arith

  -- a column has no more picks than items
  picks_few : (u : State) (m : PageMove) (v : State) (c : ℤ) → IsState (document g s) u →
      Follow (document g s) u m v c →
      far g.blocks u.place + length (column_variants (context_in (document g s) u m))
      ≤ far g.blocks m.column.to
  picks_few u m v c own f =
      let e : far g.blocks m.column.from ≡ far g.blocks u.place = ap (far g.blocks) from in
      let k : far g.blocks m.column.from + length (column_variants (context_in (document g s) u m))
      ≤ far g.blocks m.column.to = by (size_of (context_in (document g s) u m)) refl
      f.stands.rules.fits in
      omega arith
    where
      from : m.column.from ≡ u.place
      from = same_place m.column.from u.place f.starts

      by : (o : Option ℕ) → o ≡ size_of (context_in (document g s) u m) →
          option_map_or (λ n. (fronts (flat_items_of (context_in (document g s) u m)) n == length
          m.column.picks) && (length (column_variants (context_in (document g s) u m)) == length
          m.column.picks)) o false ≡ true →
          far g.blocks m.column.from + length (column_variants (context_in (document g s) u m))
          ≤ far g.blocks m.column.to
      by None q t = absurd cc
      by (Some n) q t =
          let p = both_of (fronts (flat_items_of (context_in (document g s) u m)) n == length m.column.picks)
          _ t in
          let a : fronts (flat_items_of (context_in (document g s) u m)) n ≡ length m.column.picks =
          eqb-true _ _ p.0 in
          let b : length (column_variants (context_in (document g s) u m)) ≡ length m.column.picks =
          eqb-true _ _ p.1 in
          let h : fronts (flat_items_of (context_in (document g s) u m)) n ≤ n =
          fronts_few (flat_items_of (context_in (document g s) u m)) n in
          let r : far g.blocks m.column.from + n ≤ far g.blocks m.column.to =
          steps_far g.blocks m.column.from m.column.to m.column.picks n
          (subst (IsPlace g.blocks) (sym from) own.place) (sym q) in
          omega arith

  cheap_step : (b b' : Bool) (cost x y n k p q : ℕ) → cost ≤ 700000000 + 100000000 * (n + k) → x + n ≤ y →
      k + p ≡ q → 2 * (x + p) + (if b then 1 else 0) < 2 * (y + q) + (if b' then 1 else 0) →
      cost + 1000000000 * (2 * (x + p) + (if b then 1 else 0))
      ≤ 1000000000 * (2 * (y + q) + (if b' then 1 else 0))
  cheap_step true true cost x y n k p q h i j l = omega arith
  cheap_step true false cost x y n k p q h i j l = omega arith
  cheap_step false true cost x y n k p q h i j l = omega arith
  cheap_step false false cost x y n k p q h i j l = omega arith

  heavier : (u : State) (m : PageMove) (v : State) (c : ℤ) → IsState (document g s) u →
      Follow (document g s) u m v c → ranked (far g.blocks) u < ranked (far g.blocks) v
  heavier u m v c own f = weighs (far g.blocks) u v
      (climbs_with (document g s) range.blocks range.style_in.columns_to (far g.blocks) far_climbs u m v c own f)

  cheap : (u : State) (m : PageMove) (v : State) (c : ℤ) → IsState (document g s) u →
      Follow (document g s) u m v c →
      nat_abs c + 1000000000 * ranked (far g.blocks) u ≤ 1000000000 * ranked (far g.blocks) v
  cheap u m v c own f =
      subst (λ (x : State). nat_abs c + 1000000000 * ranked (far g.blocks) u
      ≤ 1000000000 * ranked (far g.blocks) x) (sym f.leads)
      (cheap_step (u.column == 1) ((next_state (document g s) u m).column == 1) (nat_abs c)
      (far g.blocks u.place) (far g.blocks m.column.to)
      (length (column_variants (context_in (document g s) u m)))
      (length (added (document g s) u.placed m)) (total_count u.placed)
      (total_count (placed_after s u.placed m))
      (subst (λ (z : ℤ). nat_abs z ≤ 700000000
      + 100000000 * (length (column_variants (context_in (document g s) u m))
      + length (added (document g s) u.placed m))) (sym f.pays)
      (cost_few (context_in (document g s) u m) range.style_in u.column u.fitness (age_in (document g s) u)
      (added (document g s) u.placed m) (picked_limits _ m.column.picks (limits m.column.from))))
      (picks_few u m v c own f)
      (added_long (document g s) u.placed m own.placed)
      (subst (λ (x : State). ranked (far g.blocks) u < ranked (far g.blocks) x) f.leads
      (heavier u m v c own f)))
    where
      dropped : (n : ℕ) (blocks : List Block) → AllByRecursion IsBlock blocks →
          AllByRecursion IsBlock (drop n blocks)
      dropped zero blocks a = a
      dropped (suc n) [] a = tt
      dropped (suc n) (x ∷ xs) a = dropped n xs a.1

      limits : (at : Place) → AllByRecursion IsBlock (blocks_at g.blocks at)
      limits at = dropped (if at.index == 0 then at.block else at.block + 1) g.blocks range.blocks

  pub moves : Moves (document g s)
  moves = record {
    start = own_start (document g s) range.blocks range.style_in;
    own = own_next (document g s) range.blocks range.style_in;
    rises = λ u m v c own f. ranks (document g s) u v (climbs_with (document g s) range.blocks
        range.style_in.columns_to place_rank place_climbs u m v c own f) (side_run_few u own);
    onward = onward (document g s) range.blocks;
    reach_own = own_low (document g s) range.blocks range.style_in;
    reach_next = next_low (document g s) range.blocks range.style_in;
    low = rank_low;
    weight = ranked (far g.blocks);
    light = weight_low;
    heavier = heavier;
    cheap = cheap;
  }

  pub pages_lawful : Lawful is_same_key (wide_meaning (document g s))
  pages_lawful = lawful (document g s) (tables_of (document g s) range.style_in) moves
