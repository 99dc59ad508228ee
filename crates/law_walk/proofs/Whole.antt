-- The walk from a place misses no candidate.
use Rattle.std.proofs.Common.{◌≡◌, refl, sym, ap, ◌∙◌, subst, ℕ, ◌+◌, ◌≤◌, ◌<◌, ◌⊎◌, inl, inr, List, [], ◌∷◌, ◌++◌, length, take, drop, arith, Bool, true, false, Option, ℤ, pos}
use Rattle.std.specs.Prelude.{◌==◌, if◌then◌else◌, int_le}
use Rattle.std.specs.List.{AllByRecursion, list_all}
use Rattle.std.specs.Option.{option_map_or}
use Rattle.std.proofs.lemmas.Int.{ints}
use Rattle.std.proofs.lemmas.Option.{slice_get_within}
use Rattle.std.proofs.lemmas.Bool.Decides.{nat_tests}
use Rattle.pg_list.specs.declared.variants.Variant.{Variant}
use Rattle.pg_list.specs.declared.galley.Place.{Place}
use Rattle.pg_list.specs.Places.{items_around, place}
use Rattle.pg_list.specs.Shapes.{IsBlock}
use Rattle.pg_list.specs.Flat.{FlatItem, end_of, flat_items_at, fronts, is_same_place}
use Rattle.pg_list.specs.Whole.{whole_sum_by}
use Rattle.law_places.proofs.Splits.{stands_at}
use Rattle.pg_lemmas.proofs.Bools.{both_of}
use Rattle.law_places.proofs.Measures.{place_within}
use Rattle.law_places.proofs.Places.{around_block}
use Rattle.pg_list.proofs.Places.{same_place}
use Rattle.pg_rules.specs.IsState.{IsPlace}
use Rattle.pg_rules.specs.Room.{Document}
use Rattle.law_walk.specs.Best.{IsAmong}
use Rattle.law_walk.specs.Candidates.{Candidate, IsCandidate, is_usable}
use Rattle.pg_column.specs.Passed.{Passed, fits, least_room, nothing, pass_items}
use Rattle.law_walk.specs.Walk.{candidates_from, ends_along, first_front, first_items, next_front, past_stretch, walk_from}
use Rattle.law_walk.proofs.Complete.{Goes, IsFine, along, among_left, among_right, made, walked}
use Rattle.law_walk.proofs.Stretches.{IsFirst, drop_front, first_is, first_none, front_within, fronts_left, fronts_none, fronts_right}
use Rattle.law_walk.proofs.Ways.{IsFront, Leads, Stands, after_front, behind, goes}
use Rattle.pg_column.specs.Judged.{is_loose_enough}

module _ (doc : Document) (top : ℤ) (all : AllByRecursion IsBlock doc.blocks) (from : Place)
    (at : IsPlace doc.blocks from) where
  pub first_within : first_front doc.blocks from ≤ length doc.blocks
  first_within = by (from.index == 0) refl
    where
      inside : (from.index == 0) ≡ false → from.block + 1 ≤ length doc.blocks
      inside e = cases at.within
        where
          zero_is : (n : ℕ) → n ≡ 0 → (n == 0) ≡ true
          zero_is n p = grind (arith, nat_tests)

          cases : (is_same_place from (end_of doc.blocks) ≡ true) ⊎
              (from.index < length (items_around doc.blocks from)) →
              from.block + 1 ≤ length doc.blocks
          cases (inl t) =
              let z : from.index ≡ 0 = ap (λ (p : Place). p.index) (same_place from (end_of doc.blocks) t) in
              absurd (let k : true ≡ false = sym (zero_is from.index z) ∙ e in cc)
          cases (inr h) =
              let b = around_block doc.blocks from (omega (arith, h)) in
              let w = slice_get_within doc.blocks from.block b.0 b.1 in omega (arith, w)

      by : (b : Bool) → (from.index == 0) ≡ b →
          (if b then next_front from.block (drop from.block doc.blocks)
          else next_front (from.block + 1) (drop (from.block + 1) doc.blocks)) ≤ length doc.blocks
      by true e = front_within doc.blocks from.block (drop from.block doc.blocks) refl (place_within doc.blocks from at)
      by false e = front_within doc.blocks (from.block + 1) (drop (from.block + 1) doc.blocks) refl (inside e)

  pub first_front_is : IsFront (drop (first_front doc.blocks from) doc.blocks)
  first_front_is = by (from.index == 0)
    where
      front_at : (n : ℕ) → IsFront (drop (next_front n (drop n doc.blocks)) doc.blocks)
      front_at n = subst IsFront (sym (drop_front doc.blocks n (drop n doc.blocks) refl))
          (after_front (drop n doc.blocks))

      by : (b : Bool) → IsFront (drop (if b then next_front from.block (drop from.block doc.blocks)
          else next_front (from.block + 1) (drop (from.block + 1) doc.blocks)) doc.blocks)
      by true = front_at from.block
      by false = front_at (from.block + 1)

  module _ (c : Candidate) (is : IsCandidate doc from c) (usable : is_usable doc.style top c.passed ≡ true) where
    first : IsFirst doc.blocks from
    first = first_is doc.blocks from

    bound : fits c.passed.bound top ≡ true
    bound = (both_of (fits c.passed.bound top) (int_le (least_room doc.style c.passed) top) usable).0

    abbrev lead : List FlatItem
    lead = first_items doc.blocks from

    abbrev front : ℕ
    front = first_front doc.blocks from

    no_picks : (ps : List ℕ) → 0 ≡ length ps → ps ≡ []
    no_picks [] e = refl
    no_picks (q ∷ qs) e = absurd (omega (arith, e))

    pub leads : Leads doc top all nothing lead front c.picks is.size c.to c.passed c.pick_demerits
    leads = record {
      below = first_within;
      front = first_front_is;
      stands = subst (λ (ys : List FlatItem). Stands doc top all ys is.size c.to) (first.split c.picks)
          (stands_at doc.blocks (flat_items_at doc.blocks from c.picks) c.to is.size is.leads);
      within = λ h. no_picks c.picks (sym (fronts_none lead is.size (first_none doc.blocks from))
          ∙ (sym (fronts_left lead (behind doc top all front c.picks) is.size (omega (arith, h)))
          ∙ (sym (ap (λ (ys : List FlatItem). fronts ys is.size) (first.split c.picks)) ∙ is.fronts_are)));
      counted = λ k h.
          let z = fronts_none lead (length lead) (first_none doc.blocks from) in
          let s = fronts_right lead (behind doc top all front c.picks) is.size k h in
          let w : fronts (flat_items_at doc.blocks from c.picks) is.size
          ≡ fronts (lead ++ behind doc top all front c.picks) is.size =
          ap (λ (ys : List FlatItem). fronts ys is.size) (first.split c.picks) in
          let f = is.fronts_are in omega (arith, z, s, w, f);
      named = sym (ap length (first.named c.picks)) ∙ is.named;
      loose = sym (ap (list_all (is_loose_enough doc.style)) (first.named c.picks)) ∙ is.loose;
      pays = is.demerits ∙ ap (whole_sum_by (λ (v : Variant). pos v.demerits)) (first.named c.picks);
      passes = sym (ap (λ (ys : List FlatItem). pass_items doc nothing (take is.size ys)) (first.split c.picks)) ∙
          is.passes;
      bound = bound;
    }

    pub way : Goes doc top nothing lead front c.picks c.to c.passed c.pick_demerits
    way = goes doc top all c.picks nothing c.passed lead front is.size c.to c.pick_demerits leads

    pub fine : IsFine doc top c.to c.passed
    fine = record { ends = is.ends; limits = is.limits; bound = bound }

    pub listed : IsAmong c (candidates_from doc top from)
    unfolding candidates_from
    listed = by c.picks way
      where
        Near : List Candidate
        Near = ends_along doc top [] (pos 0) (place front 0 0) nothing lead

        Far : Option Passed → List Candidate
        Far o = option_map_or (λ (p : Passed). walk_from (length doc.blocks) doc top [] (pos 0) front p) o []

        by : (ps : List ℕ) → Goes doc top nothing lead front ps c.to c.passed c.pick_demerits →
            IsAmong (made doc top c.to ps c.passed c.pick_demerits) (Near ++ Far (past_stretch doc top nothing lead))
        by [] (k, (st, (pass, none))) =
            subst (λ (z : ℤ). IsAmong (made doc top c.to [] c.passed z)
            (Near ++ Far (past_stretch doc top nothing lead)))
            (sym none) (among_left (made doc top c.to [] c.passed (pos 0)) Near
            (Far (past_stretch doc top nothing lead))
            (along doc top [] (pos 0) front c.to nothing c.passed lead k st pass fine))
        by (q ∷ qs) (s, (w, (e, (past, (there, (loose, (pays, more))))))) =
            among_right (made doc top c.to (q ∷ qs) c.passed c.pick_demerits) Near
            (Far (past_stretch doc top nothing lead))
            (subst (λ (o : Option Passed). IsAmong (made doc top c.to (q ∷ qs) c.passed c.pick_demerits) (Far o))
            (sym past)
            (walked doc top (length doc.blocks) front q qs [] (pos 0) e c.pick_demerits c.to s c.passed w
            (omega arith) there loose more fine (omega (arith, ints, pays))))
