-- The rules on a text column are those of its part of the flat list.
use Rattle.std.proofs.Common.{◌≡◌, sym, ap, subst, ◌∙◌, ℕ, zero, suc, ◌+◌, ◌-◌, ◌<◌, ◌≤◌, inl, inr, List, [], ◌∷◌, take, drop, Bool, true, false, Option, Some, arith}
use Rattle.std.specs.Prelude.{◌&&◌, ◌||◌, ◌==◌, not, nat_le, if◌then◌else◌, is_some, ℤ, pos, ◌+ℤ◌, ◌-ℤ◌, unwrap_or}
use Rattle.std.specs.List.{AllByRecursion, list_any, range_with_len}
use Rattle.std.specs.Option.{option_map_or}
use Rattle.pg_list.specs.GalleyValue.{GalleyValue}
use Rattle.pg_list.specs.Shapes.{IsBlock, is_box}
use Rattle.pg_list.specs.declared.blocks.Block.{Block}
use Rattle.pg_list.specs.declared.galley.Place.{Place}
use Rattle.pg_list.specs.declared.item.Item.{Item}
use Rattle.pg_plan.specs.Order.{columns}
use Rattle.pg_style.specs.Values.{StyleValue}
use Rattle.pg_list.specs.Badness.{is_over, fill_badness, has_infinite}
use Rattle.pg_list.specs.Break.{break_penalty, is_forced, is_spent, passes_between}
use Rattle.pg_list.specs.Flat.{FlatItem, is_same_place}
use Rattle.pg_list.specs.Totals.{shrink, stretch, total}
use Rattle.pg_list.specs.declared.item.Order.TheVariants.{Finite}
use Rattle.pg_rules.specs.ColumnRules.{fitness_by, is_tolerable, is_well_formed, keeps_note_limits, passes_breaks, segment, text_badness, text_is_over, text_total, text_goal, text_fitness, text_shrink, text_stretch}
use Rattle.pg_rules.specs.Cost.{break_demerits, column_demerits, text_demerits}
use Rattle.pg_rules.specs.Floats.{gap_stretch, gap_shrink}
use Rattle.pg_rules.specs.History.{column_fitness, context, place_of}
use Rattle.pg_rules.specs.IsState.{IsPlace}
use Rattle.pg_rules.specs.Legal.{document}
use Rattle.pg_rules.specs.Room.{are_notes_within_limits, at_size, ColumnContext, flat_items_of, give, is_text, items_of, notes, room, size_of, smallest_notes, tallest_room}
use Rattle.law_places.proofs.Among.{Among, all_same}
use Rattle.law_places.proofs.Places.{Leads, leads}
use Rattle.law_places.proofs.Splits.{StandsAt, stands_at}
use Rattle.law_places.proofs.Tests.{place_refl}
use Rattle.pg_rules.specs.Ranges.{AreInRange}
use Rattle.law_columns.proofs.Waiting.{slot_below}
use Rattle.law_texts.specs.Texts.{Chained, ReadsFlat, RulesReadFlat, RulesReadTheFlatList, StandsInFlat, flat_badness, flat_goal, flat_is_over, flat_segment, flat_total, passes_behind, picks_of}
use Rattle.law_texts.proofs.Once.{Fits, chain_fits, chain_place, fits_of}
use Rattle.law_texts.proofs.Reading.{chained_tail, columns_read_flat}
use Rattle.pg_lemmas.proofs.Bools.{both_of, where_true, if_true}
use Rattle.pg_list.proofs.Places.{same_place}

-- ---- by size

-- what a test says at the column's size
at_is : {X : Type 0} (o : Option ℕ) (f : ℕ → X) (x : X) (n : ℕ) → o ≡ Some n → option_map_or f o x ≡ f n
at_is o f x n e = ap (λ (p : Option ℕ). option_map_or f p x) e

module _ (it : ColumnContext) (flat : List Item) (start n : ℕ) (r : ReadsFlat it flat start n) (some : 1 ≤ n)
    (text : is_text it ≡ true) where
  total_is : (j : ℕ) → j ≤ n → text_total it j ≡ flat_total it flat start j
  total_is j h = ap (total it.document.style.topskip it.document.style.maxdepth) (r.segment j h)

  goal_is : (j : ℕ) → j ≤ n → text_goal it j ≡ flat_goal it flat start j
  goal_is j h = ap (λ (xs : List Item). room it -ℤ notes it.document.style xs) (r.segment j h)

  over_is : (j : ℕ) → j ≤ n → text_is_over it j ≡ flat_is_over it flat start j
  over_is j h = ap (λ (xs : List Item). is_over
      (total it.document.style.topskip it.document.style.maxdepth xs) (shrink xs)
      (tallest_room it -ℤ smallest_notes it.document.style xs)) (r.segment j h)

  badness_is : text_badness it n ≡ flat_badness it flat start n
  badness_is =
      ap (λ (b : Bool). fill_badness b (text_goal it n) (text_total it n) (has_infinite (segment it n))
      (text_stretch it n) (text_shrink it n)) (r.spent n (omega arith))
      ∙ ap (λ (xs : List Item). fill_badness (is_spent flat (start + n))
      (room it -ℤ notes it.document.style xs)
      (total it.document.style.topskip it.document.style.maxdepth xs) (has_infinite xs)
      (unwrap_or it.document.style.ragged (stretch Finite xs +ℤ give gap_stretch it xs))
      (shrink xs +ℤ give gap_shrink it xs)) (r.segment n (omega arith))

  and_same : (a b c d : Bool) → a ≡ c → b ≡ d → (a && b) ≡ (c && d)
  and_same a b c d p q = cc

  or_same : (a b c d : Bool) → a ≡ c → b ≡ d → (a || b) ≡ (c || d)
  or_same a b c d p q = cc

  well_formed : is_well_formed it
      ≡ (list_any is_box (take n (drop start flat)) && is_some (break_penalty flat (start + n)))
  well_formed =
      if_true (is_text it) (at_size it
      (λ k. list_any is_box (take k (items_of it)) && is_some (break_penalty (items_of it) k))) _ text
      ∙ (at_is (size_of it) (λ k. list_any is_box (take k (items_of it))
      && is_some (break_penalty (items_of it) k)) false n r.size
      ∙ and_same (list_any is_box (take n (items_of it))) (is_some (break_penalty (items_of it) n)) _ _
      (ap (list_any is_box) (r.text n (omega arith))) (ap is_some (r.penalty n some (omega arith))))

  tolerable : is_tolerable it ≡ (not (flat_is_over it flat start n)
      && (is_forced flat (start + n) || nat_le (flat_badness it flat start n) it.document.style.tolerance))
  tolerable =
      where_true (is_text it) (at_size it
      (λ k. not (text_is_over it k) &&
      (is_forced (items_of it) k || nat_le (text_badness it k) it.document.style.tolerance))) text
      ∙ (at_is (size_of it) (λ k. not (text_is_over it k)
      && (is_forced (items_of it) k || nat_le (text_badness it k) it.document.style.tolerance)) false n
      r.size
      ∙ and_same (not (text_is_over it n))
      (is_forced (items_of it) n || nat_le (text_badness it n) it.document.style.tolerance) _ _
      (ap not (over_is n (omega arith)))
      (or_same (is_forced (items_of it) n) (nat_le (text_badness it n) it.document.style.tolerance) _ _
      (r.forced n (omega arith)) (ap (λ (b : ℕ). nat_le b it.document.style.tolerance) badness_is)))

  passes : passes_breaks it ≡ passes_behind flat start (flat_is_over it flat start) n
  passes =
      where_true (is_text it) (at_size it (passes_between (items_of it) (text_is_over it))) text
      ∙ (at_is (size_of it) (passes_between (items_of it) (text_is_over it)) false n r.size
      ∙ (r.passes (text_is_over it)
      ∙ all_same (λ (j : ℕ). not (is_some (break_penalty flat (start + j))
      && list_any is_box (take j (drop start flat)))
      || not (is_forced flat (start + j) || text_is_over it j))
      (λ (j : ℕ). not (is_some (break_penalty flat (start + j)) && list_any is_box (take j (drop start flat)))
      || not (is_forced flat (start + j) || flat_is_over it flat start j)) (range_with_len 1 (n - 1))
      each))
    where
      each : (j : ℕ) → Among j (range_with_len 1 (n - 1)) →
          (not (is_some (break_penalty flat (start + j)) && list_any is_box (take j (drop start flat)))
          || not (is_forced flat (start + j) || text_is_over it j))
          ≡ (not (is_some (break_penalty flat (start + j)) && list_any is_box (take j (drop start flat)))
          || not (is_forced flat (start + j) || flat_is_over it flat start j))
      each j a =
          let b = slot_below 1 (n - 1) j a in
          let h : j ≤ n = below j b.1 in
          ap (λ (o : Bool). not (is_some (break_penalty flat (start + j))
          && list_any is_box (take j (drop start flat))) || not (is_forced flat (start + j) || o))
          (over_is j h)
        where
          below : (j : ℕ) → j < 1 + (n - 1) → j ≤ n
          below j h = omega (arith, h, some)

  note_limits : keeps_note_limits it ≡ are_notes_within_limits it.document.style (flat_segment flat start n)
  note_limits =
      where_true (is_text it) (at_size it (λ k. are_notes_within_limits it.document.style (segment it k))) text
      ∙ (at_is (size_of it) (λ k. are_notes_within_limits it.document.style (segment it k)) false n r.size
      ∙ ap (are_notes_within_limits it.document.style) (r.segment n (omega arith)))

  fitness : column_fitness it ≡ (if it.document.style.version == 1 then 2 else fitness_by
      (flat_total it flat start n) (flat_goal it flat start n) (flat_badness it flat start n))
  fitness =
      at_is (size_of it) (text_fitness it) 2 n r.size
      ∙ same (text_total it n) (flat_total it flat start n) (text_goal it n) (flat_goal it flat start n)
      (text_badness it n) (flat_badness it flat start n) (total_is n (omega arith))
      (goal_is n (omega arith)) badness_is
    where
      same : (t t' g g' : ℤ) (b b' : ℕ) → t ≡ t' → g ≡ g' → b ≡ b' →
          (if it.document.style.version == 1 then 2 else fitness_by t g b)
          ≡ (if it.document.style.version == 1 then 2 else fitness_by t' g' b')
      same t t' g g' b b' p q s = ap (λ (x : ℤ). if it.document.style.version == 1 then 2 else fitness_by x g
          b) p ∙ (ap (λ (x : ℤ). if it.document.style.version == 1 then 2 else fitness_by t' x b) q
          ∙ ap (λ (x : ℕ). if it.document.style.version == 1 then 2 else fitness_by t' g' x) s)

  demerits : column_demerits it ≡ break_demerits it.document.style (flat_badness it flat start n)
      (unwrap_or (break_penalty flat (start + n)) (pos 0))
  demerits =
      if_true (is_text it) (option_map_or (text_demerits it) (size_of it) (pos 0))
      (pos it.document.style.float_column.demerits) text
      ∙ (at_is (size_of it) (text_demerits it) (pos 0) n r.size
      ∙ (ap (λ (b : ℕ). break_demerits it.document.style b (unwrap_or (break_penalty (items_of it) n) (pos 0)))
      badness_is
      ∙ ap (λ (o : Option ℤ). break_demerits it.document.style (flat_badness it flat start n) (unwrap_or o (pos 0)))
      (r.penalty n some (omega arith))))

  rules_read : RulesReadFlat it flat start n
  rules_read = record {
    well_formed = well_formed;
    tolerable = tolerable;
    passes = passes;
    note_limits =
        note_limits;
    fitness = fitness;
    demerits = demerits;
  }

-- ---- a text column has an item

first_item : (all : List Block) (from to : Place) (xs : List FlatItem) → Leads all from xs →
    StandsAt all xs 0 to → to ≡ from
first_item all from to [] l (inl (x, (at, is))) = absurd cc
first_item all from to [] l (inr (e, t)) = t ∙ sym l
first_item all from to (y ∷ ys) l (inl (x, (at, is))) =
    sym is ∙ (ap (λ (z : FlatItem). z.place) (sym (same y x at)) ∙ l.0)
  where
    same : (a b : FlatItem) → Some a ≡ Some b → a ≡ b
    same a b e = cc
first_item all from to (y ∷ ys) l (inr (e, t)) = absurd (omega arith)

not_text : (it : ColumnContext) → it.column.to ≡ it.column.from → is_text it ≡ true → ⊥
not_text it e h =
    let s : is_same_place it.column.from it.column.to ≡ true =
    subst (λ (at : Place). is_same_place it.column.from at ≡ true) (sym e) (place_refl it.column.from) in
    no (is_same_place it.column.from it.column.to) s h
  where
    no : (b : Bool) → b ≡ true → not b ≡ true → ⊥
    no true p q = absurd cc
    no false p q = absurd cc

text_some : (it : ColumnContext) → AllByRecursion IsBlock it.document.blocks →
    IsPlace it.document.blocks it.column.from → (f : Fits it) → is_text it ≡ true → (n : ℕ) →
    size_of it ≡ Some n → 1 ≤ n
text_some it blocks place f text zero e =
    absurd (not_text it (first_item it.document.blocks it.column.from it.column.to (flat_items_of it)
    (leads it.document.blocks it.column.from it.column.picks blocks place f.named)
    (stands_at it.document.blocks (flat_items_of it) it.column.to 0 e)) text)
text_some it blocks place f text (suc n) e = omega arith

pub rules_read_flat : (g : GalleyValue) (s : StyleValue) → AreInRange g s → RulesReadTheFlatList g s
rules_read_flat g s range plan behind m ms c e = record {
  stands = columns_read_flat g s range plan behind m ms c e;
  rules = λ text. rules_read (context (document g s) m ms) _ _ _ stands.reads
      (text_some (context (document g s) m ms) range.blocks place
      (fits_of (context (document g s) m ms) (chain_fits (document g s) range.blocks m ms here.0)) text
      stands.n stands.reads.size) text;
}
  where
    stands : StandsInFlat g s behind m ms (picks_of (columns plan))
    stands = columns_read_flat g s range plan behind m ms c e

    here : Chained (document g s) (m ∷ ms)
    here = chained_tail (document g s) behind (m ∷ ms) (subst (Chained (document g s)) e c)

    place : IsPlace g.blocks m.column.from
    place = subst (IsPlace g.blocks)
        (sym (same_place m.column.from (place_of ms)
        (both_of (is_same_place m.column.from (place_of ms)) _ here.0).0))
        (chain_place (document g s) range.blocks ms here.1)
