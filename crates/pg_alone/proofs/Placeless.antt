-- A float for whose class there is no place forbids every pagination.
use Rattle.std.proofs.Common.{◌≡◌, sym, ap, subst, ◌∙◌, inl, inr, ℕ, ◌+◌, ◌<◌, ◌≤◌, List, [], ◌∷◌, ◌++◌, length, take, drop, true, false, Bool, arith}
use Rattle.std.specs.Prelude.{◌==◌, ◌&&◌, ◌||◌, not, nat_le, if◌then◌else◌, ℤ}
use Rattle.std.specs.List.{list_all, range_with_len}
use Rattle.std.proofs.Math.Seq.{take-length}
use Rattle.std.proofs.lemmas.Bool.{eqb-true, leb-true}
use Rattle.std.proofs.lemmas.List.{length-map}
use Rattle.std.proofs.lemmas.Option.{slice_get_within}
use Rattle.pg_lemmas.proofs.Bools.{both_of, by_bool, if_false, if_true, not_true, or_cases}
use Rattle.pg_list.specs.Flat.{flat}
use Rattle.pg_list.specs.GalleyValue.{GalleyValue}
use Rattle.pg_plan.specs.Order.{columns}
use Rattle.pg_plan.specs.declared.pages.PageMove.{PageMove}
use Rattle.pg_style.specs.Values.{StyleValue}
use Rattle.pg_style.specs.declared.style.Area.{Area}
use Rattle.pg_floats.specs.Spots.{takes_slot}
use Rattle.pg_rules.specs.Floats.{entry, float_numbers, floats, is_area_allowed, plus_counts, sizes_of, takes_bottom, takes_in_column, takes_top, takes_wide, total_count}
use Rattle.pg_rules.specs.History.{context, next_column, placed_of, with_wide}
use Rattle.pg_rules.specs.Legal.{document}
use Rattle.pg_rules.specs.Ranges.{AreInRange}
use Rattle.pg_rules.specs.Room.{ColumnContext, Document, is_bottom_allowed, is_text, is_top_allowed}
use Rattle.law_places.proofs.Among.{Among, all_at, among_cases}
use Rattle.law_places.proofs.Members.{below_in, contains_among}
use Rattle.law_columns.specs.BeginningLaws.{KeepsRules}
use Rattle.law_columns.specs.Stands.{Stand, StandsAfter}
use Rattle.law_columns.proofs.BeginningContracts.{unbroken_keep_rules}
use Rattle.law_texts.specs.Texts.{column_floats, dealt_floats, next_floats}
use Rattle.law_texts.proofs.Once.{all_dealt, dealt_take}
use Rattle.pg_alone.specs.Alone.{PlacelessForbid, has_no_place, takes_none}
use Rattle.pg_alone.proofs.Dealt.{no_count, none_taken}

-- what an area with no place for a class counts of it
no_entry : (s : StyleValue) (takes : Area → Bool) (count : ℕ) (counts : List ℕ) (slot : ℕ) →
    slot < length (float_numbers s) → takes_none s takes count slot ≡ true →
    is_area_allowed s takes count counts ≡ true → entry counts slot ≡ 0
no_entry s takes count counts slot within none allowed =
    elim (or_cases (count == 0) (not (takes_slot s takes slot)) none) [
      | inl is ↦ (let zero_is : count ≡ 0 = eqb-true count 0 is in
          let few : total_count counts ≤ count = leb-true (total_count counts) count fits.1 in
          let total : total_count counts ≡ 0 = omega arith in
          no_count counts slot total)
      | inr is ↦ elim (or_cases (entry counts slot == 0) (takes_slot s takes slot) here) [
        | inl empty ↦ eqb-true (entry counts slot) 0 empty
        | inr there ↦ absurd (differs (takes_slot s takes slot) there (not_true (takes_slot s takes slot) is))
      ]
    ]
  where
    parts : (((length counts == length (float_numbers s)) && nat_le (total_count counts) count) ≡ true)
        × (list_all (λ (i : ℕ). (entry counts i == 0) || takes_slot s takes i) (range_with_len 0 (length counts)) ≡ true)
    parts = both_of ((length counts == length (float_numbers s)) && nat_le (total_count counts) count) _ allowed

    fits : ((length counts == length (float_numbers s)) ≡ true) × (nat_le (total_count counts) count ≡ true)
    fits = both_of (length counts == length (float_numbers s)) (nat_le (total_count counts) count) parts.0

    long : length counts ≡ length (float_numbers s)
    long = eqb-true (length counts) (length (float_numbers s)) fits.0

    here : ((entry counts slot == 0) || takes_slot s takes slot) ≡ true
    here =
        let inside : slot < length counts = subst (λ (n : ℕ). slot < n) (sym long) within in
        all_at (λ (i : ℕ). (entry counts i == 0) || takes_slot s takes i) (range_with_len 0 (length counts)) slot parts.1
        (below_in (length counts) slot inside)

    differs : (b : Bool) → b ≡ true → b ≡ false → ⊥
    differs true e f = cc
    differs false e f = cc

module _ (g : GalleyValue) (s : StyleValue) (range : AreInRange g s) where
  abbrev doc : Document
  doc = document g s

  abbrev lists : List (List ℤ)
  lists = floats g.blocks s

  lists_long : length lists ≡ length (float_numbers s)
  lists_long = length-map (float_numbers s) (λ (number : ℕ). sizes_of number (flat g.blocks []))

  module _ (slot : ℕ) (own : List ℤ) (within : slot < length (float_numbers s)) (z : ℤ)
      (none : has_no_place s slot ≡ true) where
    pairs : ((takes_none s takes_wide s.wide.count slot && takes_none s takes_in_column s.float_column.count slot) ≡ true)
        × ((takes_none s takes_top s.top.count slot && takes_none s takes_bottom s.bottom.count slot) ≡ true)
    pairs = both_of _ _ none

    across : (takes_none s takes_wide s.wide.count slot ≡ true) × (takes_none s takes_in_column s.float_column.count slot ≡ true)
    across = both_of _ _ pairs.0

    along : (takes_none s takes_top s.top.count slot ≡ true) × (takes_none s takes_bottom s.bottom.count slot ≡ true)
    along = both_of _ _ pairs.1

    module _ (m : PageMove) (ms : List PageMove) (stands : StandsAfter doc m ms) where
      abbrev it : ColumnContext
      it = context doc m ms

      no_wide : entry m.wide slot ≡ 0
      no_wide = by_bool (next_column s ms == 1) here later
        where
          counts : (if next_column s ms == 1 then is_area_allowed s takes_wide s.wide.count m.wide
              else total_count m.wide == 0) ≡ true
          counts = (both_of (length m.wide == length (float_numbers s)) _ stands.stands.wide).1

          here : (next_column s ms == 1) ≡ true → entry m.wide slot ≡ 0
          here is_it = no_entry s takes_wide s.wide.count m.wide slot within across.0
              (sym (if_true (next_column s ms == 1) _ _ is_it) ∙ counts)

          later : (next_column s ms == 1) ≡ false → entry m.wide slot ≡ 0
          later is_not = no_count m.wide slot (eqb-true (total_count m.wide) 0
              (sym (if_false (next_column s ms == 1) _ _ is_not) ∙ counts))

      allowed : (is_top_allowed it ≡ true) × (is_bottom_allowed it ≡ true)
      allowed = (
        (both_of _ (is_top_allowed it) (both_of _ (is_bottom_allowed it) stands.stands.rules.counts).0).1,
        (both_of _ (is_bottom_allowed it) stands.stands.rules.counts).1,
      )

      no_top : entry m.column.top slot ≡ 0
      no_top = by_bool (is_text it)
          (λ text. no_entry s takes_top s.top.count m.column.top slot within along.0
          (sym (if_true (is_text it) _ _ text) ∙ allowed.0))
          (λ bare. no_entry s takes_in_column s.float_column.count m.column.top slot within across.1
          (sym (if_false (is_text it) _ _ bare) ∙ allowed.0))

      no_bottom : entry m.column.bottom slot ≡ 0
      no_bottom = by_bool (is_text it)
          (λ text. no_entry s takes_bottom s.bottom.count m.column.bottom slot within along.1
          (sym (if_true (is_text it) _ _ text) ∙ allowed.1))
          (λ bare. no_entry s takes_in_column s.float_column.count m.column.bottom slot within across.1
          (sym (if_false (is_text it) _ _ bare) ∙ allowed.1))

      none_here : Among z (column_floats s own slot (placed_of s ms) m) → ⊥
      none_here a = elim (among_cases z (next_floats own slot (placed_of s ms) m.wide)
          (next_floats own slot (with_wide s (placed_of s ms) m) m.column.top
          ++ next_floats own slot (plus_counts s (with_wide s (placed_of s ms) m) m.column.top) m.column.bottom) a) [
            | inl h ↦ none_taken (entry m.wide slot) (drop (entry (placed_of s ms) slot) own) z no_wide h
            | inr h ↦ elim (among_cases z (next_floats own slot (with_wide s (placed_of s ms) m) m.column.top)
                (next_floats own slot (plus_counts s (with_wide s (placed_of s ms) m) m.column.top) m.column.bottom) h) [
                  | inl i ↦ none_taken (entry m.column.top slot)
                      (drop (entry (with_wide s (placed_of s ms) m) slot) own) z no_top i
                  | inr i ↦ none_taken (entry m.column.bottom slot)
                      (drop (entry (plus_counts s (with_wide s (placed_of s ms) m) m.column.top) slot) own) z no_bottom i
                ]
          ]

    none_dealt : (ms : List PageMove) → Stand doc ms → Among z (dealt_floats s own slot ms) → ⊥
    none_dealt [] stand a = a
    none_dealt (m ∷ ms) (here, rest) a =
        elim (among_cases z (dealt_floats s own slot ms) (column_floats s own slot (placed_of s ms) m) a) [
          | inl h ↦ none_dealt ms rest h
          | inr h ↦ none_here m ms here h
        ]

  pub placeless_forbid : PlacelessForbid g s
  placeless_forbid slot size plan has none legal =
      let k : KeepsRules g s plan = (unbroken_keep_rules g s range plan).0 legal.unbroken in
      let inside : slot < length lists = slice_get_within lists slot has.sizes has.at in
      let within : slot < length (float_numbers s) = subst (λ (n : ℕ). slot < n) lists_long inside in
      let i : 0 + slot ≡ slot = omega arith in
      let all : entry (placed_of s (columns plan)) slot ≡ length has.sizes =
      ap (entry (placed_of s (columns plan))) (sym i)
      ∙ all_dealt (placed_of s (columns plan)) 0 lists slot has.sizes k.dealt has.at in
      let dealt_is : dealt_floats s has.sizes slot (columns plan) ≡ has.sizes =
      dealt_take s has.sizes slot within (columns plan)
      ∙ (ap (λ (n : ℕ). take n has.sizes) all ∙ take-length has.sizes) in
      none_dealt slot has.sizes within size none (columns plan) k.stand
      (subst (λ (xs : List ℤ). Among size xs) (sym dealt_is) (contains_among has.sizes size has.has))
