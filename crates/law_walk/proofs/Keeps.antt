-- A column keeps the rules on its text just where its end does by what was kept of its items.
use Rattle.std.proofs.Common.{◌≡◌, refl, sym, ap, ◌∙◌, subst, ℕ, ◌≤◌, length, take, Bool, true, false, Option, Some, None, ℤ, pos}
use Rattle.std.specs.Prelude.{◌||◌, ◌&&◌, ◌==◌, not, is_some, int_le, nat_le, unwrap_or}
use Rattle.std.specs.List.{AllByRecursion}
use Rattle.std.specs.Option.{option_map_or}
use Rattle.std.proofs.lemmas.Bool.{eqb-true}
use Rattle.pg_list.specs.Shapes.{IsBlock}
use Rattle.pg_list.specs.Break.{passes_between}
use Rattle.pg_list.specs.Flat.{fronts}
use Rattle.pg_style.specs.Ranges.{IsStyle}
use Rattle.pg_breaks.specs.Near.{place_penalty, place_forced}
use Rattle.pg_lemmas.proofs.Bools.{both, both_of, where_true}
use Rattle.pg_lemmas.proofs.Numbers.{eq_refl}
use Rattle.pg_rules.specs.BestPicks.{keeps_text}
use Rattle.pg_rules.specs.ColumnRules.{column_variants, does_fit, has_room, is_tolerable, is_well_formed, keeps_looseness, keeps_note_limits, passes_breaks, text_is_over}
use Rattle.pg_rules.specs.Cost.{pick_demerits}
use Rattle.pg_rules.specs.Room.{ColumnContext, Document, flat_items_of, is_text, items_of, room, size_of, tallest_room}
use Rattle.pg_column.specs.Judged.{Walked}
use Rattle.pg_column.specs.Numbers.{AreNumbers, most_room, text_room}
use Rattle.pg_column.specs.Passed.{IsPassed, Passed, are_within, fits, is_end_here, least_notes, least_room, nothing, pass_items}
use Rattle.pg_column.specs.declared.cost.TextRoom.{TextRoom}
use Rattle.pg_column.proofs.Judging.{steps_within, some_items as some_judged, formed_is as formed_judged, tolerable_is as tolerable_judged, passes_is as passes_judged, room_is as room_judged, limits_is as limits_judged, numbers_at}
use Rattle.pg_column.proofs.Passing.{agrees, over_least}
use Rattle.pg_column.proofs.Walking.{IsWalked}
use Rattle.law_walk.specs.Candidates.{Candidate, IsCandidate, cost_in, has_text, is_over_in, keeps_in}

-- the penalty of a break is there
pub some_back : (o : Option ℤ) → is_some o ≡ true → o ≡ Some (unwrap_or o (pos 0))
some_back None e = absurd cc
some_back (Some p) e = refl

module _ (it : ColumnContext) (all : AllByRecursion IsBlock it.document.blocks) (is-style : IsStyle it.document.style)
    (named : length (column_variants it) ≡ length it.column.picks) (text : is_text it ≡ true) (n : ℕ)
    (size : size_of it ≡ Some n) where
  abbrev pub at_end : (ℕ → Bool) → Bool
  at_end test = option_map_or test (size_of it) false

  at_is : (test : ℕ → Bool) → at_end test ≡ test n
  at_is test = ap (λ (o : Option ℕ). option_map_or test o false) size

  pub within : n ≤ length (flat_items_of it)
  within = steps_within it.document.blocks (flat_items_of it) it.column.to n size

  pub text_passes : passes_breaks it ≡ passes_between (items_of it) (text_is_over it) n
  text_passes = where_true (is_text it) _ text ∙ at_is (passes_between (items_of it) (text_is_over it))

  -- ---- with what was kept

  module _ (p : Passed) (kept : pass_items it.document nothing (take n (flat_items_of it)) ≡ Some p) where
    abbrev pub candidate : Candidate
    candidate = record {
      to = it.column.to;
      picks = it.column.picks;
      passed = p;
      pick_demerits = pick_demerits it;
    }

    is : IsPassed it.document.style (take n (items_of it)) p
    is = (agrees it.document all is-style it.column.from it.column.picks named n within).0 p kept

    abbrev walked : Walked
    walked = record { totals = p.totals; notes = p.notes; passes = fits p.bound (tallest_room it) }

    went : IsWalked it.document all is-style it.column.from it.column.picks named (text_room it) n walked
    went = record {
      sums = record { totals_are = is.totals_are; notes_are = is.notes_are; places = is.places };
      passes = sym ((agrees it.document all is-style it.column.from it.column.picks named n within).1 (tallest_room it)
          ∙ ap (λ (o : Option Passed). option_map_or (λ (q : Passed). fits q.bound (tallest_room it)) o false) kept);
    }

    pub some_items : p.totals.has_box ≡ true → 1 ≤ n
    some_items = some_judged it all is-style named text n size walked went

    pub formed_is : is_well_formed it ≡ is_end_here it.document.blocks p it.column.to
    formed_is = formed_judged it all is-style named text n size walked went

    pub tolerable_is : is_tolerable it ≡ (not (is_over_in it.document.style (text_room it) p)
        && (place_forced it.document.blocks it.column.to
        || nat_le (cost_in it.document (text_room it) candidate).badness it.document.style.tolerance))
    tolerable_is = tolerable_judged it all is-style named text n size walked went

    pub passes_is : passes_breaks it ≡ fits p.bound (tallest_room it)
    passes_is = passes_judged it all is-style named text n size walked went

    pub room_is : has_room it ≡ int_le it.document.style.min_text (room it)
    room_is = room_judged it all is-style named text n size walked went

    pub limits_is : keeps_note_limits it ≡ are_within it.document.style p
    limits_is = limits_judged it all is-style named text n size walked went

    pub usable_is : is_over_in it.document.style (text_room it) p ≡ not (int_le (least_room it.document.style p) (tallest_room it))
    usable_is = over_least p.totals.total p.totals.shrink (least_notes it.document.style p) (tallest_room it)

    -- at an end the numbers are those of the column
    pub numbers_are : is_end_here it.document.blocks p it.column.to ≡ true →
        AreNumbers it n (cost_in it.document (text_room it) candidate)
    numbers_are h =
        let two = both_of p.totals.has_box _ h in
        numbers_at it all is-style named text n size walked went
        (unwrap_or (place_penalty it.document.blocks it.column.to) (pos 0)) two.0
        (some_back (place_penalty it.document.blocks it.column.to) two.1) n size

-- ---- what a column to an end keeps, one by one

pub record KeptParts (doc : Document) (room : TextRoom) (c : Candidate) : Type 0 where
  pub under : not (is_over_in doc.style room c.passed) ≡ true
  pub tolerable : (not (is_over_in doc.style room c.passed)
      && (place_forced doc.blocks c.to || nat_le (cost_in doc room c).badness doc.style.tolerance)) ≡ true
  pub bound : fits c.passed.bound (most_room room) ≡ true
  pub text : has_text doc.style room ≡ true

pub kept_parts : (doc : Document) (room : TextRoom) (c : Candidate) → keeps_in doc room c ≡ true → KeptParts doc room c
kept_parts doc room c k =
    let two = both_of _ (has_text doc.style room) k in
    let one = both_of (not (is_over_in doc.style room c.passed)
    && (place_forced doc.blocks c.to || nat_le (cost_in doc room c).badness doc.style.tolerance))
    (fits c.passed.bound (most_room room)) two.0 in
    record {
      under = (both_of (not (is_over_in doc.style room c.passed)) _ one.0).0;
      tolerable = one.0;
      bound = one.1;
      text = two.1;
    }

-- ---- a column that keeps the rules has a candidate

pub record HasCandidate (it : ColumnContext) : Type 0 where
  pub size : ℕ
  pub size_is : size_of it ≡ Some size
  pub named : length (column_variants it) ≡ length it.column.picks
  pub passed : Passed
  pub kept : pass_items it.document nothing (take size (flat_items_of it)) ≡ Some passed
  pub is : IsCandidate it.document it.column.from (record {
    to = it.column.to;
    picks = it.column.picks;
    passed = passed;
    pick_demerits = pick_demerits it;
  })
  pub keeps : keeps_in it.document (text_room it) (record {
    to = it.column.to;
    picks = it.column.picks;
    passed = passed;
    pick_demerits = pick_demerits it;
  }) ≡ true

module _ (it : ColumnContext) (all : AllByRecursion IsBlock it.document.blocks) (is-style : IsStyle it.document.style)
    (text : is_text it ≡ true) where
  not_same : (b : Bool) → not b ≡ true → b ≡ false
  not_same false e = refl
  not_same true e = absurd cc

  pub has_candidate : keeps_text it ≡ true → HasCandidate it
  has_candidate h = sized (size_of it) refl t1.0
    where
      t1 : (does_fit it ≡ true) × ((is_well_formed it && (is_tolerable it && (passes_breaks it
          && (has_room it && (keeps_note_limits it && keeps_looseness it))))) ≡ true)
      t1 = both_of (does_fit it) _ h

      t2 : (is_well_formed it ≡ true) × ((is_tolerable it && (passes_breaks it
          && (has_room it && (keeps_note_limits it && keeps_looseness it)))) ≡ true)
      t2 = both_of (is_well_formed it) _ t1.1

      t3 : (is_tolerable it ≡ true) × ((passes_breaks it
          && (has_room it && (keeps_note_limits it && keeps_looseness it))) ≡ true)
      t3 = both_of (is_tolerable it) _ t2.1

      t4 : (passes_breaks it ≡ true) × ((has_room it && (keeps_note_limits it && keeps_looseness it)) ≡ true)
      t4 = both_of (passes_breaks it) _ t3.1

      t5 : (has_room it ≡ true) × ((keeps_note_limits it && keeps_looseness it) ≡ true)
      t5 = both_of (has_room it) _ t4.1

      t6 : (keeps_note_limits it ≡ true) × (keeps_looseness it ≡ true)
      t6 = both_of (keeps_note_limits it) (keeps_looseness it) t5.1

      Fits : Option ℕ → Type 0
      Fits o = option_map_or (λ (n : ℕ). (fronts (flat_items_of it) n == length it.column.picks)
          && (length (column_variants it) == length it.column.picks)) o false ≡ true

      known : (n : ℕ) → size_of it ≡ Some n → fronts (flat_items_of it) n ≡ length it.column.picks →
          length (column_variants it) ≡ length it.column.picks → (o : Option Passed) →
          pass_items it.document nothing (take n (flat_items_of it)) ≡ o → HasCandidate it
      known n size fr named None e =
          let a = (agrees it.document all is-style it.column.from it.column.picks named n
          (within it all is-style named text n size)).1 (tallest_room it) in
          let none : passes_breaks it ≡ false =
          text_passes it all is-style named text n size ∙ (a
          ∙ ap (λ (o : Option Passed). option_map_or (λ (q : Passed). fits q.bound (tallest_room it)) o false) e) in
          absurd (let k : true ≡ false = sym t4.0 ∙ none in cc)
      known n size fr named (Some p) e = record {
        size = n;
        size_is = size;
        named = named;
        passed = p;
        kept = e;
        is = record {
          apart = not_same _ text;
          size = n;
          leads = size;
          fronts_are = fr;
          named = named;
          passes = e;
          ends = sym (formed_is it all is-style named text n size p e) ∙ t2.0;
          limits = sym (limits_is it all is-style named text n size p e) ∙ t6.0;
          loose = t6.1;
          demerits = refl;
        };
        keeps = both _ _ (both _ _ (sym (tolerable_is it all is-style named text n size p e) ∙ t3.0)
            (sym (passes_is it all is-style named text n size p e) ∙ t4.0))
            (sym (room_is it all is-style named text n size p e) ∙ t5.0);
      }

      sized : (o : Option ℕ) → size_of it ≡ o → does_fit it ≡ true → HasCandidate it
      sized None e f = absurd (let k : Fits None = subst Fits e f in cc)
      sized (Some n) e f =
          let g : Fits (Some n) = subst Fits e f in
          let two = both_of (fronts (flat_items_of it) n == length it.column.picks)
          (length (column_variants it) == length it.column.picks) g in
          known n e (eqb-true _ _ two.0) (eqb-true _ _ two.1)
          (pass_items it.document nothing (take n (flat_items_of it))) refl

  -- ---- and a candidate that keeps the rules is that of a column that does

  pub keeps_back : (p : Passed) → (d : ℤ) → (c : IsCandidate it.document it.column.from (record {
    to = it.column.to;
    picks = it.column.picks;
    passed = p;
    pick_demerits = d;
  })) → keeps_in it.document (text_room it) (record {
    to = it.column.to;
    picks = it.column.picks;
    passed = p;
    pick_demerits = d;
  }) ≡ true → keeps_text it ≡ true
  keeps_back p d c k =
      let n = c.size in
      let parts = kept_parts it.document (text_room it) (record {
        to = it.column.to;
        picks = it.column.picks;
        passed = p;
        pick_demerits = d;
      }) k in
      both _ _ (ap (λ (o : Option ℕ). option_map_or (λ (n : ℕ). (fronts (flat_items_of it) n == length it.column.picks)
      && (length (column_variants it) == length it.column.picks)) o false) c.leads
      ∙ both _ _ (ap (λ (m : ℕ). m == length it.column.picks) c.fronts_are ∙ eq_refl _)
      (ap (λ (m : ℕ). m == length it.column.picks) c.named ∙ eq_refl _))
      (both _ _ (formed_is it all is-style c.named text n c.leads p c.passes ∙ c.ends)
      (both _ _ (tolerable_is it all is-style c.named text n c.leads p c.passes ∙ parts.tolerable)
      (both _ _ (passes_is it all is-style c.named text n c.leads p c.passes ∙ parts.bound)
      (both _ _ (room_is it all is-style c.named text n c.leads p c.passes ∙ parts.text)
      (both _ _ (limits_is it all is-style c.named text n c.leads p c.passes ∙ c.limits) c.loose)))))
