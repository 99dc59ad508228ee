-- The verdict on what was kept along a span is that of the rules on the column.
use Rattle.std.proofs.Common.{◌≡◌, refl, sym, ap, ◌∙◌, subst, ℕ, zero, suc, ◌≤◌, List, length, take, arith, Bool, true, false, Option, Some, None, ℤ}
use Rattle.std.specs.Prelude.{◌||◌, ◌&&◌, ◌==◌, not, if◌then◌else◌, is_some, is_none, int_le, nat_le, Result, Err}
use Rattle.std.specs.List.{list_any, AllByRecursion, position}
use Rattle.std.specs.Option.{option_map_or, option_or}
use Rattle.pg_list.specs.declared.blocks.Block.{Block}
use Rattle.pg_list.specs.declared.galley.Place.{Place}
use Rattle.pg_list.specs.Shapes.{IsBlock, is_box}
use Rattle.pg_list.specs.Break.{break_penalty, is_forced, is_spent, passes_between}
use Rattle.pg_list.specs.Flat.{FlatItem, blocks_at, end_of, fronts, is_same_place, steps_to}
use Rattle.pg_list.specs.Totals.{trimmed}
use Rattle.pg_style.specs.Ranges.{IsStyle}
use Rattle.pg_breaks.specs.Near.{place_penalty, place_forced, place_spent}
use Rattle.pg_breaks.proofs.Answers.{forced-column, penalty-column, spent-column}
use Rattle.pg_breaks.proofs.Lists.{get_lt}
use Rattle.pg_notes.specs.NotesValue.{first_over_limit}
use Rattle.pg_notes.proofs.Kept.{first_is, none_is}
use Rattle.pg_notes.proofs.Sizes.{limits_trimmed}
use Rattle.law_places.proofs.Places.{Found, found}
use Rattle.pg_rules.specs.ColumnRules.{column_variants, does_fit, has_room, is_tolerable, is_well_formed, keeps_note_limits, passes_breaks, text_badness, text_is_over}
use Rattle.pg_rules.specs.Legal.{unless}
use Rattle.pg_rules.specs.Room.{ColumnContext, Document, are_notes_within_limits, flat_items_of, is_text, items_of, room, size_of, tallest_room}
use Rattle.pg_column.specs.Fits.{does_fit_from}
use Rattle.pg_column.specs.Judged.{Judges, Walked, are_loose_enough, decided, is_tolerable_by, started, text_fault, verdict, verdict_on, walk_to}
use Rattle.pg_column.specs.Numbers.{AreNumbers, badness_for, cost_by, give_by, goal_by, is_over_by, text_room}
use Rattle.pg_column.specs.declared.cost.TextCost.{TextCost}
use Rattle.pg_column.specs.declared.cost.TextRoom.{TextRoom}
use Rattle.pg_column.proofs.Numbers.{badness_is, numbers_are}
use Rattle.pg_column.proofs.Passing.{box_is, over_is}
use Rattle.pg_column.proofs.Walking.{IsWalked, is_walked, kept, walk_all, walk_is}
use Rattle.pg_lemmas.proofs.Bools.{both_of, by_bool, where_true, if_false, if_true}
use Rattle.std.proofs.lemmas.Bool.{eqb-true}

pub steps_within : (blocks : List Block) (xs : List FlatItem) (to : Place) (n : ℕ) →
    steps_to blocks xs to ≡ Some n → n ≤ length xs
steps_within blocks xs to n e = by_bool (is_same_place to (end_of blocks))
    (λ t. let l : length xs ≡ n = some_same (length xs) n
    (sym (if_true (is_same_place to (end_of blocks)) (Some (length xs)) _ t) ∙ e) in omega (arith, l))
    (λ f. let r : Found (λ (flat_item : FlatItem). is_same_place flat_item.place to) xs n =
    found (λ (flat_item : FlatItem). is_same_place flat_item.place to) xs n
    (sym (if_false (is_same_place to (end_of blocks)) (Some (length xs))
    (position (λ (flat_item : FlatItem). is_same_place flat_item.place to) xs) f) ∙ e) in
    let h = get_lt xs n r.item r.at in omega (arith, h))
  where
    some_same : (a b : ℕ) → Some a ≡ Some b → a ≡ b
    some_same a b e = cc

-- ---- by the tests one by one

-- the least of rules 3 to 6, 11 and 13 that is not kept
abbrev pub fault_by : Bool → Bool → Bool → Bool → Bool → Bool → Option ℕ
fault_by formed tolerable passes room limits loose =
    option_or (unless formed 3) (option_or (unless tolerable 4) (option_or (unless passes 5) (option_or (unless room 6)
    (option_or (unless limits 11) (unless loose 13)))))

judged : (it : ColumnContext) (box : Bool) (end : Option ℤ) (over tolerable passes room limits loose : Bool)
    (cost : ℤ → TextCost) →
    text_fault it ≡ fault_by (box && is_some end) (not over && tolerable) passes room limits loose →
    ((penalty : ℤ) → box ≡ true → end ≡ Some penalty → (n : ℕ) → size_of it ≡ Some n → AreNumbers it n (cost penalty)) →
    Judges it (option_map_or (λ (penalty : ℤ). if over then Err 4
    else decided (record { tolerance = tolerable; breaks = passes; room = room; notes = limits; looseness = loose })
    (cost penalty)) (if box then end else None) (Err 3))
judged it false end over tolerable passes room limits loose cost e numbers = e
judged it true None over tolerable passes room limits loose cost e numbers = e
judged it true (Some penalty) true tolerable passes room limits loose cost e numbers = e
judged it true (Some penalty) false false passes room limits loose cost e numbers = e
judged it true (Some penalty) false true false room limits loose cost e numbers = e
judged it true (Some penalty) false true true false limits loose cost e numbers = e
judged it true (Some penalty) false true true true false loose cost e numbers = e
judged it true (Some penalty) false true true true true false cost e numbers = e
judged it true (Some penalty) false true true true true true cost e numbers = (e, numbers penalty refl refl)

faults_same : (it : ColumnContext) (a b c d e f a' b' c' d' e' f' : Bool) → a ≡ a' → b ≡ b' → c ≡ c' → d ≡ d' → e ≡ e' →
    f ≡ f' → fault_by a b c d e f ≡ fault_by a' b' c' d' e' f'
faults_same it a b c d e f a' b' c' d' e' f' p q r s t u = rw (p, q, r, s, t, u) refl

module _ (it : ColumnContext) (all : AllByRecursion IsBlock it.document.blocks) (is-style : IsStyle it.document.style)
    (named : length (column_variants it) ≡ length it.column.picks) (text : is_text it ≡ true) (n : ℕ)
    (size : size_of it ≡ Some n) where
  abbrev at_end : (ℕ → Bool) → Bool
  at_end test = option_map_or test (size_of it) false

  pub at_is : (test : ℕ → Bool) → at_end test ≡ test n
  at_is test = ap (λ (o : Option ℕ). option_map_or test o false) size

  pub within : n ≤ length (flat_items_of it)
  within = steps_within it.document.blocks (flat_items_of it) it.column.to n size

  pub spent_is : place_spent it.document.blocks it.column.to ≡ is_spent (items_of it) n
  spent_is = spent-column it.document.blocks all it.column.to it.column.from it.column.picks n named size

  pub forced_is : place_forced it.document.blocks it.column.to ≡ is_forced (items_of it) n
  forced_is = forced-column it.document.blocks all it.column.to it.column.from it.column.picks n named size

  pub penalty_is : 1 ≤ n → place_penalty it.document.blocks it.column.to ≡ break_penalty (items_of it) n
  penalty_is h = penalty-column it.document.blocks all it.column.to it.column.from it.column.picks n named size h

  module _ (w : Walked) (is : IsWalked it.document all is-style it.column.from it.column.picks named (text_room it) n w)
    where
      pub over_at : text_is_over it n ≡ is_over_by it.document.style (text_room it) w.totals w.notes
      over_at = over_is it.document all is-style it.column.from it.column.picks named n (kept w) (tallest_room it) is.sums

      pub box_at : w.totals.has_box ≡ list_any is_box (take n (items_of it))
      box_at = box_is it.document all is-style it.column.from it.column.picks named n (kept w) is.sums

      pub some_items : w.totals.has_box ≡ true → 1 ≤ n
      some_items e = by n (sym box_at ∙ e)
        where
          by : (k : ℕ) → list_any is_box (take k (items_of it)) ≡ true → 1 ≤ k
          by zero e = absurd cc
          by (suc k) e = omega arith

      pub badness_at : badness_for it.document.style (goal_by it.document.style (text_room it) w.notes)
          (give_by it.document.style (text_room it) w.notes) w.totals (place_spent it.document.blocks it.column.to)
          ≡ text_badness it n
      badness_at = badness_is it n it.document.style refl is-style w.totals w.notes (text_room it) refl is.sums.totals_are
          is.sums.notes_are (place_spent it.document.blocks it.column.to) spent_is

      pub numbers_at : (penalty : ℤ) → w.totals.has_box ≡ true → place_penalty it.document.blocks it.column.to
          ≡ Some penalty →
          (k : ℕ) → size_of it ≡ Some k → AreNumbers it k
          (cost_by it.document.style (text_room it) w.totals w.notes (place_spent it.document.blocks it.column.to) penalty)
      numbers_at penalty b e k s = let m : n ≡ k = some_same n k (sym size ∙ s) in
          subst (λ (j : ℕ). AreNumbers it j (cost_by it.document.style (text_room it) w.totals w.notes
          (place_spent it.document.blocks it.column.to) penalty)) m
          (numbers_are it n it.document.style refl is-style w.totals w.notes (text_room it) refl is.sums.totals_are
          is.sums.notes_are (place_spent it.document.blocks it.column.to) spent_is penalty
          (sym (penalty_is (some_items b)) ∙ e))
        where
          some_same : (a b : ℕ) → Some a ≡ Some b → a ≡ b
          some_same a b e = cc

      pub formed_is : is_well_formed it ≡ (w.totals.has_box && is_some (place_penalty it.document.blocks it.column.to))
      formed_is = if_true (is_text it) _ _ text
          ∙ (at_is (λ n. list_any is_box (take n (items_of it)) && is_some (break_penalty (items_of it) n))
          ∙ by_bool w.totals.has_box
          (λ t. same _ _ _ _ (sym box_at) (ap is_some (sym (penalty_is (some_items t)))))
          (λ f. none _ _ _ _ (sym box_at ∙ f) f))
        where
          same : (a b c d : Bool) → a ≡ c → b ≡ d → (a && b) ≡ (c && d)
          same a b c d p q = cc

          none : (a b c d : Bool) → a ≡ false → c ≡ false → (a && b) ≡ (c && d)
          none a b c d p q = rw (p, q) refl

      pub tolerable_is : is_tolerable it ≡ (not (is_over_by it.document.style (text_room it) w.totals w.notes)
          && is_tolerable_by it.document (text_room it) w it.column.to)
      tolerable_is = where_true (is_text it) _ text
          ∙ (at_is (λ n. not (text_is_over it n)
          && (is_forced (items_of it) n || nat_le (text_badness it n) it.document.style.tolerance))
          ∙ same _ _ _ _ _ _ over_at (sym forced_is) (sym badness_at))
        where
          same : (a a' b b' : Bool) (c c' : ℕ) → a ≡ a' → b ≡ b' → c ≡ c' →
              (not a && (b || nat_le c it.document.style.tolerance))
              ≡ (not a' && (b' || nat_le c' it.document.style.tolerance))
          same a a' b b' c c' p q r = rw (p, q, r) refl

      pub passes_is : passes_breaks it ≡ w.passes
      passes_is = where_true (is_text it) _ text
          ∙ (at_is (passes_between (items_of it) (text_is_over it)) ∙ sym is.passes)

      pub room_is : has_room it ≡ int_le it.document.style.min_text (room it)
      room_is = if_true (is_text it) _ _ text

      pub limits_is : keeps_note_limits it ≡ is_none (first_over_limit it.document.style.classes w.notes)
      limits_is = where_true (is_text it) _ text
          ∙ (at_is (λ n. are_notes_within_limits it.document.style (trimmed (take n (items_of it))))
          ∙ (limits_trimmed it.document.style (take n (items_of it))
          ∙ sym (ap is_none (first_is (take n (items_of it)) it.document.style.classes w.notes
          is-style.classes_in.each is.sums.notes_are) ∙ none_is (take n (items_of it)) it.document.style.classes)))

      pub judges : Judges it (verdict it.document (text_room it)
          (are_loose_enough it.document.style (blocks_at it.document.blocks it.column.from) it.column.picks)
          it.column.to w)
      judges = judged it w.totals.has_box (place_penalty it.document.blocks it.column.to)
          (is_over_by it.document.style (text_room it) w.totals w.notes) (is_tolerable_by it.document (text_room it) w it.column.to)
          w.passes (int_le it.document.style.min_text (room it))
          (is_none (first_over_limit it.document.style.classes w.notes))
          (are_loose_enough it.document.style (blocks_at it.document.blocks it.column.from) it.column.picks)
          (cost_by it.document.style (text_room it) w.totals w.notes (place_spent it.document.blocks it.column.to))
          (faults_same it _ _ _ _ _ _ _ _ _ _ _ _ formed_is tolerable_is passes_is room_is limits_is refl)
          numbers_at

-- ---- a column that fits

pub judges_walk : (it : ColumnContext) → AllByRecursion IsBlock it.document.blocks → IsStyle it.document.style →
    does_fit it ≡ true → is_text it ≡ true → Judges it (verdict it.document (text_room it)
    (are_loose_enough it.document.style (blocks_at it.document.blocks it.column.from) it.column.picks) it.column.to
    (walk_to it.document (text_room it) (is_same_place it.column.to (end_of it.document.blocks)) it.column.to started
    (flat_items_of it)))
judges_walk it all is-style fits text = by (size_of it) refl fits
  where
    Goal : Type 0
    Goal = Judges it (verdict it.document (text_room it)
        (are_loose_enough it.document.style (blocks_at it.document.blocks it.column.from) it.column.picks) it.column.to
        (walk_to it.document (text_room it) (is_same_place it.column.to (end_of it.document.blocks)) it.column.to started
        (flat_items_of it)))

    by : (o : Option ℕ) → size_of it ≡ o → does_fit it ≡ true → Goal
    by None e f = absurd (let k : false ≡ true = sym (ap (λ (o : Option ℕ). option_map_or
        (λ (n : ℕ). (fronts (flat_items_of it) n == length it.column.picks)
        && (length (column_variants it) == length it.column.picks)) o false) e) ∙ f in cc)
    by (Some n) e f =
        let two = both_of (fronts (flat_items_of it) n == length it.column.picks)
        (length (column_variants it) == length it.column.picks)
        (sym (ap (λ (o : Option ℕ). option_map_or
        (λ (n : ℕ). (fronts (flat_items_of it) n == length it.column.picks)
        && (length (column_variants it) == length it.column.picks)) o false) e) ∙ f) in
        let named : length (column_variants it) ≡ length it.column.picks = eqb-true _ _ two.1 in
        subst (λ (w : Walked). Judges it (verdict it.document (text_room it)
        (are_loose_enough it.document.style (blocks_at it.document.blocks it.column.from) it.column.picks)
        it.column.to w))
        (sym (walk_is it.document (text_room it) it.document.blocks it.column.to started (flat_items_of it) n e))
        (judges it all is-style named text n e (walk_all it.document (text_room it) started (take n (flat_items_of it)))
        (is_walked it.document all is-style it.column.from it.column.picks named (text_room it) n
        (steps_within it.document.blocks (flat_items_of it) it.column.to n e)))

-- ---- of a span

pub verdict_same : (doc : Document) (to : Place) (z room : TextRoom) → z ≡ room → (loose loose' : Bool) → loose ≡ loose' →
    (w w' : Walked) → w ≡ w' → verdict doc z loose to w ≡ verdict doc room loose' to w'
verdict_same doc to z room r loose loose' l w w' e =
    ap (λ (k : TextRoom). verdict doc k loose to w) r ∙ (ap (λ (b : Bool). verdict doc room b to w) l
    ∙ ap (λ (v : Walked). verdict doc room loose' to v) e)

on_same : (d d' : Document) → d ≡ d' → (h h' : TextRoom) → h ≡ h' → (f f' t t' : Place) → f ≡ f' → t ≡ t' → (p p' : List ℕ) →
    p ≡ p' → verdict_on d h f p t ≡ verdict_on d' h' f' p' t'
on_same d d' a h h' b f f' t t' q r p p' s =
    ap (λ (x : Document). verdict_on x h f p t) a ∙ (ap (λ (x : TextRoom). verdict_on d' x f p t) b
    ∙ (ap (λ (x : Place). verdict_on d' h' x p t) q ∙ (ap (λ (x : List ℕ). verdict_on d' h' f' x t) s
    ∙ ap (λ (x : Place). verdict_on d' h' f' p' x) r)))

fit_same : (d d' : Document) → d ≡ d' → (f f' t t' : Place) → f ≡ f' → t ≡ t' → (p p' : List ℕ) → p ≡ p' →
    does_fit_from d.blocks f p t ≡ does_fit_from d'.blocks f' p' t'
fit_same d d' a f f' t t' q r p p' s =
    ap (λ (x : Document). does_fit_from x.blocks f p t) a ∙ (ap (λ (x : Place). does_fit_from d'.blocks x p t) q
    ∙ (ap (λ (x : List ℕ). does_fit_from d'.blocks f' x t) s ∙ ap (λ (x : Place). does_fit_from d'.blocks f' p' x) r))

text_same : (f f' t t' : Place) → f ≡ f' → t ≡ t' → is_same_place f' t' ≡ false → not (is_same_place f t) ≡ true
text_same f f' t t' q r e = ap (λ (x : Place). not (is_same_place x t)) q
    ∙ (ap (λ (x : Place). not (is_same_place f' x)) r ∙ ap not e)

pub judges_span : (it : ColumnContext) (doc : Document) → it.document ≡ doc → AllByRecursion IsBlock doc.blocks →
    IsStyle doc.style → (from to : Place) (picks : List ℕ) → it.column.from ≡ from → it.column.to ≡ to →
    it.column.picks ≡ picks → (height : TextRoom) → text_room it ≡ height → does_fit_from doc.blocks from picks to ≡ true →
    is_same_place from to ≡ false → (x : Result TextCost ℕ) → x ≡ verdict_on doc height from picks to → Judges it x
judges_span it doc d all is-style from to picks f t p height r fits apart x e =
    subst (Judges it) (on_same _ _ d _ _ r _ _ _ _ f t _ _ p ∙ sym e)
    (judges_walk it (subst (λ (y : Document). AllByRecursion IsBlock y.blocks) (sym d) all)
    (subst (λ (y : Document). IsStyle y.style) (sym d) is-style)
    (fit_same _ _ d _ _ _ _ f t _ _ p ∙ fits) (text_same _ _ _ _ f t apart))
