-- One column on: what is kept goes over to the column behind.
use Rattle.std.proofs.Common.{◌≡◌, refl, sym, ap, ◌∙◌, subst, ℕ, zero, suc, ◌+◌, ◌≤◌, ◌^◌, arith, List, [], ◌∷◌, ◌++◌, drop, length, Bool, true, false, Option, Some, None, ℤ, pos, ◌+ℤ◌}
use Rattle.std.specs.Prelude.{◌==◌, ◌&&◌, not, if◌then◌else◌, is_some, nat_abs, OnOk, nat_lt, reverse, slice_get, Result, Ok, Err}
use Rattle.std.specs.List.{list_all, range_with_len}
use Rattle.std.specs.Option.{option_map_or, option_or}
use Rattle.std.proofs.lemmas.List.{reverse-append}
use Rattle.pg_list.specs.GalleyValue.{GalleyValue}
use Rattle.pg_list.specs.declared.galley.Place.{Place}
use Rattle.pg_list.specs.Flat.{is_same_place}
use Rattle.pg_plan.specs.declared.pages.Column.{Column}
use Rattle.pg_plan.specs.declared.pages.PageMove.{PageMove}
use Rattle.pg_style.specs.Values.{StyleValue}
use Rattle.pg_rules.specs.ColumnRules.{has_counts}
use Rattle.pg_rules.specs.Floats.{float_numbers, floats, has_all, is_area_allowed, plus_counts, takes_wide, total_count}
use Rattle.pg_rules.specs.History.{context, is_right, made_wide, next_column, next_run, placed_after, placed_of, side_of, wide_of, with_wide}
use Rattle.pg_rules.specs.Legal.{added, deals_floats, distance, document, first_at_fault, has_run, has_wide_counts, is_chained, unless}
use Rattle.pg_rules.specs.Room.{ColumnContext, Document, is_text}
use Rattle.pg_column.specs.Fits.{does_fit_from}
use Rattle.pg_floats.specs.FloatsValue.{ClassFloatsValue}
use Rattle.law_columns.proofs.Faults.{kept, none_or, none_unless}
use Rattle.pg_lemmas.proofs.Bools.{if_false, if_true, not_both}
use Rattle.pg_judge.specs.Added.{added_by, calls_test, counts_test, deals_test, waits_price}
use Rattle.pg_floats.specs.Counts.{capped, capped_sum}
use Rattle.pg_floats.specs.Given.{IsListOf, IsWideHeight}
use Rattle.pg_judge.specs.Moves.{fitness_cost, page_ends}
use Rattle.pg_judge.specs.Judged.{IsColumnCost, own_fitness}
use Rattle.pg_judge.specs.Progress.{AreCounted, IsAdvanced, IsGoing, IsKept, IsOutcome, IsPaid, IsProgress, broken_pair, is_lost, the_move}
use Rattle.pg_judge.specs.Verdict.{broken_by, first_false, lesser, tests_on}
use Rattle.pg_judge.specs.declared.progress.Broken.{Broken}
use Rattle.pg_rules.specs.Cost.{differs, fitness_demerits, float_demerits, pick_demerits, run_demerits}
use Rattle.pg_style.specs.Ranges.{IsStyle}
use Rattle.pg_lemmas.proofs.Numbers.{eq_not, eq_yes, few_if}
use Rattle.std.proofs.lemmas.Bool.{eqb-true}
use Rattle.pg_judge.proofs.Verdict.{broken_from, is_test_from, second_comes, second_stays}
use Rattle.pg_judge.specs.declared.judged.ColumnCost.{ColumnCost}
use Rattle.pg_rules.specs.History.{column_fitness, fitness_after}
use Rattle.pg_judge.specs.Seats.{IsSeat}
use Rattle.pg_judge.specs.Waits.{is_slot_called, prices_below, slot_price}
use Rattle.pg_judge.specs.declared.added.Counted.{Counted}
use Rattle.pg_judge.specs.declared.progress.Progress.{Progress}
use Rattle.pg_judge.specs.declared.seat.Seat.{Seat}
use Rattle.pg_floats.proofs.Capped.{AreFew, are_few, has_all_capped, plus_capped}
use Rattle.pg_judge.proofs.Deals.{AreAdded, added_is, called_is, is_close, pays, priced_is}
use Rattle.pg_judge.proofs.Priced.{ArePriced}

pub and_both : {a b c d : Bool} → a ≡ c → b ≡ d → (a && b) ≡ (c && d)
and_both {a} {b} {c} {d} e f = ap (λ (x : Bool). x && b) e ∙ ap (λ (x : Bool). c && x) f

and_all : {a b c d e f : Bool} → a ≡ d → b ≡ e → c ≡ f → (a && (b && c)) ≡ (d && (e && f))
and_all p q r = and_both p (and_both q r)

dealt_by : (lists : List (List ℤ)) → AreFew lists → (placed p counts : List ℕ) → p ≡ capped placed →
    has_all lists p counts ≡ has_all lists placed counts
dealt_by lists few placed p counts e =
    ap (λ (xs : List ℕ). has_all lists xs counts) e ∙ has_all_capped 0 lists placed counts few

pub called_by : (doc : Document) (to : Place) {p a q b : List ℕ} {n k : ℕ} → p ≡ q → a ≡ b → n ≡ k →
    list_all (is_slot_called doc to p a) (range_with_len 0 n) ≡ list_all (is_slot_called doc to q b) (range_with_len 0 k)
called_by doc to {p} {a} {q} {b} {n} {k} e f g =
    ap (λ (xs : List ℕ). list_all (is_slot_called doc to xs a) (range_with_len 0 n)) e
    ∙ (ap (λ (xs : List ℕ). list_all (is_slot_called doc to q xs) (range_with_len 0 n)) f
    ∙ ap (λ (i : ℕ). list_all (is_slot_called doc to q b) (range_with_len 0 i)) g)

pub priced_by : (doc : Document) {turns ends : List Place} {p a q b : List ℕ} {n k : ℕ} → turns ≡ ends → p ≡ q → a ≡ b →
    n ≡ k → prices_below (slot_price doc turns p a) n ≡ prices_below (slot_price doc ends q b) k
priced_by doc {turns} {ends} {p} {a} {q} {b} {n} {k} d e f g =
    ap (λ (xs : List Place). prices_below (slot_price doc xs p a) n) d
    ∙ (ap (λ (xs : List ℕ). prices_below (slot_price doc ends xs a) n) e
    ∙ (ap (λ (xs : List ℕ). prices_below (slot_price doc ends q xs) n) f
    ∙ ap (prices_below (slot_price doc ends q b)) g))

module _ (galley : GalleyValue) (style : StyleValue) (list : List ClassFloatsValue)
    (given : IsListOf galley.blocks style list) where
  abbrev pub doc : Document
  doc = document galley style

  abbrev pub the_few : AreFew (floats galley.blocks style)
  the_few = are_few galley.blocks style given.few

  module _ (m : PageMove) (ms : List PageMove) (it : Progress) (going : IsGoing doc ms it) where
    pub wide_first : it.column ≡ 1 → (height : Option ℤ) → height ≡ made_wide doc (placed_of style ms) m.wide →
        height ≡ wide_of doc (m ∷ ms)
    wide_first e height h = h ∙ sym (if_true (next_column style ms == 1) _ _
        (ap (λ (n : ℕ). n == 1) (sym going.column) ∙ ap (λ (n : ℕ). n == 1) e))

    pub wide_later : (it.column == 1) ≡ false → it.wide ≡ wide_of doc (m ∷ ms)
    wide_later e = going.wide ∙ sym (if_false (next_column style ms == 1) _ _
        (ap (λ (n : ℕ). n == 1) (sym going.column) ∙ e))

    pub run_is : (has_it : Bool) → has_it ≡ (is_some (slice_get style.runs m.run) && option_map_or (λ (other : ℕ).
        m.run == other) (if (it.column == 1) && not (is_right (side_of style.first it.page)) then None else it.run) true) →
        has_it ≡ has_run style (next_run style ms) m
    run_is has_it e = e ∙ rw (going.column, going.page, going.run) refl

    module _ (keeps : IsKept style it) (counted : Counted) (are : AreCounted style (placed_of style ms) m counted)
        (seat : Seat) (is : IsSeat (context doc m ms) seat) where
      areas_are : ((length m.column.top == it.slots) && (length m.column.bottom == it.slots)
          && seat.is_top_allowed && seat.is_bottom_allowed) ≡ has_counts (context doc m ms)
      areas_are = rw (keeps.slots, is.top_allowed, is.bottom_allowed) refl

      wide_are : ((length m.wide == length (float_numbers style)) && (if it.column == 1
          then is_area_allowed style takes_wide style.wide.count m.wide else total_count m.wide == 0))
          ≡ has_wide_counts doc (next_column style ms) m
      wide_are = rw going.column refl

      deals_are : deals_test doc it m counted ≡ deals_floats doc (placed_of style ms) m (context doc m ms)
      deals_are = and_all (dealt_by (floats galley.blocks style) the_few (placed_of style ms) it.placed m.wide going.placed)
          (dealt_by (floats galley.blocks style) the_few (with_wide style (placed_of style ms) m) counted.before
          m.column.top are.before)
          (dealt_by (floats galley.blocks style) the_few
          (plus_counts style (with_wide style (placed_of style ms) m) m.column.top) counted.below m.column.bottom
          are.below)

      pub added_move : AreAdded doc given.floats.shape the_few m ms (added_by (counts_test style it m seat)
          (deals_test doc it m counted) (calls_test doc it m counted)
          (waits_price doc it counted))
      added_move = added_is doc given.floats.shape the_few m ms (counts_test style it m seat)
          (deals_test doc it m counted) (calls_test doc it m counted)
          (waits_price doc it counted)
          (and_both areas_are wide_are)
          deals_are
          (λ d. called_by doc m.column.to going.placed are.after keeps.slots
          ∙ called_is doc given.floats.shape the_few m ms (sym deals_are ∙ d))
          (λ d. subst (ArePriced (is_close doc given.floats.shape the_few m ms) (pays doc given.floats.shape the_few m ms)
          (added doc (placed_of style ms) m))
          (sym (priced_by doc going.turns going.placed are.after keeps.slots))
          (priced_is doc given.floats.shape the_few m ms (sym deals_are ∙ d) (kept (is_chained doc) ms going.chained)))

-- ---- what goes over

turns_over : (style : StyleValue) (m : PageMove) (ms : List PageMove) (old new : List Place) (b : Bool) →
    reverse old ≡ page_ends style ms → new ≡ (if b then old ++ m.column.to ∷ [] else old) →
    reverse new ≡ (if b then m.column.to ∷ page_ends style ms else page_ends style ms)
turns_over style m ms old new true e f =
    ap reverse f ∙ (reverse-append old (m.column.to ∷ []) ∙ ap (λ (xs : List Place). m.column.to ∷ xs) e)
turns_over style m ms old new false e f = ap reverse f ∙ e

module _ (doc : Document) (column : Column) (run : ℕ) (wides : List ℕ) (ms : List PageMove) (old new : Progress)
    (height : Option ℤ) (after : List ℕ) (fitness rule : Option ℕ) (cost : ℤ)
    (on : IsAdvanced doc.style column run height after fitness rule cost old new) (going : IsGoing doc ms old)
    (chained : is_chained doc (the_move column run wides) ms ≡ true)
    (high : height ≡ wide_of doc (the_move column run wides ∷ ms))
    (counts : after ≡ capped (placed_after doc.style (placed_of doc.style ms) (the_move column run wides))) where
  abbrev m : PageMove
  m = the_move column run wides

  full : (old.column == doc.style.columns) ≡ (next_column doc.style ms == doc.style.columns)
  full = ap (λ (n : ℕ). n == doc.style.columns) going.column

  pub next_going : (new.broken ≡ None → IsPaid doc (m ∷ ms) new) → IsGoing doc (m ∷ ms) new
  next_going paid = record {
    chained = none_or (first_at_fault (is_chained doc) ms) (unless (is_chained doc m ms) (length ms + 1)) going.chained
        (none_unless (is_chained doc m ms) (length ms + 1) chained);
    column = on.column_is ∙ (ap (λ (b : Bool). if b then 1 else old.column + 1) full
        ∙ ap (λ (n : ℕ). if next_column doc.style ms == doc.style.columns then 1 else n + 1) going.column);
    page = on.page_is ∙ (ap (λ (b : Bool). if b then old.page + 1 else old.page) full
        ∙ ap (λ (n : ℕ). if next_column doc.style ms == doc.style.columns then n + 1 else n) going.page);
    at = on.at_is;
    run = on.run_is;
    wide = on.wide_is ∙ high;
    placed = on.placed_is ∙ counts;
    turns = turns_over doc.style m ms old.turns.items new.turns.items (next_column doc.style ms == doc.style.columns)
        going.turns (on.turns_are ∙ ap (λ (b : Bool). if b then old.turns.items ++ column.to ∷ [] else old.turns.items)
        full);
    paid = paid;
  }

  pub next_progress : IsProgress doc ms old → rule ≡ first_false 2 (tests_on doc m ms) →
      (new.broken ≡ None → IsPaid doc (m ∷ ms) new) → IsProgress doc (m ∷ ms) new
  next_progress prog r paid = record {
    number = on.number_is ∙ (let e = prog.number in omega (arith, e));
    broken = on.broken_is ∙ (ap (λ (o : Option (ℕ × ℕ)). lesser o rule (old.number + 1)) prog.broken
        ∙ (ap (λ (o : Option ℕ). lesser (broken_by doc ms) o (old.number + 1)) r
        ∙ ap (λ (n : ℕ). lesser (broken_by doc ms) (first_false 2 (tests_on doc m ms)) (n + 1)) prog.number));
    going = λ e. next_going paid;
  }

-- ---- what is paid

pub no_pair : (o : Option Broken) → broken_pair o ≡ None → o ≡ None
no_pair None e = refl
no_pair (Some b) e = absurd cc

pub broke : (o : Option (ℕ × ℕ)) (rule n : ℕ) → lesser o (Some rule) n ≡ None → ⊥
broke None rule n e = cc
broke (Some (least, column)) rule n e =
    by (nat_lt rule least) (Some (rule, n)) (Some (least, column)) e (λ f. cc) (λ f. cc)
  where
    by : (b : Bool) (x y : Option (ℕ × ℕ)) → (if b then x else y) ≡ None → (x ≡ None → ⊥) → (y ≡ None → ⊥) → ⊥
    by true x y e f g = f e
    by false x y e f g = g e

pub unbroken : (o : Option (ℕ × ℕ)) (n : ℕ) → lesser o None n ≡ None → o ≡ None
unbroken None n e = refl
unbroken (Some (least, column)) n e = absurd cc

pub fitness_is : (it : ColumnContext) (last own : Option ℕ) → own ≡ own_fitness it →
    pos (fitness_cost it.document.style last own) ≡ fitness_demerits last it
fitness_is it None own e = refl
fitness_is it (Some last) own e =
    ap (λ (o : Option ℕ). pos (option_map_or (λ (b : ℕ). if differs last b then it.document.style.fitness else 0) o 0)) e
    ∙ by (is_text it)
  where
    pick : (b : Bool) (n : ℕ) → pos (if b then n else 0) ≡ (if b then pos n else pos 0)
    pick true n = refl
    pick false n = refl

    by : (t : Bool) → pos (option_map_or (λ (b : ℕ). if differs last b then it.document.style.fitness else 0)
        (if t then Some (column_fitness it) else None) 0)
        ≡ (if t && differs last (column_fitness it) then pos it.document.style.fitness else pos 0)
    by true = pick (differs last (column_fitness it)) it.document.style.fitness
    by false = refl

pub next_fitness_is : (it : ColumnContext) (last own : Option ℕ) → own ≡ own_fitness it →
    (if it.document.style.version == 1 then None else option_or own last) ≡ fitness_after last it
next_fitness_is it last own e =
    ap (λ (o : Option ℕ). if it.document.style.version == 1 then None else option_or o last) e
    ∙ by (it.document.style.version == 1) (is_text it)
  where
    by : (v t : Bool) → (if v then None else option_or (if t then Some (column_fitness it) else None) last)
        ≡ (if v then None else (if t then Some (column_fitness it) else last))
    by true t = refl
    by false true = refl
    by false false = refl

-- ---- one column on

pub on_ok : {T E : Type 0} {P Q : Type 0} (r : Result T E) → OnOk r P → (P → Q) → OnOk r Q
on_ok (Ok v) p f = f p
on_ok (Err e) p f = tt

pub kept_on : (style : StyleValue) → IsStyle style → (column : Column) (run : ℕ) (height : Option ℤ) (after : List ℕ)
    (fitness rule : Option ℕ) (cost : ℤ) (old new : Progress) → IsKept style old →
    IsAdvanced style column run height after fitness rule cost old new → IsWideHeight height →
    nat_abs cost ≤ nat_abs old.cost + 2 ^ 70 → IsKept style new
kept_on style range column run height after fitness rule cost old new keeps on wide size =
    let n = on.number_is in
    let k = ap nat_abs on.cost_is in
    let p = few_if (old.column == style.columns) (old.page + 1) old.page (old.page + 1) (omega arith) (omega arith) in
    record {
      slots = on.slots ∙ keeps.slots;
      few = (let s = on.slots in let f = keeps.few in omega (arith, s, f));
      column = subst (λ (i : ℕ). i ≤ style.columns) (sym on.column_is)
          (by (old.column == style.columns) refl keeps.column range.columns_from);
      page = (let q = on.page_is in let r = keeps.page in omega (arith, n, p, q, r));
      wide = subst IsWideHeight (sym on.wide_is) wide;
      cost = (let c = keeps.cost in omega (arith, n, k, c, size));
    }
  where
    by : (b : Bool) → (old.column == style.columns) ≡ b → old.column ≤ style.columns → 1 ≤ style.columns →
        (if b then 1 else old.column + 1) ≤ style.columns
    by true e h l = l
    by false e h l = more old.column style.columns h (eq_not old.column style.columns e)
      where
        more : (a b : ℕ) → a ≤ b → (a ≡ b → ⊥) → a + 1 ≤ b
        more zero zero h f = absurd (f refl)
        more zero (suc b) h f = omega arith
        more (suc a) zero h f = absurd (omega (arith, h))
        more (suc a) (suc b) h f = let r = more a b (omega (arith, h)) (λ e. f (ap suc e)) in omega (arith, r)

pub counted_is : (style : StyleValue) (placed : List ℕ) (m : PageMove) (slots : ℕ) (kept : List ℕ) (counted : Counted) →
    slots ≡ length (float_numbers style) → kept ≡ capped placed → counted.before ≡ capped_sum slots kept m.wide →
    counted.below ≡ capped_sum slots counted.before m.column.top →
    counted.after ≡ capped_sum slots counted.below m.column.bottom → AreCounted style placed m counted
counted_is style placed m slots held counted s k b l a =
    let one = next held placed counted.before m.wide k b in
    let two = next counted.before (with_wide style placed m) counted.below m.column.top one l in
    record {
      before = one;
      below = two;
      after = next counted.below (plus_counts style (with_wide style placed m) m.column.top) counted.after
          m.column.bottom two a;
    }
  where
    next : (xs ys zs counts : List ℕ) → xs ≡ capped ys → zs ≡ capped_sum slots xs counts →
        zs ≡ capped (plus_counts style ys counts)
    next xs ys zs counts e f = f ∙ (ap (λ (ws : List ℕ). capped_sum slots ws counts) e
        ∙ (ap (λ (n : ℕ). capped_sum n (capped ys) counts) s
        ∙ plus_capped style (length (float_numbers style)) ys counts refl))

sums_are : (a b c d e f p q r s t u : ℤ) → a ≡ p → b ≡ q → c ≡ r → d ≡ s → e ≡ t → f ≡ u →
    a +ℤ ((b +ℤ c) +ℤ ((d +ℤ e) +ℤ f)) ≡ p +ℤ ((q +ℤ r) +ℤ ((s +ℤ t) +ℤ u))
sums_are a b c d e f p q r s t u g h i j k l = rw (g, h, i, j, k, l) refl

pub paid_on : (doc : Document) (m : PageMove) (ms : List PageMove) (old : Progress) (own : ColumnCost) (price : ℕ)
    (fitness : Option ℕ) (cost : ℤ) → old.column ≡ next_column doc.style ms →
    (first_false 2 (tests_on doc m ms) ≡ None) × IsColumnCost (context doc m ms) own
    × (pos price ≡ float_demerits doc.style (distance doc m ms) (added doc (placed_of doc.style ms) m)) →
    fitness ≡ (if doc.style.version == 1 then None else option_or own.fitness old.fitness) →
    cost ≡ old.cost +ℤ ((own.demerits +ℤ pick_demerits (context doc m ms))
    +ℤ (((if old.column == 1 then run_demerits doc.style m.run else pos 0) +ℤ pos price)
    +ℤ pos (fitness_cost doc.style old.fitness own.fitness))) → IsOutcome doc m ms old fitness None cost
paid_on doc m ms old own price fitness cost c (none, alone, p) f k = record {
  rule_is = sym none;
  fitness_is = λ e paid. f ∙ (next_fitness_is (context doc m ms) old.fitness own.fitness alone.fitness
      ∙ ap (λ (o : Option ℕ). fitness_after o (context doc m ms)) paid.fitness);
  cost_is = λ e paid. k ∙ sums_are _ _ _ _ _ _ _ _ _ _ _ _ paid.cost alone.demerits refl
      (ap (λ (n : ℕ). if n == 1 then run_demerits doc.style m.run else pos 0) c) p
      (fitness_is (context doc m ms) old.fitness own.fitness alone.fitness
      ∙ ap (λ (o : Option ℕ). fitness_demerits o (context doc m ms)) paid.fitness);
}

pub broken_on : (doc : Document) (m : PageMove) (ms : List PageMove) (old : Progress) (rule : ℕ) →
    first_false 2 (tests_on doc m ms) ≡ Some rule → IsOutcome doc m ms old old.fitness (Some rule) old.cost
broken_on doc m ms old rule e = record {
  rule_is = sym e;
  fitness_is = λ f. absurd cc;
  cost_is = λ f. absurd cc;
}

-- where nothing is broken behind a column, nothing was before it, and it breaks nothing itself
pub none_broken : (old new : Option Broken) (rule : Option ℕ) (n : ℕ) →
    broken_pair new ≡ lesser (broken_pair old) rule n → new ≡ None → (old ≡ None) × (rule ≡ None)
none_broken old new rule n e f = by rule (sym e ∙ ap broken_pair f)
  where
    by : (rule : Option ℕ) → lesser (broken_pair old) rule n ≡ None → (old ≡ None) × (rule ≡ None)
    by None g = (no_pair old (unbroken (broken_pair old) n g), refl)
    by (Some r) g = absurd (broke (broken_pair old) r n g)

pub paid_behind : (doc : Document) (m : PageMove) (ms : List PageMove) (old new : Progress) (fitness rule : Option ℕ)
    (cost : ℤ) → IsOutcome doc m ms old fitness rule cost → (old.broken ≡ None → IsPaid doc ms old) → (n : ℕ) →
    broken_pair new.broken ≡ lesser (broken_pair old.broken) rule n → new.fitness ≡ fitness → new.cost ≡ cost →
    new.broken ≡ None → IsPaid doc (m ∷ ms) new
paid_behind _ m ms old new fitness rule cost out paid n b f c e =
    let none = none_broken old.broken new.broken rule n b e in
    record {
      fitness = f ∙ out.fitness_is none.1 (paid none.0);
      cost = c ∙ out.cost_is none.1 (paid none.0);
    }

-- ---- columns that do not go on

pub skip_progress : (doc : Document) (m : PageMove) (ms : List PageMove) (old new : Progress) → IsProgress doc ms old →
    is_lost old.broken ≡ true → new.number ≡ old.number + 1 → new.broken ≡ old.broken → IsProgress doc (m ∷ ms) new
skip_progress doc m ms old new prog lost n b = record {
  number = n ∙ (let e = prog.number in omega (arith, e));
  broken = ap broken_pair b ∙ by old.broken refl;
  going = λ e. absurd (not_both (is_lost old.broken) lost (ap is_lost (sym b) ∙ e));
}
  where
    second : (it : Broken) → is_lost (Some it) ≡ true → broken_pair (Some it) ≡ Some (2, it.column)
    second it e = ap (λ (k : ℕ). Some (k, it.column)) (eqb-true it.rule 2 e)

    by : (o : Option Broken) → old.broken ≡ o → broken_pair old.broken ≡ broken_by doc (m ∷ ms)
    by None e = absurd (no (sym lost ∙ ap is_lost e))
      where
        no : true ≡ false → ⊥
        no f = cc
    by (Some it) e =
        let s = ap broken_pair e ∙ second it (ap is_lost (sym e) ∙ lost) in
        s ∙ (sym (second_stays it.column (first_false 2 (tests_on doc m ms)) (length ms + 1)
        (is_test_from 2 (tests_on doc m ms)))
        ∙ ap (λ (o : Option (ℕ × ℕ)). lesser o (first_false 2 (tests_on doc m ms)) (length ms + 1))
        (sym (sym prog.broken ∙ s)))

rule_in : Option (ℕ × ℕ) → ℕ
rule_in None = 0
rule_in (Some pair) = pair.0

pub lost_progress : (doc : Document) (m : PageMove) (ms : List PageMove) (old new : Progress) (n : ℕ) →
    IsProgress doc ms old → is_lost old.broken ≡ false → is_chained doc m ms ≡ false → n ≡ old.number + 1 →
    new.number ≡ n → new.broken ≡ Some (record { rule = 2; column = n }) → IsProgress doc (m ∷ ms) new
unfolding rule_in
lost_progress doc m ms old new n prog lost chained k num b = record {
  number = num ∙ (let e = prog.number in omega (arith, e, k));
  broken = ap broken_pair b ∙ (second_comes (broken_by doc ms) n (broken_from doc ms) never
      ∙ (ap (λ (i : ℕ). lesser (broken_by doc ms) (Some 2) i) (let e = prog.number in omega (arith, e, k))
      ∙ ap (λ (t : Bool). lesser (broken_by doc ms) (first_false 2 (t ∷ rest)) (length ms + 1)) (sym chained)));
  going = λ e. absurd (no (sym (ap is_lost b) ∙ e));
}
  where
    rest : List Bool
    rest = drop 1 (tests_on doc m ms)

    no : true ≡ false → ⊥
    no f = cc

    never : (column : ℕ) → broken_by doc ms ≡ Some (2, column) → ⊥
    never column e = by old.broken refl
      where
        two : (it : Broken) → broken_pair (Some it) ≡ Some (2, column) → is_lost (Some it) ≡ true
        two it f = eq_yes it.rule 2 (ap rule_in f)

        by : (o : Option Broken) → old.broken ≡ o → ⊥
        by None f = none (broken_pair old.broken) (ap broken_pair f) (prog.broken ∙ e)
          where
            none : (o : Option (ℕ × ℕ)) → o ≡ None → o ≡ Some (2, column) → ⊥
            none o g h = cc
        by (Some it) f = not_both (is_lost old.broken) (ap is_lost f
            ∙ two it (sym (ap broken_pair f) ∙ (prog.broken ∙ e))) lost

pub chained_is : (galley : GalleyValue) (style : StyleValue) (column : Column) (run : ℕ) (wides : List ℕ)
    (ms : List PageMove) (old : Progress) → IsGoing (document galley style) ms old →
    (is_same_place column.from old.at && does_fit_from galley.blocks column.from column.picks column.to)
    ≡ is_chained (document galley style) (the_move column run wides) ms
chained_is galley style column run wides ms old going =
    ap (λ (at : Place). is_same_place column.from at && does_fit_from galley.blocks column.from column.picks column.to)
    going.at
