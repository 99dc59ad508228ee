-- What the floats that a column adds pay, or the first of their rules that is not kept, test by test.
use Rattle.std.proofs.Common.{◌≡◌, refl, sym, ap, ◌∙◌, ℕ, List, length, Bool, true, false, Option, Some, None}
use Rattle.std.specs.Prelude.{◌==◌, ◌&&◌, if◌then◌else◌, reverse, Ok, Err}
use Rattle.std.specs.List.{list_all, range_with_len}
use Rattle.pg_list.specs.declared.galley.Place.{Place}
use Rattle.pg_plan.specs.declared.pages.PageMove.{PageMove}
use Rattle.pg_style.specs.Values.{StyleValue}
use Rattle.pg_rules.specs.Floats.{float_numbers, is_area_allowed, takes_wide, total_count}
use Rattle.pg_rules.specs.Room.{Document}
use Rattle.pg_judge.specs.Added.{added_by, calls_test, counts_test, deals_test, waits_price}
use Rattle.pg_judge.specs.Waits.{is_slot_called, prices_below, slot_price}
use Rattle.pg_judge.proofs.Step.{and_both, called_by, priced_by}
use Rattle.pg_judge.specs.declared.added.Counted.{Counted}
use Rattle.pg_judge.specs.declared.progress.Progress.{Progress}
use Rattle.pg_judge.specs.declared.seat.Seat.{Seat}

-- ---- the tests, where lists were lent

pub counts_are : (style : StyleValue) (it : Progress) (m : PageMove) (seat : Seat) (own wide : Bool) (wides : List ℕ) →
    own ≡ ((length m.column.top == it.slots) && (length m.column.bottom == it.slots)
    && seat.is_top_allowed && seat.is_bottom_allowed) → wides ≡ m.wide →
    wide ≡ ((length wides == length (float_numbers style)) && (if it.column == 1
    then is_area_allowed style takes_wide style.wide.count wides else total_count wides == 0)) →
    counts_test style it m seat ≡ (own && wide)
counts_are style it m seat own wide wides o e w = sym (and_both o (w
    ∙ ap (λ (xs : List ℕ). (length xs == length (float_numbers style)) && (if it.column == 1
    then is_area_allowed style takes_wide style.wide.count xs else total_count xs == 0)) e))

pub calls_are : (doc : Document) (it : Progress) (m : PageMove) (counted : Counted) (before after : List ℕ)
    (called : Bool) → before ≡ it.placed → after ≡ counted.after →
    called ≡ list_all (is_slot_called doc m.column.to before after) (range_with_len 0 it.slots) →
    calls_test doc it m counted ≡ called
calls_are doc it m counted before after called p q e = sym (e ∙ called_by doc m.column.to p q refl)

pub price_is : (doc : Document) (it : Progress) (counted : Counted) (turns : List Place) (before after : List ℕ)
    (price : Option ℕ) → turns ≡ it.turns.items → before ≡ it.placed → after ≡ counted.after →
    price ≡ prices_below (slot_price doc (reverse turns) before after) it.slots →
    waits_price doc it counted ≡ price
price_is doc it counted turns before after price t p q e =
    sym (e ∙ priced_by doc {n = it.slots} (ap reverse t) p q refl)

-- ---- what they come to

counts_fault : (counts dealt called : Bool) (price : Option ℕ) → counts ≡ false →
    Err 7 ≡ added_by counts dealt called price
counts_fault counts dealt called price e = rw e refl

dealt_fault : (counts dealt called : Bool) (price : Option ℕ) → counts ≡ true → dealt ≡ false →
    Err 8 ≡ added_by counts dealt called price
dealt_fault counts dealt called price e f = rw (e, f) refl

called_fault : (counts dealt called : Bool) (price : Option ℕ) → counts ≡ true → dealt ≡ true → called ≡ false →
    Err 9 ≡ added_by counts dealt called price
called_fault counts dealt called price e f g = rw (e, f, g) refl

price_fault : (counts dealt called : Bool) (price : Option ℕ) → counts ≡ true → dealt ≡ true → called ≡ true →
    price ≡ None → Err 10 ≡ added_by counts dealt called price
price_fault counts dealt called price e f g h = rw (e, f, g, h) refl

no_fault : (counts dealt called : Bool) (price : Option ℕ) (paid : ℕ) → counts ≡ true → dealt ≡ true →
    called ≡ true → price ≡ Some paid → Ok paid ≡ added_by counts dealt called price
no_fault counts dealt called price paid e f g h = rw (e, f, g, h) refl

module _ (doc : Document) (it : Progress) (m : PageMove) (seat : Seat) (counted : Counted) where
  abbrev counts : Bool
  counts = counts_test doc.style it m seat

  abbrev dealt : Bool
  dealt = deals_test doc it m counted

  abbrev called : Bool
  called = calls_test doc it m counted

  abbrev price : Option ℕ
  price = waits_price doc it counted

  pub breaks_counts : counts ≡ false → Err 7 ≡ added_by counts dealt called price
  breaks_counts = counts_fault counts dealt called price

  pub breaks_dealt : counts ≡ true → dealt ≡ false → Err 8 ≡ added_by counts dealt called price
  breaks_dealt = dealt_fault counts dealt called price

  pub breaks_called : counts ≡ true → dealt ≡ true → called ≡ false → Err 9 ≡ added_by counts dealt called price
  breaks_called = called_fault counts dealt called price

  pub breaks_distance : counts ≡ true → dealt ≡ true → called ≡ true → price ≡ None →
      Err 10 ≡ added_by counts dealt called price
  breaks_distance = price_fault counts dealt called price

  pub pays_price : (paid : ℕ) → counts ≡ true → dealt ≡ true → called ≡ true → price ≡ Some paid →
      Ok paid ≡ added_by counts dealt called price
  pays_price = no_fault counts dealt called price
