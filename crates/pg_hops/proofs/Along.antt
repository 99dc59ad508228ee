-- One item more along a stretch.
use Rattle.std.proofs.Common.{◌≡◌, refl, sym, ap, ◌∙◌, List, ◌∷◌, length, Bool, true, false, Option, Some, None, ℤ, ℕ, suc}
use Rattle.std.specs.Prelude.{◌&&◌, ◌==◌, if◌then◌else◌, max}
use Rattle.std.specs.Option.{option_map_or}
use Rattle.pg_list.specs.declared.item.Item.{Item}
use Rattle.pg_list.specs.declared.galley.Place.{Place}
use Rattle.pg_list.specs.Flat.{FlatItem}
use Rattle.pg_lemmas.proofs.Bools.{if_true}
use Rattle.pg_rules.specs.Room.{Document}
use Rattle.pg_column.specs.Passed.{Passed, fits, pass_item, pass_items}
use Rattle.law_walk.specs.Reached.{reach_along}
use Rattle.law_walk.specs.Walk.{past_stretch}
use Rattle.law_walk.proofs.Stretches.{items_fit}
use Rattle.pg_hops.specs.declared.cursor.Cursor.{Cursor}
use Rattle.pg_hops.specs.Ahead.{IsSettled, front_ahead, item_ahead, items_ahead, place_ahead, settled, stepped}
use Rattle.pg_hops.proofs.Cursors.{IsDone, ahead_is, done}

-- what no room up to the greatest one lets pass is not passed
pub over_none : (doc : Document) (top : ℤ) (q : Passed) (xs : List FlatItem) → fits q.bound top ≡ false →
    past_stretch doc top q xs ≡ None
over_none doc top q xs f = by (pass_items doc q xs) refl
  where
    by : (o : Option Passed) → pass_items doc q xs ≡ o →
        option_map_or (λ (r : Passed). if fits r.bound top then Some r else None) o None ≡ None
    by None i = refl
    by (Some r) i = inside (fits r.bound top) refl
      where
        inside : (t : Bool) → fits r.bound top ≡ t → (if t then Some r else None) ≡ None
        inside false g = refl
        inside true g = absurd (let k : true ≡ false = sym (items_fit doc top q r xs i g) ∙ f in cc)

module _ (doc : Document) (top : ℤ) (p : Passed) (x : FlatItem) (xs : List FlatItem) where
  pub past_on : (q : Passed) → pass_item doc p x ≡ Some q →
      past_stretch doc top p (x ∷ xs) ≡ past_stretch doc top q xs
  past_on q e = ap (λ (o : Option Passed). option_map_or (λ (r : Passed). if fits r.bound top then Some r else None)
      (option_map_or (λ (r : Passed). pass_items doc r xs) o None) None) e

  pub past_stopped : pass_item doc p x ≡ None → past_stretch doc top p (x ∷ xs) ≡ None
  past_stopped e = ap (λ (o : Option Passed). option_map_or (λ (r : Passed). if fits r.bound top then Some r else None)
      (option_map_or (λ (r : Passed). pass_items doc r xs) o None) None) e

  pub past_over : (q : Passed) → pass_item doc p x ≡ Some q → fits q.bound top ≡ false →
      past_stretch doc top p (x ∷ xs) ≡ None
  past_over q e f = past_on q e ∙ over_none doc top q xs f

-- ---- at a cursor

module _ (doc : Document) (top : ℤ) (c : Cursor) (item : Item) (ahead : Some item ≡ item_ahead doc.blocks c)
    (at : Place)
    (at-is : at ≡ place_ahead c) (p : Passed) where
  abbrev pub here : FlatItem
  here = record { place = at; item = item; is_front = c.is_inner && (c.index == 0) }

  abbrev next : Cursor
  next = settled doc.blocks (stepped c)

  pub listed : items_ahead doc.blocks c ≡ here ∷ items_ahead doc.blocks next
  listed = ahead_is doc.blocks c item (sym ahead)
      ∙ ap (λ (q : Place). record { place = q; item = item; is_front = c.is_inner && (c.index == 0) }
      ∷ items_ahead doc.blocks next) (sym at-is)

  pub longer : length (items_ahead doc.blocks c) ≡ suc (length (items_ahead doc.blocks next))
  longer = ap length listed

  -- past no item
  pub stop_past : pass_item doc p here ≡ None → None ≡ past_stretch doc top p (items_ahead doc.blocks c)
  stop_past e = sym (ap (past_stretch doc top p) listed ∙ past_stopped doc top p here (items_ahead doc.blocks next) e)

  pub over_past : (q : Passed) → pass_item doc p here ≡ Some q → fits q.bound top ≡ false →
      None ≡ past_stretch doc top p (items_ahead doc.blocks c)
  over_past q e f =
      sym (ap (past_stretch doc top p) listed ∙ past_over doc top p here (items_ahead doc.blocks next) q e f)

  pub go_past : (q : Passed) → pass_item doc p here ≡ Some q →
      past_stretch doc top q (items_ahead doc.blocks next) ≡ past_stretch doc top p (items_ahead doc.blocks c)
  go_past q e = sym (ap (past_stretch doc top p) listed ∙ past_on doc top p here (items_ahead doc.blocks next) q e)

-- ---- behind the last item

module _ (doc : Document) (top : ℤ) (c : Cursor) (is : IsSettled doc.blocks c) (none : None ≡ item_ahead doc.blocks c)
    (p : Passed) where
  pub last : IsDone doc.blocks c
  last = done doc.blocks c is (sym none)

  pub none_left : length (items_ahead doc.blocks c) ≡ 0
  none_left = ap length last.items

  pub end_past : fits p.bound top ≡ true → Some p ≡ past_stretch doc top p (items_ahead doc.blocks c)
  end_past f = sym (ap (past_stretch doc top p) last.items ∙ if_true (fits p.bound top) (Some p) None f)

  pub end_reach : (g g' : ℕ) → g' ≡ max g c.block →
      g' ≡ max g (reach_along doc top (front_ahead doc.blocks c) p (items_ahead doc.blocks c))
  end_reach g g' more = more ∙ ap (max g) (sym (ap (reach_along doc top (front_ahead doc.blocks c) p) last.items
      ∙ last.front))
