-- A walk goes on past one item, and past one more.
use Rattle.std.proofs.Common.{◌≡◌, refl, sym, ap, ◌∙◌, ℕ, ◌≤◌, List, [], ◌∷◌, ◌++◌, append-nil, arith, Bool, true, false, Option, Some, None, ℤ, pos}
use Rattle.std.specs.Prelude.{◌&&◌, ◌==◌, not, if◌then◌else◌, max}
use Rattle.std.specs.Option.{option_map_or}
use Rattle.std.specs.Ordering.{int_eq}
use Rattle.pg_list.specs.declared.item.Item.{Item}
use Rattle.pg_list.specs.declared.galley.Place.{Place}
use Rattle.pg_list.specs.Places.{place}
use Rattle.pg_list.specs.Flat.{FlatItem}
use Rattle.pg_lemmas.proofs.Bools.{if_false, if_true}
use Rattle.pg_notes.specs.declared.sums.NoteSum.{NoteSum}
use Rattle.pg_notes.specs.NotesValue.{heights}
use Rattle.pg_rules.specs.Room.{Document}
use Rattle.pg_column.specs.Passed.{Passed, are_within, fits, is_end_here, pass_item}
use Rattle.law_walk.specs.Candidates.{Candidate}
use Rattle.law_walk.specs.Reached.{reach_along}
use Rattle.law_walk.specs.Walk.{end_here, ends_along, past_stretch}
use Rattle.pg_hops.specs.declared.cursor.Cursor.{Cursor}
use Rattle.pg_hops.specs.Ahead.{IsSettled, front_ahead, item_ahead, items_ahead, place_ahead, settled, stepped}
use Rattle.pg_hops.specs.Quiet.{is_quiet, passed_along}
use Rattle.pg_hops.proofs.Along.{go_past, over_past, stop_past}
use Rattle.pg_hops.proofs.Cursors.{IsDone, ahead_is, done, front_is, is_settled}
use Rattle.pg_hops.specs.Goes.{Goes, Stops}

-- a cursor and its place have one block
pub place_block : (c : Cursor) → (place_ahead c).block ≡ c.block
place_block c = by (c.is_inner && not (c.index == 0))
  where
    by : (t : Bool) → (if t then place c.block c.variant c.index else place c.block 0 0).block ≡ c.block
    by true = refl
    by false = refl

no_more : (a : ℕ) → max a 0 ≡ a
no_more a = omega arith

no_less : (a r : ℕ) → a ≤ max a r
no_less a r = omega arith

pub greater_is : (a r : ℕ) → a ≤ r → max a r ≡ r
greater_is a r h = omega (arith, h)

-- ---- past the item ahead

module _ (doc : Document) (c : Cursor) (item : Item) (ahead : Some item ≡ item_ahead doc.blocks c) (p : Passed) where
  -- the item ahead, at its place
  abbrev pub one : FlatItem
  one = record { place = place_ahead c; item = item; is_front = c.is_inner && (c.index == 0) }

  abbrev next : Cursor
  next = settled doc.blocks (stepped c)

  abbrev later : List FlatItem
  later = items_ahead doc.blocks next

  one_first : items_ahead doc.blocks c ≡ one ∷ later
  one_first = ahead_is doc.blocks c item (sym ahead)

  module _ (top : ℤ) where
    -- the ends behind the item
    abbrev ends_behind : List ℕ → ℤ → Place → Option Passed → List Candidate
    ends_behind picks d last o =
        option_map_or (λ (r : Passed). if fits r.bound top then ends_along doc top picks d last r later else []) o []

    one_ends : (picks : List ℕ) (d : ℤ) (last : Place) (o : Option Passed) → pass_item doc p one ≡ o →
        ends_along doc top picks d last p (items_ahead doc.blocks c)
        ≡ end_here doc picks d (place_ahead c) p ++ ends_behind picks d last o
    one_ends picks d last o e = ap (ends_along doc top picks d last p) one_first
        ∙ ap (λ (w : Option Passed). end_here doc picks d (place_ahead c) p ++ ends_behind picks d last w) e

    -- the greatest block behind it
    abbrev reach_behind : ℕ → Option Passed → ℕ
    reach_behind b o =
        option_map_or (λ (r : Passed). if fits r.bound top then reach_along doc top b r later else 0) o 0

    one_reach : (b : ℕ) (o : Option Passed) → pass_item doc p one ≡ o →
        reach_along doc top b p (items_ahead doc.blocks c) ≡ max c.block (reach_behind b o)
    one_reach b o e = ap (reach_along doc top b p) one_first
        ∙ (ap (λ (w : Option Passed). max (place_ahead c).block (reach_behind b w)) e
        ∙ ap (λ (n : ℕ). max n (reach_behind b o)) (place_block c))

    -- what is passed behind it
    abbrev along_behind : Option Passed → Passed
    along_behind o = option_map_or (λ (r : Passed). if fits r.bound top then passed_along doc top r later else r) o p

    one_along : (o : Option Passed) → pass_item doc p one ≡ o →
        passed_along doc top p (items_ahead doc.blocks c) ≡ along_behind o
    one_along o e = ap (passed_along doc top p) one_first ∙ ap (λ (w : Option Passed). along_behind w) e

    one_past : (q : Passed) → pass_item doc p one ≡ Some q →
        past_stretch doc top p (items_ahead doc.blocks c)
        ≡ (if fits q.bound top then past_stretch doc top q later else None)
    one_past q e = by (fits q.bound top) refl
      where
        by : (t : Bool) → fits q.bound top ≡ t →
            past_stretch doc top p (items_ahead doc.blocks c) ≡ (if t then past_stretch doc top q later else None)
        by true f = sym (go_past doc top c item ahead (place_ahead c) refl p q e)
        by false f = sym (over_past doc top c item ahead (place_ahead c) refl p q e f)

  -- past an item the walk goes on behind it
  pub goes_one : (q : Passed) → pass_item doc p one ≡ Some q → Goes doc c next p q
  goes_one q e = record {
    settled = is_settled doc.blocks (stepped c);
    front = front_is doc.blocks c item (sym ahead);
    past = λ top. one_past top q e;
    ends = λ top picks d last. one_ends top picks d last (Some q) e;
    reach = λ top. one_reach top (front_ahead doc.blocks c) (Some q) e
        ∙ ap (λ (b : ℕ). max c.block (if fits q.bound top then reach_along doc top b q later else 0))
        (sym (front_is doc.blocks c item (sym ahead)));
    quiet = λ top. ap (is_quiet doc.style) (one_along top (Some q) e);
  }

  -- where no item is passed it ends
  pub stops_one : pass_item doc p one ≡ None → Stops doc c p
  stops_one e = record {
    past = λ top. sym (stop_past doc top c item ahead (place_ahead c) refl p e);
    ends = λ top picks d last. one_ends top picks d last None e ∙ append-nil (end_here doc picks d (place_ahead c) p);
    reach = λ top b. one_reach top b None e ∙ no_more c.block;
    quiet = λ top. ap (is_quiet doc.style) (one_along top None e);
  }

-- ---- from a cursor on no block before it is reached

pub reach_least : (doc : Document) (top : ℤ) (c : Cursor) (p : Passed) → IsSettled doc.blocks c →
    c.block ≤ reach_along doc top (front_ahead doc.blocks c) p (items_ahead doc.blocks c)
reach_least doc top c p is = by (item_ahead doc.blocks c) refl
  where
    by : (o : Option Item) → item_ahead doc.blocks c ≡ o →
        c.block ≤ reach_along doc top (front_ahead doc.blocks c) p (items_ahead doc.blocks c)
    by None e =
        let last : IsDone doc.blocks c = done doc.blocks c is e in
        let same = ap (reach_along doc top (front_ahead doc.blocks c) p) last.items ∙ last.front in
        omega (arith, same)
    by (Some item) e =
        let b = front_ahead doc.blocks c in
        let o = pass_item doc p (one doc c item (sym e) p) in
        let same = one_reach doc c item (sym e) p top b o refl in
        let least = no_less c.block (reach_behind doc c item (sym e) p top b o) in
        omega (arith, same, least)

-- ---- one step and another

-- a test on both, made once
once : {X : Type 0} (t u : Bool) → u ≡ t → (x y none : X) → (u ≡ true → x ≡ y) →
    (if t then x else none) ≡ (if u then y else none)
once true true e x y none same = same refl
once true false e x y none same = absurd cc
once false true e x y none same = absurd cc
once false false e x y none same = refl

no_end : (doc : Document) (picks : List ℕ) (d : ℤ) (at : Place) (p : Passed) → is_end_here doc.blocks p at ≡ false →
    end_here doc picks d at p ≡ []
no_end doc picks d at p e = ap (λ (t : Bool). if t && are_within doc.style p
    then record { to = at; picks = picks; passed = p; pick_demerits = d } ∷ [] else []) e

module _ (doc : Document) (a b c : Cursor) (p q r : Passed) (first : Goes doc a b p q) (second : Goes doc b c q r)
    (plain : is_end_here doc.blocks q (place_ahead b) ≡ false) (bound : r.bound ≡ q.bound) (notes : r.notes ≡ q.notes)
    (block : b.block ≤ c.block) where
  abbrev from_b : List FlatItem
  from_b = items_ahead doc.blocks b

  abbrev from_c : List FlatItem
  from_c = items_ahead doc.blocks c

  both_fit : (top : ℤ) → fits r.bound top ≡ fits q.bound top
  both_fit top = ap (λ (o : Option ℤ). fits o top) bound

  on_past : (top : ℤ) → fits r.bound top ≡ true → past_stretch doc top q from_b ≡ past_stretch doc top r from_c
  on_past top f = second.past top ∙ if_true (fits r.bound top) (past_stretch doc top r from_c) None f

  on_ends : (top : ℤ) (picks : List ℕ) (d : ℤ) (last : Place) → fits r.bound top ≡ true →
      ends_along doc top picks d last q from_b ≡ ends_along doc top picks d last r from_c
  on_ends top picks d last f =
      let more = if fits r.bound top then ends_along doc top picks d last r from_c else [] in
      second.ends top picks d last
      ∙ (ap (λ (xs : List Candidate). xs ++ more) (no_end doc picks d (place_ahead b) q plain)
      ∙ if_true (fits r.bound top) (ends_along doc top picks d last r from_c) [] f)

  abbrev reach_b : ℤ → ℕ
  reach_b top = reach_along doc top (front_ahead doc.blocks b) q from_b

  abbrev reach_c : ℤ → ℕ
  reach_c top = reach_along doc top (front_ahead doc.blocks c) r from_c

  on_reach : (top : ℤ) → fits r.bound top ≡ true → reach_b top ≡ reach_c top
  on_reach top f =
      let least = reach_least doc top c r second.settled in
      second.reach top ∙ (ap (max b.block) (if_true (fits r.bound top) (reach_c top) 0 f)
      ∙ greater_is b.block (reach_c top) (omega (arith, least, block)))

  on_quiet : (top : ℤ) → is_quiet doc.style (if fits q.bound top then passed_along doc top q from_b else q)
      ≡ is_quiet doc.style (if fits r.bound top then passed_along doc top r from_c else r)
  on_quiet top = by (fits q.bound top) refl
    where
      by : (t : Bool) → fits q.bound top ≡ t → is_quiet doc.style (if t then passed_along doc top q from_b else q)
          ≡ is_quiet doc.style (if fits r.bound top then passed_along doc top r from_c else r)
      by true f = second.quiet top
      by false f = ap (λ (sums : List NoteSum). int_eq (pos (heights doc.style.classes sums)) (pos 0)) (sym notes)
          ∙ ap (is_quiet doc.style)
          (sym (if_false (fits r.bound top) (passed_along doc top r from_c) r (both_fit top ∙ f)))

  -- past a place that is no break for the walk, where neither the bound nor the notes change
  pub goes_on : Goes doc a c p r
  goes_on = record {
    settled = second.settled;
    front = second.front ∙ first.front;
    past = λ top. first.past top ∙ once (fits q.bound top) (fits r.bound top) (both_fit top)
        (past_stretch doc top q from_b) (past_stretch doc top r from_c) None (on_past top);
    ends = λ top picks d last. first.ends top picks d last
        ∙ ap (λ (xs : List Candidate). end_here doc picks d (place_ahead a) p ++ xs)
        (once (fits q.bound top) (fits r.bound top) (both_fit top) (ends_along doc top picks d last q from_b)
        (ends_along doc top picks d last r from_c) [] (on_ends top picks d last));
    reach = λ top. first.reach top ∙ ap (max a.block) (once (fits q.bound top) (fits r.bound top) (both_fit top)
        (reach_b top) (reach_c top) 0 (on_reach top));
    quiet = λ top. first.quiet top ∙ on_quiet top;
  }
