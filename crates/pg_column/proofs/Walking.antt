-- What is kept along a span says what the rules ask of its items.
use Rattle.std.proofs.Common.{◌≡◌, refl, sym, ap, ◌∙◌, subst, ℕ, zero, suc, ◌≤◌, List, [], ◌∷◌, ◌++◌, length, take, arith, Bool, true, false, Option, Some, None, ℤ}
use Rattle.std.specs.Prelude.{◌||◌, ◌&&◌, not, slice_get, option_map}
use Rattle.std.specs.List.{AllByRecursion, position}
use Rattle.pg_list.specs.declared.item.Item.{Item}
use Rattle.pg_list.specs.declared.blocks.Block.{Block}
use Rattle.pg_list.specs.declared.galley.Place.{Place}
use Rattle.pg_list.specs.Shapes.{IsBlock}
use Rattle.pg_list.specs.Break.{passes_between}
use Rattle.pg_list.specs.Flat.{FlatItem, blocks_at, end_of, flat_items_at, is_same_place, picked_variants, steps_to}
use Rattle.pg_style.specs.Ranges.{IsStyle}
use Rattle.pg_breaks.specs.Near.{place_forced}
use Rattle.pg_breaks.specs.Read.{items_at}
use Rattle.pg_rules.specs.Room.{Document}
use Rattle.pg_column.specs.Judged.{Walked, is_break_by, may_pass, started, walk_item, walk_to}
use Rattle.pg_column.specs.Numbers.{is_over_by, most_room}
use Rattle.pg_column.specs.declared.cost.TextRoom.{TextRoom}
use Rattle.pg_column.specs.Passed.{IsPassed, Passed}
use Rattle.pg_column.proofs.Leads.{is_at, position_here, position_later, stands}
use Rattle.pg_column.proofs.Passing.{at_ranges, end_test, forced_at, got_within, is_passable, map_got, over_in, over_is, passes_more, range_at, taken_more, test_is}
use Rattle.pg_column.proofs.Sums.{passed_none, passed_push}
use Rattle.pg_lemmas.proofs.Bools.{by_bool, if_false, if_true}

-- ---- a walk to a place is one along the items before it

module _ (doc : Document) (room : TextRoom) where
  abbrev pub walk_all : Walked → List FlatItem → Walked
  walk_all w [] = w
  walk_all w (x ∷ xs) = walk_all (walk_item doc room w x) xs

  pub walk_push : (w : Walked) (xs : List FlatItem) (x : FlatItem) →
      walk_all w (xs ++ x ∷ []) ≡ walk_item doc room (walk_all w xs) x
  walk_push w [] x = refl
  walk_push w (y ∷ xs) x = walk_push (walk_item doc room w y) xs x

  take_whole : {X : Type 0} (xs : List X) → take (length xs) xs ≡ xs
  take_whole [] = refl
  take_whole (x ∷ xs) = ap (λ ys. x ∷ ys) (take_whole xs)

  walk_whole : (to : Place) (w : Walked) (xs : List FlatItem) → walk_to doc room true to w xs ≡ walk_all w xs
  walk_whole to w [] = refl
  walk_whole to w (x ∷ xs) = walk_whole to (walk_item doc room w x) xs

  some_same : (a b : ℕ) → Some a ≡ Some b → a ≡ b
  some_same a b e = cc

  walk_part : (to : Place) (w : Walked) (xs : List FlatItem) (n : ℕ) → position (is_at to) xs ≡ Some n →
      walk_to doc room false to w xs ≡ walk_all w (take n xs)
  walk_part to w [] n e = absurd cc
  walk_part to w (x ∷ xs) n e = by_bool (is_at to x)
      (λ t. let z : 0 ≡ n = some_same 0 n (sym (position_here (is_at to) x xs t) ∙ e) in
      if_true (is_at to x) w _ t ∙ ap (λ (k : ℕ). walk_all w (take k (x ∷ xs))) z)
      (λ f. if_false (is_at to x) w _ f
      ∙ later (position (is_at to) xs) refl (sym (position_later (is_at to) x xs f) ∙ e)
      (walk_part to (walk_item doc room w x) xs))
    where
      later : (o : Option ℕ) → position (is_at to) xs ≡ o → option_map suc (position (is_at to) xs) ≡ Some n →
          ((m : ℕ) → position (is_at to) xs ≡ Some m →
          walk_to doc room false to (walk_item doc room w x) xs ≡ walk_all (walk_item doc room w x) (take m xs)) →
          walk_to doc room false to (walk_item doc room w x) xs ≡ walk_all w (take n (x ∷ xs))
      later None p q more = absurd (let k : None ≡ Some n = sym (ap (option_map suc) p) ∙ q in cc)
      later (Some m) p q more = let s : suc m ≡ n = some_same (suc m) n (sym (ap (option_map suc) p) ∙ q) in
          more m p ∙ ap (λ (k : ℕ). walk_all w (take k (x ∷ xs))) s

  pub walk_is : (blocks : List Block) (to : Place) (w : Walked) (xs : List FlatItem) (n : ℕ) →
      steps_to blocks xs to ≡ Some n →
      walk_to doc room (is_same_place to (end_of blocks)) to w xs ≡ walk_all w (take n xs)
  walk_is blocks to w xs n e = by (is_same_place to (end_of blocks)) e
    where
      by : (b : Bool) → stands b to xs ≡ Some n → walk_to doc room b to w xs ≡ walk_all w (take n xs)
      by true e = walk_whole to w xs
          ∙ ap (walk_all w) (sym (take_whole xs) ∙ ap (λ (k : ℕ). take k xs) (some_same (length xs) n e))
      by false e = walk_part to w xs n e

-- ---- what it keeps

abbrev pub kept : Walked → Passed
kept w = record { totals = w.totals; notes = w.notes; bound = None }

module _ (doc : Document) (all : AllByRecursion IsBlock doc.blocks) (is-style : IsStyle doc.style) (from : Place)
    (picks : List ℕ) (named : length (picked_variants (blocks_at doc.blocks from) picks) ≡ length picks)
    (room : TextRoom) where
  abbrev ahead : List FlatItem
  ahead = flat_items_at doc.blocks from picks

  abbrev read : List Item
  read = items_at doc.blocks from picks

  abbrev over : ℕ → Bool
  over = over_in doc all is-style from picks named (most_room room)

  pub record IsWalked (n : ℕ) (w : Walked) : Type 0 where
    pub sums : IsPassed doc.style (take n read) (kept w)
    pub passes : w.passes ≡ passes_between read over n

  went : (n : ℕ) (x : FlatItem) (w : Walked) → slice_get ahead n ≡ Some x → IsWalked n w →
      IsWalked (suc n) (walk_item doc room w x)
  went n x w got is = record {
    sums = subst (λ (ys : List Item). IsPassed doc.style ys (kept (walk_item doc room w x))) (sym next)
        (passed_push doc.style is-style (take n read) x.item (kept w)
        (range_at ahead n x (at_ranges doc.blocks from picks all) got) is.sums);
    passes = both _ _ _ _ is.passes (sym test) ∙ sym (passes_more read over n);
  }
    where
      next : take (suc n) read ≡ take n read ++ x.item ∷ []
      next = taken_more n read x.item (map_got (λ (y : FlatItem). y.item) n ahead x got)

      both : (a b c d : Bool) → a ≡ c → b ≡ d → (a && b) ≡ (c && d)
      both a b c d p q = cc

      over_at : over n ≡ is_over_by doc.style room w.totals w.notes
      over_at = over_is doc all is-style from picks named n (kept w) (most_room room) is.sums

      test : is_passable read over n ≡ may_pass doc room w x.place
      test = test_is doc all is-style from picks named _ _ _ _ (over n)
          (end_test doc all is-style from picks named n x (kept w) got is.sums)
          (forced_at doc all is-style from picks named n x got)
          ∙ ap (λ (o : Bool). not (is_break_by doc.blocks w.totals x.place) || not
          (place_forced doc.blocks x.place || o)) over_at

  pub is_walked : (n : ℕ) → n ≤ length ahead → IsWalked n (walk_all doc room started (take n ahead))
  is_walked zero h = record { sums = passed_none doc.style is-style; passes = refl }
  is_walked (suc n) h =
      let it = got_within n ahead (omega (arith, h)) in
      subst (IsWalked (suc n)) (sym (ap (walk_all doc room started) (taken_more n ahead it.0 it.1)
      ∙ walk_push doc room started (take n ahead) it.0))
      (went n it.0 (walk_all doc room started (take n ahead)) it.1 (is_walked n (omega (arith, h))))
