-- Two lists of items with a common front: an offset in the front is the same break in both.
use Rattle.std.proofs.Common.{◌≡◌, refl, sym, ap, subst, ◌∙◌, ℕ, zero, suc, ◌+◌, ◌-◌, ◌≤◌, ◌<◌, List, [], ◌∷◌, ◌++◌, length, length-append, take, drop, Bool, true, false, Option, Some, None, arith}
use Rattle.std.specs.Prelude.{◌&&◌, ◌||◌, ◌==◌, not, if◌then◌else◌, is_some, slice_get, ℤ, pos}
use Rattle.std.specs.List.{list_all, list_any, range_with_len}
use Rattle.std.specs.Option.{option_map_or}
use Rattle.std.proofs.lemmas.List.{drop-append-le, take-append-le}
use Rattle.std.proofs.lemmas.List.Folds.{list_any-append}
use Rattle.pg_list.specs.Shapes.{is_box, is_discardable}
use Rattle.pg_list.specs.declared.item.Item.{Item}
use Rattle.pg_list.specs.declared.item.Item.TheVariants.{BoxItem, Rule, Glue, Kern, Penalty, Insert, Carry}
use Rattle.pg_list.specs.Break.{break_penalty, follows_solid, has_at, is_forced, is_forcing, is_glue, is_spent, item_break, passes_between}
use Rattle.pg_lemmas.proofs.Bools.{both_ways, if_false, or_right}
use Rattle.pg_lemmas.proofs.Lists.{some_at}
use Rattle.pg_lemmas.proofs.Numbers.{eq_no}
use Rattle.law_places.proofs.Members.{in_range}
use Rattle.law_places.proofs.Among.{Among, all_at, all_of}
use Rattle.law_columns.proofs.Waiting.{slot_below}
use Rattle.pg_table.proofs.Lists.{slice_get_grow}

pub slice_front : {X : Type 0} (k : ℕ) (xs ys : List X) → k < length xs → slice_get (xs ++ ys) k ≡ slice_get xs k
slice_front k xs ys h = let s = some_at xs k h in slice_get_grow xs ys k s.0 s.1 ∙ sym s.1

has_front : (test : Item → Bool) (k : ℕ) (xs ys : List Item) → k < length xs →
    has_at test (xs ++ ys) k ≡ has_at test xs k
has_front test k xs ys h = ap (λ o. option_map_or test o false) (slice_front k xs ys h)

forced_by : (e f g : Bool) → e ≡ false → g ≡ true → (e || (f && g)) ≡ f
forced_by false true true p q = refl
forced_by false false true p q = refl
forced_by true f g p q = absurd cc
forced_by false f false p q = absurd cc

-- where a box stands, not all are discardable
not_spent : (xs : List Item) → list_any is_box xs ≡ true → list_all is_discardable xs ≡ false
not_spent [] e = absurd cc
not_spent (BoxItem height depth body ∷ xs) e = refl
not_spent (Rule height depth body ∷ xs) e = refl
not_spent (Glue width stretch order shrink body ∷ xs) e = not_spent xs e
not_spent (Kern width body ∷ xs) e = not_spent xs e
not_spent (Penalty value body ∷ xs) e = not_spent xs e
not_spent (Insert class size body ∷ xs) e = refl
not_spent (Carry body ∷ xs) e = refl

-- the front, an item behind it, and the rest, with a box from that item on
module _ (w : List Item) (v : Item) (r : List Item) (boxed : list_any is_box (v ∷ r) ≡ true) where
  box_behind : (k : ℕ) → k ≤ length w → list_any is_box (drop k (w ++ v ∷ r)) ≡ true
  box_behind k h = ap (list_any is_box) (drop-append-le k w (v ∷ r) h)
      ∙ (list_any-append is_box (drop k w) (v ∷ r) ∙ or_right (list_any is_box (drop k w)) _ boxed)

  not_end : (k : ℕ) → k < length w → (k == length (w ++ v ∷ r)) ≡ false
  not_end k h = let l : length (w ++ v ∷ r) ≡ length w + length (v ∷ r) = length-append w (v ∷ r) in
      eq_no k (length (w ++ v ∷ r)) (omega arith)

  forced_front : (k : ℕ) → k < length w → is_forced (w ++ v ∷ r) k ≡ has_at is_forcing w k
  forced_front k h = forced_by (k == length (w ++ v ∷ r)) (has_at is_forcing (w ++ v ∷ r) k)
      (list_any is_box (drop (k + 1) (w ++ v ∷ r))) (not_end k h) (box_behind (k + 1) (omega arith))
      ∙ has_front is_forcing k w (v ∷ r) h

  spent_front : (k : ℕ) → k ≤ length w → is_spent (w ++ v ∷ r) k ≡ false
  spent_front k h = not_spent (drop k (w ++ v ∷ r)) (box_behind k h)

module _ (w : List Item) (v u : Item) (rv ru : List Item) (same : is_glue v ≡ is_glue u)
    (box_v : list_any is_box (v ∷ rv) ≡ true) (box_u : list_any is_box (u ∷ ru) ≡ true) where
  next_glue : (k : ℕ) → k < length w → has_at is_glue (w ++ v ∷ rv) (k + 1) ≡ has_at is_glue (w ++ u ∷ ru) (k + 1)
  next_glue k h = let q : k + 1 ≡ suc k = omega arith in
      subst (λ (n : ℕ). has_at is_glue (w ++ v ∷ rv) n ≡ has_at is_glue (w ++ u ∷ ru) n) (sym q) (by w k h)
    where
      by : (w : List Item) (k : ℕ) → k < length w →
          has_at is_glue (w ++ v ∷ rv) (suc k) ≡ has_at is_glue (w ++ u ∷ ru) (suc k)
      by [] k h = absurd (omega arith)
      by (x ∷ []) zero h = same
      by (x ∷ y ∷ w) zero h = refl
      by (x ∷ []) (suc k) h = absurd (omega arith)
      by (x ∷ y ∷ w) (suc k) h = by (y ∷ w) k (omega arith)

  solid_same : (k : ℕ) → k < length w → follows_solid (w ++ v ∷ rv) k ≡ follows_solid (w ++ u ∷ ru) k
  solid_same zero h = refl
  solid_same (suc k) h = has_front (λ item. not (is_discardable item)) k w (v ∷ rv) (omega arith)
      ∙ sym (has_front (λ item. not (is_discardable item)) k w (u ∷ ru) (omega arith))

  item_same : (k : ℕ) → k < length w → (x : Item) → item_break (w ++ v ∷ rv) k x ≡ item_break (w ++ u ∷ ru) k x
  item_same k h (Glue width stretch order shrink body) =
      ap (λ (b : Bool). if b then Some (pos 0) else None) (solid_same k h)
  item_same k h (Kern width body) = ap (λ (b : Bool). if b then Some (pos 0) else None) (next_glue k h)
  item_same k h (Penalty value body) = refl
  item_same k h (BoxItem height depth body) = refl
  item_same k h (Rule height depth body) = refl
  item_same k h (Insert class size body) = refl
  item_same k h (Carry body) = refl

  pub penalty_same : (k : ℕ) → k < length w → break_penalty (w ++ v ∷ rv) k ≡ break_penalty (w ++ u ∷ ru) k
  penalty_same k h =
      if_false (k == length (w ++ v ∷ rv)) (Some (pos 0)) _ (not_end w v rv box_v k h)
      ∙ (by (slice_get (w ++ v ∷ rv) k)
      ∙ (ap (λ o. option_map_or (item_break (w ++ u ∷ ru) k) o None)
      (slice_front k w (v ∷ rv) h ∙ sym (slice_front k w (u ∷ ru) h))
      ∙ sym (if_false (k == length (w ++ u ∷ ru)) (Some (pos 0)) _ (not_end w u ru box_u k h))))
    where
      by : (o : Option Item) → option_map_or (item_break (w ++ v ∷ rv) k) o None
          ≡ option_map_or (item_break (w ++ u ∷ ru) k) o None
      by None = refl
      by (Some x) = item_same k h x

  pub forced_same : (k : ℕ) → k < length w → is_forced (w ++ v ∷ rv) k ≡ is_forced (w ++ u ∷ ru) k
  forced_same k h = forced_front w v rv box_v k h ∙ sym (forced_front w u ru box_u k h)

  pub spent_same : (k : ℕ) → k ≤ length w → is_spent (w ++ v ∷ rv) k ≡ is_spent (w ++ u ∷ ru) k
  spent_same k h = spent_front w v rv box_v k h ∙ sym (spent_front w u ru box_u k h)

  pub take_same : (k : ℕ) → k ≤ length w → take k (w ++ v ∷ rv) ≡ take k (w ++ u ∷ ru)
  take_same k h = take-append-le k w (v ∷ rv) h ∙ sym (take-append-le k w (u ∷ ru) h)

  -- what passes in the one list passes in the other, and in a part of it
  module _ (over over' : ℕ → Bool) where
    at_break : (k : ℕ) → k < length w → over k ≡ over' k →
        (not (is_some (break_penalty (w ++ v ∷ rv) k) && list_any is_box (take k (w ++ v ∷ rv)))
        || not (is_forced (w ++ v ∷ rv) k || over k))
        ≡ (not (is_some (break_penalty (w ++ u ∷ ru) k) && list_any is_box (take k (w ++ u ∷ ru)))
        || not (is_forced (w ++ u ∷ ru) k || over' k))
    at_break k h e = by (break_penalty (w ++ v ∷ rv) k) (break_penalty (w ++ u ∷ ru) k)
        (take k (w ++ v ∷ rv)) (take k (w ++ u ∷ ru)) (is_forced (w ++ v ∷ rv) k)
        (is_forced (w ++ u ∷ ru) k) (over k) (over' k) (penalty_same k h) (take_same k (omega arith))
        (forced_same k h) e
      where
        by : (p q : Option ℤ) (xs ys : List Item) (f g o s : Bool) → p ≡ q → xs ≡ ys → f ≡ g → o ≡ s →
            (not (is_some p && list_any is_box xs) || not (f || o))
            ≡ (not (is_some q && list_any is_box ys) || not (g || s))
        by p q xs ys f g o s a b c d = cc

    pub passes_less : (m n : ℕ) → m ≤ n → m ≤ length w → ((k : ℕ) → k < m → over k ≡ over' k) →
        passes_between (w ++ v ∷ rv) over n ≡ true → passes_between (w ++ u ∷ ru) over' m ≡ true
    passes_less m n l h e p = all_of _ (range_with_len 1 (m - 1)) one
      where
        one : (k : ℕ) → Among k (range_with_len 1 (m - 1)) →
            (not (is_some (break_penalty (w ++ u ∷ ru) k) && list_any is_box (take k (w ++ u ∷ ru)))
            || not (is_forced (w ++ u ∷ ru) k || over' k)) ≡ true
        one k a =
            let s = slot_below 1 (m - 1) k a in
            let i : 1 ≤ k = s.0 in
            let j : k < 1 + (m - 1) = s.1 in
            sym (at_break k (omega arith) (e k (omega arith)))
            ∙ all_at _ (range_with_len 1 (n - 1)) k p (in_range 1 (n - 1) k i (omega arith))

-- a list passes where the other does
pub passes_same : (w : List Item) (v u : Item) (rv ru : List Item) → is_glue v ≡ is_glue u →
    list_any is_box (v ∷ rv) ≡ true → list_any is_box (u ∷ ru) ≡ true → (over over' : ℕ → Bool) (n : ℕ) →
    n ≤ length w → ((k : ℕ) → k < n → over k ≡ over' k) →
    passes_between (w ++ v ∷ rv) over n ≡ passes_between (w ++ u ∷ ru) over' n
passes_same w v u rv ru same box_v box_u over over' n h e = both_ways _ _
    (passes_less w v u rv ru same box_v box_u over over' n n (omega arith) h e)
    (passes_less w u v ru rv (sym same) box_u box_v over' over n n (omega arith) h (λ k i. sym (e k i)))
