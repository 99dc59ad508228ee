-- A line that may stand ends behind its start and within its paragraph.
use Rattle.std.proofs.Common.{◌≡◌, refl, sym, ℕ, ◌-◌, ◌≤◌, ◌<◌, List, [], ◌∷◌, length, Bool, true, false, Option, Some, None, arith}
use Rattle.std.specs.Prelude.{◌==◌, if◌then◌else◌, take, drop, min, is_some, slice_get, pos}
use Rattle.std.specs.List.{list_any}
use Rattle.std.specs.Option.{option_map_or}
use Rattle.std.proofs.lemmas.List.{length-drop, length-take, length-map}
use Rattle.std.proofs.lemmas.Option.{slice_get_within}
use Rattle.pg_list.specs.declared.item.Item.{Item}
use Rattle.pg_list.specs.Break.{break_penalty, item_break}
use Rattle.pg_hlist.specs.declared.item.HItem.{HItem}
use Rattle.pg_hlist.specs.Items.{as_item, as_items}
use Rattle.law_lines.specs.declared.rule.LineRule.{LineRule}
use Rattle.law_lines.specs.Lines.{penalty_at, holds_box, is_line}
use Rattle.pg_lemmas.proofs.Bools.{both_of}
use Rattle.law_lines.proofs.Tests.{eq_true}

any_some : {X : Type 0} (p : X → Bool) (xs : List X) → list_any p xs ≡ true → 0 < length xs
any_some p [] e = absurd cc
any_some p (x ∷ xs) e = omega arith

-- a break is in the list or at its end
break_within : (flat : List Item) (k : ℕ) → is_some (break_penalty flat k) ≡ true → k ≤ length flat
break_within flat k e = by (k == length flat) refl (slice_get flat k) refl e
  where
    by : (b : Bool) → b ≡ (k == length flat) → (o : Option Item) → o ≡ slice_get flat k →
        is_some (if b then Some (pos 0) else option_map_or (item_break flat k) o None) ≡ true → k ≤ length flat
    by true t o s e = let q : k ≡ length flat = eq_true k (length flat) (sym t) in omega arith
    by false t None s e = absurd cc
    by false t (Some item) s e = let q : k < length flat = slice_get_within flat k item (sym s) in omega arith

module _ (rule : LineRule) (para : List HItem) (a k : ℕ) (stands : is_line rule para a k ≡ true) where
  parts : (is_some (penalty_at para k) ≡ true) × (holds_box (drop a (take k para)) ≡ true)
  parts =
      let one = both_of (is_some (penalty_at para k)) _ stands in
      let two = both_of (holds_box (drop a (take k para))) _ one.1 in
      (one.0, two.0)

  pub line_within : k ≤ length para
  line_within =
      let h : k ≤ length (as_items para) = break_within (as_items para) k parts.0 in
      let l : length (as_items para) ≡ length para = length-map para as_item in
      omega arith

  pub line_rises : a < k
  line_rises =
      let h : 0 < length (drop a (take k para)) = any_some _ (drop a (take k para)) parts.1 in
      let d : length (drop a (take k para)) ≡ length (take k para) - a = length-drop a (take k para) in
      let t : length (take k para) ≡ min k (length para) = length-take k para in
      let w : k ≤ length para = line_within in
      by (length (take k para)) t (omega arith)
    where
      by : (n : ℕ) → n ≡ min k (length para) → a < n → a < k
      by n e h = let m : min k (length para) ≤ k = min_le k (length para) in omega arith
        where
          min_le : (x y : ℕ) → min x y ≤ x
          min_le x y = omega arith
