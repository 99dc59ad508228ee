-- What a scan along the breaks from a place needs: the items of a line by its first box, its sums by differences, and
-- where it may stop.
use Rattle.std.proofs.Common.{◌≡◌, refl, ap, ◌∙◌, subst, ℕ, ◌+◌, ◌-◌, ◌<◌, List, [], ◌∷◌, ◌++◌, Bool, true, false, inl, inr, arith}
use Rattle.std.specs.Prelude.{◌&&◌, ◌||◌, not, nat_le, is_some, if◌then◌else◌, take, drop, ℤ, pos, ◌+ℤ◌, ◌-ℤ◌, ◌<ℤ◌, ◌≤ℤ◌, int_le, int_lt, T}
use Rattle.std.specs.List.{list_all, range_with_len}
use Rattle.std.proofs.lemmas.Int.{ints}
use Rattle.pg_list.specs.Shapes.{is_box}
use Rattle.pg_list.specs.Badness.{is_over}
use Rattle.pg_list.specs.Whole.{whole_sum_by}
use Rattle.pg_hlist.specs.declared.item.HItem.{HItem}
use Rattle.pg_hlist.specs.Items.{as_item}
use Rattle.law_lines.specs.declared.rule.LineRule.{LineRule}
use Rattle.law_lines.specs.Lines.{from_box, holds_box, is_forced_at, is_line, line_badness, passes_forced, penalty_at, line_items, line_is_over}
use Rattle.pg_lemmas.proofs.Bools.{both_of}
use Rattle.law_places.proofs.Among.{sum_append, all_at, Among}
use Rattle.law_places.proofs.Members.{in_range}

-- ---- the first box

skip_boxless : (xs ys : List HItem) → holds_box xs ≡ false → from_box (xs ++ ys) ≡ from_box ys
skip_boxless [] ys e = refl
skip_boxless (x ∷ xs) ys e = by (is_box (as_item x)) refl e (skip_boxless xs ys)
  where
    by : (b : Bool) → b ≡ is_box (as_item x) → (b || holds_box xs) ≡ false →
        (holds_box xs ≡ false → from_box (xs ++ ys) ≡ from_box ys) →
        (if b then x ∷ xs ++ ys else from_box (xs ++ ys)) ≡ from_box ys
    by true t h more = absurd cc
    by false t h more = more h

-- behind items without a box, a line begins with the first box
pub begins_with_first : (xs : List HItem) (x : HItem) (ys : List HItem) → holds_box xs ≡ false →
    is_box (as_item x) ≡ true → from_box (xs ++ x ∷ ys) ≡ x ∷ ys
begins_with_first xs x ys e b = skip_boxless xs (x ∷ ys) e ∙ by (is_box (as_item x)) b
  where
    by : (c : Bool) → c ≡ true → (if c then x ∷ ys else from_box ys) ≡ x ∷ ys
    by true t = refl
    by false t = absurd cc

-- ---- sums

-- no line goes on behind a forced break that stands behind its first box
pub stops_when_forced : (rule : LineRule) (para : List HItem) (a j k : ℕ) → a < j → j < k →
    is_forced_at para j ≡ true → holds_box (drop a (take j para)) ≡ true → is_line rule para a k ≡ true → ⊥
stops_when_forced rule para a j k low high forced box h =
    let four = both_of (nat_le (line_badness rule (line_items para a k)) rule.tolerance || is_forced_at para k)
    (passes_forced para a k) (both_of (not (line_is_over rule (line_items para a k)))
    ((nat_le (line_badness rule (line_items para a k)) rule.tolerance || is_forced_at para k) && passes_forced para a k)
    (both_of (holds_box (drop a (take k para))) (not (line_is_over rule (line_items para a k))
    && ((nat_le (line_badness rule (line_items para a k)) rule.tolerance || is_forced_at para k)
    && passes_forced para a k)) (both_of (is_some (penalty_at para k)) (holds_box (drop a (take k para))
    && (not (line_is_over rule (line_items para a k))
    && ((nat_le (line_badness rule (line_items para a k)) rule.tolerance || is_forced_at para k)
    && passes_forced para a k))) h).1).1).1 in
    clash (is_forced_at para j) (holds_box (drop a (take j para))) forced box
    (all_at (λ (i : ℕ). not (is_forced_at para i && holds_box (drop a (take i para))))
    (range_with_len (a + 1) (k - (a + 1))) j four.1
    (in_range (a + 1) (k - (a + 1)) j (omega arith) (omega arith)))
  where
    clash : (b c : Bool) → b ≡ true → c ≡ true → not (b && c) ≡ true → ⊥
    clash true true p q e = absurd cc
    clash false c p q e = absurd cc
    clash true false p q e = absurd cc

-- a line whose total, and whose total less its shrink, pass the width is over
pub over_by_bounds : (total shrink width : ℤ) → width ≤ℤ total → width <ℤ (total -ℤ shrink) →
    is_over total shrink width ≡ true
over_by_bounds total shrink width a b = two (int_le width total) (int_lt shrink (total -ℤ width)) (le_of a)
    (lt_of (omega (arith, ints)))
  where
    true_of : (b : Bool) → T b → b ≡ true
    true_of true t = refl
    true_of false t = absurd t

    le_of : width ≤ℤ total → int_le width total ≡ true
    le_of h = true_of (int_le width total) h.le

    lt_of : shrink <ℤ (total -ℤ width) → int_lt shrink (total -ℤ width) ≡ true
    lt_of h = true_of (int_lt shrink (total -ℤ width)) h.lt

    two : (b c : Bool) → b ≡ true → c ≡ true → (b && c) ≡ true
    two true c p q = q
    two false c p q = absurd cc
