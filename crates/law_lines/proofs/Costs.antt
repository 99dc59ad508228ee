-- What a line costs at most.
use Rattle.std.proofs.Common.{◌≡◌, refl, sym, ap, ℕ, suc, ◌+◌, ◌*◌, ◌/◌, ◌≤◌, List, length, Bool, true, false, Option, Some, None, arith}
use Rattle.std.specs.Prelude.{◌==◌, ◌&&◌, if◌then◌else◌, nat_lt, nat_abs, slice_get, ℤ, pos, negsuc, ◌+ℤ◌, ◌-ℤ◌, ◌<ℤ◌, int_lt, int_le}
use Rattle.std.specs.Option.{option_map_or}
use Rattle.std.proofs.Math.Nat.{mul-le-mul_left, mul-le-mul_right, div-le_of_le-mul}
use Rattle.std.proofs.lemmas.Int.{ints}
use Rattle.pg_list.specs.declared.item.Item.{Item}
use Rattle.pg_list.specs.declared.item.Item.TheVariants.{BoxItem, Rule, Glue, Kern, Penalty, Insert, Carry}
use Rattle.pg_list.specs.declared.item.Order.TheVariants.{Finite}
use Rattle.pg_list.specs.Badness.{badness, cubed, ratio, has_infinite, page_badness}
use Rattle.pg_list.specs.Break.{break_penalty, item_break, follows_solid, has_at, is_glue}
use Rattle.pg_list.specs.Totals.{stretch, shrink}
use Rattle.pg_list.specs.Whole.{square}
use Rattle.pg_hlist.specs.declared.item.HItem.{HItem}
use Rattle.pg_hlist.specs.Items.{as_items}
use Rattle.law_lines.specs.declared.rule.LineRule.{LineRule}
use Rattle.law_lines.specs.Lines.{penalty_at, line_badness, line_demerits, line_items, line_total}
use Rattle.pg_lemmas.proofs.Numbers.{not_less, few_if, square_few}
use Rattle.law_places.proofs.Tests.{less_int}
use Rattle.law_columns.proofs.Prices.{size_none, badness_few, page_badness_few, break_low, penalty_few, add_few}
use Rattle.pg_rules.specs.Cost.{penalty_demerits}

-- ---- badness and penalties

-- ---- a line

pub line_few : (rule : LineRule) (para : List HItem) (a k : ℕ) → nat_abs (line_demerits rule para a k) ≤ 300000000
line_few rule para a k =
    let b : line_badness rule (line_items para a k) ≤ 10000 =
    page_badness_few false rule.width (line_total (line_items para a k)) (as_items (line_items para a k)) in
    let s : (10 + line_badness rule (line_items para a k)) * (10 + line_badness rule (line_items para a k))
    ≤ 10010 * 10010 = square_few _ 10010 (omega arith) in
    let p : nat_abs (option_map_or penalty_demerits (penalty_at para k) (pos 0)) ≤ 100000000 =
    size_none penalty_demerits (penalty_at para k) 100000000
    (λ z e. penalty_few z (break_low (as_items para) k z e)) in
    sum (10 + line_badness rule (line_items para a k)) (option_map_or penalty_demerits (penalty_at para k) (pos 0)) s p
  where
    sum : (n : ℕ) (z : ℤ) → n * n ≤ 10010 * 10010 → nat_abs z ≤ 100000000 →
        nat_abs (square (pos n) +ℤ z) ≤ 300000000
    sum n z s p =
        let e : square (pos n) ≡ pos (n * n) = refl in
        let q : nat_abs (square (pos n)) ≡ n * n = ap nat_abs e in
        let r : nat_abs (square (pos n) +ℤ z) ≤ 10010 * 10010 + 100000000 =
        add_few (square (pos n)) z (10010 * 10010) 100000000 (omega arith) p in
        omega arith
