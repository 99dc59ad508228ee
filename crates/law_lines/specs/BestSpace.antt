-- The best number of lines alone: a space whose states are the places where a line may start. A line more counts as one
-- unit beside demerits that are each 2^12 units, so that the fewest lines decide among equals.
use Rattle.std.specs.Prelude.{◌≡◌, ◌≤◌, ◌⊎◌, ℕ, ◌+◌, ◌==◌, ◌&&◌, Bool, true, nat_lt, List, length, ℤ, pos, ◌+ℤ◌, ◌*ℤ◌, ◌<ℤ◌}
use Rattle.std.specs.Ordering.{nat_cmp}
use Rattle.pg_table.specs.Space.{Meaning}
use Rattle.pg_table.specs.Label.{IsBestOf, NoneDone, RunOf}
use Rattle.pg_table.specs.declared.table.Entry.{Entry}
use Rattle.pg_hlist.specs.declared.item.HItem.{HItem}
use Rattle.law_lines.specs.declared.rule.LineRule.{LineRule}
use Rattle.law_lines.specs.Lines.{is_line, line_demerits}
use Rattle.law_lines.specs.Ways.{is_way, demerits, CannotBreak}

abbrev pub unit : ℤ
unit = pos 4096

abbrev pub is_same_break : ℕ → ℕ → Bool
is_same_break u v = u == v

pub record NextBreak (rule : LineRule) (para : List HItem) (u k v : ℕ) (cost : ℤ) : Type 0 where
  pub stands : is_line rule para u k ≡ true
  pub to : v ≡ k
  pub price : cost ≡ (unit *ℤ line_demerits rule para u k) +ℤ pos 1

abbrev pub best_meaning : LineRule → List HItem → Meaning ℕ ℕ ℕ
best_meaning rule para = record {
  start = 0;
  Own = λ u. u ≤ length para;
  Follow = NextBreak rule para;
  key = λ u. u;
  rank = λ u. u;
  block = λ u. u;
  reach = λ u. length para + 1;
  is_done = λ u. nat_lt 0 u && (u == length para);
  no_worse = is_same_break;
  order = nat_cmp;
}

-- no legal way is cheaper, and none as cheap has fewer lines
pub record IsBestCount (rule : LineRule) (para : List HItem) (way : List ℕ) : Type 0 where
  pub legal : is_way rule para way ≡ true
  pub best : (other : List ℕ) → is_way rule para other ≡ true →
      (demerits rule para way <ℤ demerits rule para other)
      ⊎ ((demerits rule para way ≡ demerits rule para other) × (length way ≤ length other))

-- the run of a best label has the best number of lines, and where none is done there is no way
pub record TellsBestCount (rule : LineRule) (para : List HItem) (es : List (Entry ℕ ℕ)) : Type 0 where
  pub best : (i : ℕ) (b : IsBestOf (best_meaning rule para) es es i) (way : List ℕ) → RunOf es b.entry way →
      IsBestCount rule para way
  pub none : NoneDone (best_meaning rule para) es → CannotBreak rule para
