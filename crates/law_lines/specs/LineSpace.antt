-- The lines of a paragraph as a space.
use Rattle.std.specs.Prelude.{◌≡◌, ◌≤◌, ℕ, ◌+◌, ◌==◌, ◌&&◌, Bool, true, nat_lt, List, length, ℤ}
use Rattle.std.specs.Ordering.{nat_cmp}
use Rattle.pg_table.specs.Space.{Meaning}
use Rattle.pg_hlist.specs.declared.item.HItem.{HItem}
use Rattle.law_lines.specs.declared.rule.LineRule.{LineRule}
use Rattle.law_lines.specs.Lines.{is_line, line_demerits}
use Rattle.law_lines.specs.declared.state.LineState.{LineState}

abbrev pub line_state : ℕ → ℕ → LineState
line_state index lines = record { index = index; lines = lines }

abbrev pub is_same_state : LineState → LineState → Bool
is_same_state u v = (u.index == v.index) && (u.lines == v.lines)

-- no more lines than items before the next one, which is in the paragraph or at its end
pub record IsLineState (para : List HItem) (u : LineState) : Type 0 where
  pub within : u.index ≤ length para
  pub few : u.lines ≤ u.index

-- a bound from below on how many lines stand from a place to the end: 0 at the end, and no line takes off more than one
pub record IsLow (rule : LineRule) (para : List HItem) (low : ℕ → ℕ) : Type 0 where
  pub end : low (length para) ≡ 0
  pub falls : (a k : ℕ) → is_line rule para a k ≡ true → low a ≤ low k + 1

-- a line from where the state is to the place k, from where no more than so many lines in all are within reach
pub record NextLine (rule : LineRule) (para : List HItem) (low : ℕ → ℕ) (most : ℕ) (u : LineState) (k : ℕ)
    (v : LineState) (cost : ℤ) : Type 0 where
  pub stands : is_line rule para u.index k ≡ true
  pub fits : u.lines + 1 + low k ≤ most
  pub to : v ≡ line_state k (u.lines + 1)
  pub price : cost ≡ line_demerits rule para u.index k

-- at the end, behind one line or more
abbrev pub is_done : List HItem → LineState → Bool
is_done para u = (u.index == length para) && nat_lt 0 u.lines

abbrev pub line_meaning : LineRule → List HItem → (ℕ → ℕ) → ℕ → Meaning LineState ℕ LineState
line_meaning rule para low most = record {
  start = line_state 0 0;
  Own = IsLineState para;
  Follow = NextLine rule para low most;
  key = λ u. u;
  rank = λ u. u.index;
  block = λ u. u.index;
  reach = λ u. length para + 1;
  is_done = is_done para;
  no_worse = is_same_state;
  order = nat_cmp;
}
