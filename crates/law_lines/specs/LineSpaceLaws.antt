-- What a table of lines says of all ways, in the words of its contracts.
use Rattle.std.specs.Prelude.{◌≡◌, ◌+◌, ◌≤◌, ◌⊎◌, true, ℕ, List, length, Contains, ℤ, ◌<ℤ◌}
use Rattle.pg_table.specs.Label.{RunOf, NoneDone}
use Rattle.pg_table.specs.Space.{Run}
use Rattle.pg_table.specs.declared.table.Entry.{Entry}
use Rattle.pg_hlist.specs.declared.item.HItem.{HItem}
use Rattle.law_lines.specs.declared.rule.LineRule.{LineRule}
use Rattle.law_lines.specs.Ways.{start_of, keeps_lines, is_some_line, is_way, demerits, IsLeastWay, IsBestWay, NoWay, CannotBreak}
use Rattle.law_lines.specs.declared.state.LineState.{LineState}
use Rattle.law_lines.specs.LineSpace.{line_state, line_meaning, is_done}

-- each line may stand, they lead to this state at this cost, and from there no more lines than the most are within reach
pub record AreLines (rule : LineRule) (para : List HItem) (low : ℕ → ℕ) (most : ℕ) (way : List ℕ) (v : LineState) (c : ℤ) : Type 0 where
  pub keeps : keeps_lines rule para way ≡ true
  pub state : v ≡ line_state (start_of way) (length way)
  pub cost : c ≡ demerits rule para way
  pub fits : is_some_line way ≡ true → length way + low (start_of way) ≤ most

-- the runs are the ways whose lines may stand, whole or not
pub record RunsAreLines (rule : LineRule) (para : List HItem) (low : ℕ → ℕ) (most : ℕ) : Type 0 where
  pub lines : (way : List ℕ) (v : LineState) (c : ℤ) → Run (line_meaning rule para low most) way v c → AreLines rule para low most way v c
  pub runs : (way : List ℕ) → keeps_lines rule para way ≡ true → length way + low (start_of way) ≤ most →
      Run (line_meaning rule para low most) way (line_state (start_of way) (length way)) (demerits rule para way)

-- a done label is the least way of its number of lines, at its demerits
pub record TellsLeast (rule : LineRule) (para : List HItem) (e : Entry LineState ℕ) (way : List ℕ) : Type 0 where
  pub least : IsLeastWay rule para e.state.lines way
  pub cost : e.cost ≡ demerits rule para way

-- the label of the least way of a number of lines
pub record IsToldOf (para : List HItem) (es : List (Entry LineState ℕ)) (n : ℕ) : Type 0 where
  pub entry : Entry LineState ℕ
  pub among : Contains es entry
  pub state : entry.state ≡ line_state (length para) n

-- no done label is cheaper, and none as cheap has fewer lines
abbrev pub IsCheapest : List HItem → List (Entry LineState ℕ) → Entry LineState ℕ → Type 0
IsCheapest para es e = (f : Entry LineState ℕ) → Contains es f → is_done para f.state ≡ true →
    (e.cost <ℤ f.cost) ⊎ ((e.cost ≡ f.cost) × (e.state.lines ≤ f.state.lines))

-- each done label tells the least way of its number of lines, and each number of lines up to the most that has a way has a
-- label; where the most is no bound, the cheapest label tells the best way
pub record TellsWays (rule : LineRule) (para : List HItem) (low : ℕ → ℕ) (most : ℕ) (es : List (Entry LineState ℕ)) : Type 0 where
  pub least : (e : Entry LineState ℕ) (way : List ℕ) → Contains es e → is_done para e.state ≡ true → RunOf es e way →
      TellsLeast rule para e way
  pub all : (way : List ℕ) → is_way rule para way ≡ true → length way ≤ most → IsToldOf para es (length way)
  pub none : (n : ℕ) → n ≤ most → ((e : Entry LineState ℕ) → Contains es e → e.state ≡ line_state (length para) n → ⊥) →
      NoWay rule para n
  pub best : (e : Entry LineState ℕ) (way : List ℕ) → Contains es e → is_done para e.state ≡ true → RunOf es e way →
      length para ≤ most → IsCheapest para es e → IsBestWay rule para way
  pub cannot : length para ≤ most → NoneDone (line_meaning rule para low most) es → CannotBreak rule para
