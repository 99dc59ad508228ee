-- What is found of the ways of a paragraph.
use Rattle.std.specs.Prelude.{◌≡◌, ℕ, List, length, Option, Some, None, slice_get, Contains}
use Rattle.pg_table.specs.declared.table.Entry.{Entry}
use Rattle.pg_hlist.specs.declared.item.HItem.{HItem}
use Rattle.law_lines.specs.declared.rule.LineRule.{LineRule}
use Rattle.law_lines.specs.Ways.{CannotBreak, IsLeastWay, NoWay, demerits}
use Rattle.law_lines.specs.declared.state.LineState.{LineState}
use Rattle.law_lines.specs.BestSpace.{IsBestCount}
use Rattle.law_lines.specs.LineSpace.{line_state}
use Rattle.pg_lines.specs.declared.ways.Way.{Way}

-- the best number of lines, or none where there is no way
abbrev pub IsBestNumber : LineRule → List HItem → Option ℕ → Type 0
IsBestNumber rule para None = CannotBreak rule para
IsBestNumber rule para (Some n) = (way : List ℕ) × (IsBestCount rule para way × (length way ≡ n))

-- the least way of so many lines with its demerits, or none where there is no such way
abbrev pub IsFound : LineRule → List HItem → ℕ → Option Way → Type 0
IsFound rule para n None = NoWay rule para n
IsFound rule para n (Some way) = IsLeastWay rule para n way.ends.items × (way.demerits ≡ demerits rule para way.ends.items)

-- the label at this place is of this state
pub record IsLabelAt (es : List (Entry LineState ℕ)) (end lines i : ℕ) : Type 0 where
  pub entry : Entry LineState ℕ
  pub is : slice_get es i ≡ Some entry
  pub state : entry.state ≡ line_state end lines

-- no label is of this state
abbrev pub NoLabelAt : List (Entry LineState ℕ) → ℕ → ℕ → Type 0
NoLabelAt es end lines = (i : ℕ) (e : Entry LineState ℕ) → slice_get es i ≡ Some e → e.state ≡ line_state end lines → ⊥
