-- A line of a paragraph: its items, its sums, and when it may stand.
use Rattle.std.specs.Prelude.{ℕ, ◌+◌, ◌-◌, Bool, ◌&&◌, ◌||◌, false, not, nat_le, List, [], ◌∷◌, take, drop, Option, is_some, ℤ, pos, negsuc, ◌+ℤ◌, ◌-ℤ◌, int_lt, if◌then◌else◌}
use Rattle.std.specs.List.{list_all, list_any, range_with_len}
use Rattle.std.specs.Option.{option_map_or}
use Rattle.pg_list.specs.Shapes.{is_box}
use Rattle.pg_list.specs.Badness.{is_over, page_badness}
use Rattle.pg_list.specs.Break.{break_penalty, is_forced}
use Rattle.pg_list.specs.Totals.{shrink}
use Rattle.pg_list.specs.Whole.{square, whole_sum_by}
use Rattle.pg_hlist.specs.declared.item.HItem.{HItem}
use Rattle.pg_hlist.specs.Items.{as_item, as_items, width_of}
use Rattle.law_lines.specs.declared.rule.LineRule.{LineRule}
use Rattle.pg_rules.specs.Cost.{penalty_demerits}

-- a paragraph is broken where a list of these items is
abbrev pub penalty_at : List HItem → ℕ → Option ℤ
penalty_at para k = break_penalty (as_items para) k

abbrev pub is_forced_at : List HItem → ℕ → Bool
is_forced_at para k = is_forced (as_items para) k

abbrev pub holds_box : List HItem → Bool
holds_box items = list_any (λ (item : HItem). is_box (as_item item)) items

-- the items from the first box on
abbrev pub from_box : List HItem → List HItem
from_box [] = []
from_box (item ∷ items) = if is_box (as_item item) then item ∷ items else from_box items

-- the items of the line from a up to k
abbrev pub line_items : List HItem → ℕ → ℕ → List HItem
line_items para a k = from_box (drop a (take k para))

abbrev pub line_total : List HItem → ℤ
line_total line = whole_sum_by width_of line

-- too wide by more than can shrink
abbrev pub line_is_over : LineRule → List HItem → Bool
line_is_over rule line = is_over (line_total line) (shrink (as_items line)) rule.width

-- how badly the line fills its width
abbrev pub line_badness : LineRule → List HItem → ℕ
line_badness rule line = page_badness false rule.width (line_total line) (as_items line)

-- no break strictly inside the line, behind its first box, is forced
abbrev pub passes_forced : List HItem → ℕ → ℕ → Bool
passes_forced para a k =
    list_all (λ (j : ℕ). not (is_forced_at para j && holds_box (drop a (take j para))))
    (range_with_len (a + 1) (k - (a + 1)))

-- the line holds a box, ends at a break, is not over, and is not worse than the tolerance unless its end is forced
abbrev pub is_line : LineRule → List HItem → ℕ → ℕ → Bool
is_line rule para a k =
    is_some (penalty_at para k)
    && (holds_box (drop a (take k para))
    && (not (line_is_over rule (line_items para a k))
    && ((nat_le (line_badness rule (line_items para a k)) rule.tolerance || is_forced_at para k)
    && passes_forced para a k)))

abbrev pub line_demerits : LineRule → List HItem → ℕ → ℕ → ℤ
line_demerits rule para a k =
    square (pos (10 + line_badness rule (line_items para a k)))
    +ℤ option_map_or penalty_demerits (penalty_at para k) (pos 0)
