-- How the lines of a way are set, from the first on. It is proved to give what law_lines defines; nobody need
-- believe what stands here.
use Rattle.std.specs.Prelude.{ℕ, ◌+◌, ◌==◌, nat_lt, Bool, false, if◌then◌else◌, List, [], ◌∷◌, ◌++◌, length}
use Rattle.pg_list.specs.declared.item.Item.{Item}
use Rattle.pg_hlist.specs.declared.item.HItem.{HItem}
use Rattle.law_lines.specs.declared.rule.LineRule.{LineRule}
use Rattle.law_lines.specs.Boxes.{line_box}
use Rattle.law_lines.specs.Lines.{line_items}
use Rattle.law_lines.specs.Variants.{between_item}

-- what a break costs behind a line that is the first, or the last but one, or both
abbrev pub gap : Bool → Bool → ℕ
gap is_first is_last = (if is_first then 150 else 0) + (if is_last then 150 else 0)

-- a line, and where so many follow it, the penalty behind it
abbrev pub set_line : LineRule → List HItem → Bool → ℕ → List Item
set_line rule line is_first left =
    line_box rule line ∷ (if nat_lt 0 left then between_item (gap is_first (left == 1)) ∷ [] else [])

-- the lines that end at these places, the first of which starts here
abbrev pub set_ends : LineRule → List HItem → Bool → ℕ → List ℕ → List Item
set_ends rule para is_first start [] = []
set_ends rule para is_first start (k ∷ ks) =
    set_line rule (line_items para start k) is_first (length ks) ++ set_ends rule para false k ks
