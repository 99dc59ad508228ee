-- Columns of text, worked by hand: one verdict for each rule on a text and each way not to fit.
use Rattle.std.proofs.Common.{refl, ℕ, ℤ, pos, negsuc, List, [], ◌∷◌, Option, Some, None}
use Rattle.std.specs.Prelude.{◌&&◌, if◌then◌else◌, Result, Ok, Err, unwrap_or}
use Rattle.std.specs.Option.{option_map_or}
use Rattle.pg_list.specs.Places.{place}
use Rattle.pg_list.specs.declared.galley.Place.{Place}
use Rattle.pg_list.specs.declared.blocks.Block.{Block}
use Rattle.pg_list.specs.declared.blocks.Block.TheVariants.{One, Choice}
use Rattle.pg_list.specs.Break.{break_penalty}
use Rattle.pg_style.specs.Values.{StyleValue}
use Rattle.pg_rules.specs.ColumnRules.{does_fit, text_badness, text_fitness, text_goal, text_total}
use Rattle.pg_rules.specs.Cost.{text_demerits}
use Rattle.pg_rules.specs.Room.{ColumnContext, is_text, items_of, size_of}
use Rattle.pg_column.specs.Judged.{text_fault}
use Rattle.test_parts.proofs.Cases.{AreTold, fil_gap, gap, insert, items, line, loose, mark, note_style, penalty, points, variant}

-- the tolerance is 200, the least room 20 points, the greatest looseness 0; a first baseline is 10 points below the top
abbrev style : ℤ → StyleValue
style room = record note_style { height = room; tolerance = 200; min_text = points 20 }

abbrev column : ℤ → List Block → Place → Place → List ℕ → ColumnContext
column room blocks from to picks = record {
  document = record { blocks = blocks; style = style room };
  column = record { from = from; to = to; top = 0 ∷ []; bottom = 0 ∷ []; picks = picks };
  run = 0;
  wide = None;
  before = 0 ∷ [];
}

-- goal, total, badness, penalty, demerits and fitness
abbrev numbers : ColumnContext → ℕ → List ℤ
numbers it n =
    text_goal it n ∷ text_total it n ∷ pos (text_badness it n) ∷ unwrap_or (break_penalty (items_of it) n) (pos 0)
    ∷ text_demerits it n ∷ pos (text_fitness it n) ∷ []

-- the numbers of a text of n items, or the rule that it breaks
abbrev judged_at : ColumnContext → ℕ → Option (Result (List ℤ) ℕ)
judged_at it n = Some (option_map_or (λ (rule : ℕ). Err rule) (text_fault it) (Ok (numbers it n)))

-- of a text that fits its galley
abbrev judged : ColumnContext → Option (Result (List ℤ) ℕ)
judged it = if is_text it && does_fit it then option_map_or (judged_at it) (size_of it) None else None

abbrev fits_not : Option (Result (List ℤ) ℕ)
fits_not = None

abbrev breaks : ℕ → Option (Result (List ℤ) ℕ)
breaks rule = Some (Err rule)

abbrev costs : ℤ → ℤ → ℤ → ℤ → ℤ → ℤ → Option (Result (List ℤ) ℕ)
costs goal total badness penalty demerits fitness =
    Some (Ok (goal ∷ total ∷ badness ∷ penalty ∷ demerits ∷ fitness ∷ []))

-- a line, and a paragraph of a line or, a line longer, of three
abbrev paragraph : List Block
paragraph = One line ∷ One fil_gap ∷ Choice (variant (line ∷ []) ∷ loose (line ∷ fil_gap ∷ line ∷ fil_gap ∷ line ∷ []) ∷ []) ∷ One gap ∷ One line ∷ []

-- room, galley, where the text begins, where it ends, and its picks
columns : AreTold (
    (judged (column (points 58) (items (line ∷ gap ∷ line ∷ gap ∷ line ∷ gap ∷ line ∷ gap ∷ line ∷ gap ∷ line ∷ [])) (place 0 0 0) (place 9 0 0) []), costs (points 58) (points 58) (pos 0) (pos 0) (pos 100) (pos 2))
    ∷ (judged (column (points 58) (items (line ∷ gap ∷ line ∷ gap ∷ line ∷ gap ∷ line ∷ gap ∷ line ∷ gap ∷ line ∷ [])) (place 0 0 0) (place 10 0 0) []), breaks 3)
    ∷ (judged (column (points 58) (items (mark ∷ gap ∷ line ∷ [])) (place 0 0 0) (place 1 0 0) []), breaks 3)
    ∷ (judged (column (points 58) (items (line ∷ gap ∷ line ∷ gap ∷ line ∷ gap ∷ line ∷ gap ∷ line ∷ gap ∷ line ∷ gap ∷ line ∷ [])) (place 0 0 0) (place 11 0 0) []), breaks 4)
    ∷ (judged (column (points 58) (items (line ∷ gap ∷ line ∷ gap ∷ line ∷ gap ∷ line ∷ [])) (place 0 0 0) (place 5 0 0) []), breaks 4)
    ∷ (judged (column (points 58) (items (line ∷ gap ∷ line ∷ fil_gap ∷ line ∷ gap ∷ line ∷ [])) (place 0 0 0) (place 5 0 0) []), costs (points 58) (points 34) (pos 0) (pos 0) (pos 100) (pos 2))
    ∷ (judged (column (points 58) (items (line ∷ gap ∷ line ∷ fil_gap ∷ line ∷ penalty (pos 50) ∷ line ∷ [])) (place 0 0 0) (place 5 0 0) []), costs (points 58) (points 34) (pos 0) (pos 50) (pos 2600) (pos 2))
    ∷ (judged (column (points 58) (items (line ∷ gap ∷ line ∷ fil_gap ∷ line ∷ penalty (negsuc 49) ∷ line ∷ [])) (place 0 0 0) (place 5 0 0) []), costs (points 58) (points 34) (pos 0) (negsuc 49) (negsuc 2399) (pos 2))
    ∷ (judged (column (points 58) (items (line ∷ gap ∷ line ∷ penalty (negsuc 9999) ∷ line ∷ [])) (place 0 0 0) (place 3 0 0) []), costs (points 58) (points 22) (pos 10000) (negsuc 9999) (pos 100200100) (pos 2))
    ∷ (judged (column (points 58) (items (line ∷ fil_gap ∷ line ∷ penalty (negsuc 9999) ∷ line ∷ gap ∷ line ∷ [])) (place 0 0 0) (place 5 0 0) []), breaks 5)
    ∷ (judged (column (points 58) (items (line ∷ gap ∷ line ∷ gap ∷ [])) (place 0 0 0) (place 3 0 0) []), costs (points 58) (points 22) (pos 0) (pos 0) (pos 100) (pos 2))
    ∷ (judged (column (points 20) (items (line ∷ fil_gap ∷ mark ∷ gap ∷ line ∷ [])) (place 0 0 0) (place 3 0 0) []), costs (points 20) (points 15) (pos 0) (pos 0) (pos 100) (pos 2))
    ∷ (judged (column (points 19) (items (line ∷ fil_gap ∷ mark ∷ gap ∷ line ∷ [])) (place 0 0 0) (place 3 0 0) []), breaks 6)
    ∷ (judged (column (points 58) (items (line ∷ fil_gap ∷ line ∷ insert 200 (points 9) ∷ gap ∷ line ∷ [])) (place 0 0 0) (place 4 0 0) []), costs (points 45) (points 22) (pos 0) (pos 0) (pos 100) (pos 2))
    ∷ (judged (column (points 58) (items (line ∷ fil_gap ∷ line ∷ insert 201 (points 6) ∷ gap ∷ line ∷ [])) (place 0 0 0) (place 4 0 0) []), breaks 11)
    ∷ (judged (column (points 58) paragraph (place 0 0 0) (place 3 0 0) (0 ∷ [])), costs (points 58) (points 22) (pos 0) (pos 0) (pos 100) (pos 2))
    ∷ (judged (column (points 58) paragraph (place 0 0 0) (place 3 0 0) (1 ∷ [])), breaks 13)
    ∷ (judged (column (points 58) paragraph (place 2 1 2) (place 3 0 0) []), costs (points 58) (points 22) (pos 0) (pos 0) (pos 100) (pos 2))
    ∷ (judged (column (points 58) paragraph (place 0 0 0) (place 3 0 0) (2 ∷ [])), fits_not)
    ∷ (judged (column (points 58) paragraph (place 0 0 0) (place 3 0 0) []), fits_not)
    ∷ (judged (column (points 58) paragraph (place 0 0 0) (place 3 0 0) (0 ∷ 0 ∷ [])), fits_not)
    ∷ (judged (column (points 58) paragraph (place 2 1 2) (place 3 0 0) (0 ∷ [])), fits_not)
    ∷ (judged (column (points 58) (items (line ∷ gap ∷ line ∷ [])) (place 2 0 0) (place 1 0 0) []), fits_not)
    ∷ (judged (column (points 58) (items (line ∷ gap ∷ line ∷ [])) (place 0 0 0) (place 9 0 0) []), fits_not)
    ∷ [])
columns = refl
