-- What scripts say, computed: scripts that are read, and the first faults of others.
use Rattle.std.proofs.Common.{◌≡◌, refl, ℕ, pos, List, [], ◌∷◌}
use Rattle.std.specs.Prelude.{codes, Ok, Err, ◌^◌, ◌-◌, ◌*◌, ◌++◌}
use Rattle.pg_list.specs.declared.blocks.Block.{Block}
use Rattle.pg_list.specs.declared.blocks.Block.TheVariants.{One, Choice}
use Rattle.pg_list.specs.declared.item.Item.{Item}
use Rattle.pg_list.specs.declared.item.Item.TheVariants.{BoxItem, Glue}
use Rattle.pg_list.specs.declared.item.Order.TheVariants.{Finite}
use Rattle.pg_scan.specs.Lines.{joined, lines_of, trimmed}
use Rattle.pg_scan.specs.Parts.{after, named, parts_of, past, word_number}
use Rattle.pg_showbox.specs.Nodes.{amount_at, box_at, carry_or_unknown, glue_at, glue_text_at, later_node_at, node_at, past_name, shrink_at, stretch_at}
use Rattle.pg_showbox.specs.ParsedLine.{block_line, marker_at, pointed_at, variant_at}
use Rattle.pg_showbox.specs.Parts.{digits_at, due, order_at, size_at, whole_at}
use Rattle.pg_showbox.specs.Reading.{line_read, run, said_in}
use Rattle.pg_showbox.specs.State.{begun_choice, begun_variant, closed, ended, ended_choice, longer_last, next_variant, placed, placed_block, placed_item, step, whole_choice}
use Rattle.pg_showbox.specs.declared.kinds.ListKind.TheVariants.{BadLine, ChoiceShape, Truncated, UnknownNode}
use Rattle.pg_edits.specs.Instructions.{instruction_of, one_number, two_numbers, words_said}
use Rattle.pg_edits.specs.Script.{blocks_at, fault_at, line_said, script_of, step_said, steps_from}
use Rattle.pg_edits.specs.declared.kinds.ScriptKind.TheVariants.{UnknownWord, BadNumber, NoBlocks, Blocks}
use Rattle.pg_edits.specs.declared.script.ScriptStep.{ScriptStep}
use Rattle.pg_edits.specs.declared.script.ScriptStep.TheVariants.{Change, Show}

abbrev box_line : List ℕ
box_line = codes ".\\hbox(7.0+2.0)x345.0\n"

abbrev gap_line : List ℕ
gap_line = codes ".\\glue 3.0\n"

abbrev choice_lines : List ℕ
choice_lines = codes ".\\special{pg:choice}\n.\\special{pg:variant 0 7}\n" ++ box_line ++ codes ".\\special{pg:end}\n"

abbrev a_box : Item
a_box = BoxItem (pos (7 * 65536)) (pos (2 * 65536)) (codes "\\hbox(7.0+2.0)x345.0")

-- with a line that belongs to it
abbrev a_deep_box : Item
a_deep_box = BoxItem (pos 65536) (pos 0) (codes "\\vbox(1.0+0.0)x2.0\n.\\kern")

abbrev a_gap : Item
a_gap = Glue (pos (3 * 65536)) (pos 0) Finite (pos 0) (codes "\\glue 3.0")

abbrev a_choice : Block
a_choice = Choice (record { looseness = pos 0; demerits = 7; items = a_box ∷ [] } ∷ [])

abbrev change : ℕ → ℕ → List Block → ScriptStep
change at gone fresh = Change (record { at = at; gone = gone; fresh = fresh })

-- steps, with empty lines between them; a number has up to ten digits
steps_are_read :
    (script_of (codes "") ≡ Ok [])
    × (script_of (codes "show\ndelete 0000000002 4294967295\r\n\n\r\nshow")
    ≡ Ok (Show ∷ change 2 (2 ^ 32 - 1) [] ∷ Show ∷ []))
    × (script_of (codes "delete 3 0\n") ≡ Ok (change 3 0 [] ∷ []))
unfolding script_of steps_from line_said step_said instruction_of words_said one_number two_numbers word_number
    parts_of lines_of trimmed
steps_are_read = (refl, refl, refl)

-- item lines, up to the first line without a point
item_lines_are_read :
    (script_of (codes "show\nreplace 0 1\n" ++ box_line ++ gap_line ++ box_line ++ codes "show\n")
    ≡ Ok (Show ∷ change 0 1 (One a_box ∷ One a_gap ∷ One a_box ∷ []) ∷ Show ∷ []))
    × (script_of (codes "insert 2\n" ++ gap_line ++ codes "insert 4\n" ++ box_line ++ codes "\nshow\n")
    ≡ Ok (change 2 0 (One a_gap ∷ []) ∷ change 4 0 (One a_box ∷ []) ∷ Show ∷ []))
    × (script_of (codes "insert 1\r\n.\\glue 3.0\r\n.\\vbox(1.0+0.0)x2.0\n..\\kern")
    ≡ Ok (change 1 0 (One a_gap ∷ One a_deep_box ∷ []) ∷ []))
unfolding script_of steps_from line_said step_said blocks_at instruction_of words_said one_number two_numbers
    word_number parts_of lines_of trimmed joined said_in line_read run step placed placed_block placed_item longer_last
    closed ended begun_choice begun_variant next_variant whole_choice ended_choice block_line pointed_at marker_at
    variant_at node_at later_node_at carry_or_unknown box_at glue_at glue_text_at past_name amount_at stretch_at
    shrink_at after past named due size_at order_at digits_at whole_at
item_lines_are_read = (refl, refl, refl)

-- a choice is one block
a_choice_is_read :
    (script_of (codes "insert 0\n" ++ choice_lines ++ box_line) ≡ Ok (change 0 0 (a_choice ∷ One a_box ∷ []) ∷ []))
unfolding script_of steps_from line_said step_said blocks_at instruction_of words_said one_number two_numbers
    word_number parts_of lines_of trimmed joined said_in line_read run step placed placed_block placed_item longer_last
    closed ended begun_choice begun_variant next_variant whole_choice ended_choice block_line pointed_at marker_at
    variant_at node_at later_node_at carry_or_unknown box_at glue_at glue_text_at past_name amount_at stretch_at
    shrink_at after past named due size_at order_at digits_at whole_at
a_choice_is_read = refl

-- a line whose first word is none of the four
words_are_unknown :
    (script_of (codes "move 1\n") ≡ Err (fault_at 1 UnknownWord))
    × (script_of (codes " show\n") ≡ Err (fault_at 1 UnknownWord))
    × (script_of (codes "show\n\nShow\n") ≡ Err (fault_at 3 UnknownWord))
unfolding script_of steps_from line_said step_said instruction_of words_said one_number two_numbers word_number
    parts_of lines_of trimmed
words_are_unknown = (refl, refl, refl)

-- an item line that follows no `insert` or `replace`
items_are_unknown :
    (script_of (box_line ++ codes "show\n") ≡ Err (fault_at 1 UnknownWord))
    × (script_of (codes "show\n" ++ box_line) ≡ Err (fault_at 2 UnknownWord))
    × (script_of (codes "delete 0 1\n" ++ box_line) ≡ Err (fault_at 2 UnknownWord))
    × (script_of (codes "insert 0\n" ++ box_line ++ codes "\n" ++ box_line) ≡ Err (fault_at 4 UnknownWord))
unfolding script_of steps_from line_said step_said blocks_at instruction_of words_said one_number two_numbers
    word_number parts_of lines_of trimmed joined said_in line_read run step placed placed_block placed_item longer_last
    closed ended begun_choice begun_variant next_variant whole_choice ended_choice block_line pointed_at marker_at
    variant_at node_at later_node_at carry_or_unknown box_at glue_at glue_text_at past_name amount_at stretch_at
    shrink_at after past named due size_at order_at digits_at whole_at
items_are_unknown = (refl, refl, refl, refl)

-- a word that is no number, before what the item lines say
numbers_are_bad :
    (script_of (codes "delete x 1\n") ≡ Err (fault_at 1 BadNumber))
    × (script_of (codes "delete 4294967296 1\n") ≡ Err (fault_at 1 BadNumber))
    × (script_of (codes "delete 00000000001 1\n") ≡ Err (fault_at 1 BadNumber))
    × (script_of (codes "insert -1\n" ++ box_line) ≡ Err (fault_at 1 BadNumber))
    × (script_of (codes "insert x\n") ≡ Err (fault_at 1 BadNumber))
unfolding script_of steps_from line_said step_said instruction_of words_said one_number two_numbers word_number
    parts_of lines_of trimmed
numbers_are_bad = (refl, refl, refl, refl, refl)

-- single blanks between the words, and neither more words nor fewer
words_are_too_many_or_few :
    (script_of (codes "show \n") ≡ Err (fault_at 1 BadNumber))
    × (script_of (codes "insert  0\n" ++ box_line) ≡ Err (fault_at 1 BadNumber))
    × (script_of (codes "show\ndelete 1") ≡ Err (fault_at 2 BadNumber))
    × (script_of (codes "replace 0 1 2\n" ++ box_line) ≡ Err (fault_at 1 BadNumber))
unfolding script_of steps_from line_said step_said instruction_of words_said one_number two_numbers word_number
    parts_of lines_of trimmed
words_are_too_many_or_few = (refl, refl, refl, refl)

-- no item line directly behind
no_blocks_are_there :
    (script_of (codes "insert 0\n") ≡ Err (fault_at 1 NoBlocks))
    × (script_of (codes "show\n\nreplace 0 1\nshow\n") ≡ Err (fault_at 3 NoBlocks))
    × (script_of (codes "insert 0\n\n" ++ box_line) ≡ Err (fault_at 1 NoBlocks))
unfolding script_of steps_from line_said step_said instruction_of words_said one_number two_numbers word_number
    parts_of lines_of trimmed
no_blocks_are_there = (refl, refl, refl)

-- item lines with a fault, at their own line
blocks_are_at_fault :
    (script_of (codes "insert 0\n..x\n") ≡ Err (fault_at 2 (Blocks BadLine)))
    × (script_of (codes "show\ninsert 0\n" ++ box_line ++ codes ".etc.\nmove 1\n")
    ≡ Err (fault_at 4 (Blocks Truncated)))
    × (script_of (codes "insert 0\n" ++ box_line ++ codes ".x\n") ≡ Err (fault_at 3 (Blocks UnknownNode)))
unfolding script_of steps_from line_said step_said blocks_at instruction_of words_said one_number two_numbers
    word_number parts_of lines_of trimmed joined said_in line_read run step placed placed_block placed_item longer_last
    closed ended begun_choice begun_variant next_variant whole_choice ended_choice block_line pointed_at marker_at
    variant_at node_at later_node_at carry_or_unknown box_at glue_at glue_text_at past_name amount_at stretch_at
    shrink_at after past named due size_at order_at digits_at whole_at
blocks_are_at_fault = (refl, refl, refl)

-- a choice that is not closed has its fault at the line behind the item lines
choices_are_open :
    (script_of (codes "insert 0\n.\\special{pg:choice}\nmove 1\n") ≡ Err (fault_at 3 (Blocks ChoiceShape)))
    × (script_of (codes "show\ninsert 0\n.\\special{pg:choice}") ≡ Err (fault_at 4 (Blocks ChoiceShape)))
unfolding script_of steps_from line_said step_said blocks_at instruction_of words_said one_number two_numbers
    word_number parts_of lines_of trimmed joined said_in line_read run step placed placed_block placed_item longer_last
    closed ended begun_choice begun_variant next_variant whole_choice ended_choice block_line pointed_at marker_at
    variant_at node_at later_node_at carry_or_unknown box_at glue_at glue_text_at past_name amount_at stretch_at
    shrink_at after past named due size_at order_at digits_at whole_at
choices_are_open = (refl, refl)
