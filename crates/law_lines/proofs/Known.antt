-- Whole outputs for small files: the text of the galley that the paragraphs of a file make, or the paragraph that
-- cannot be broken.
use Rattle.std.proofs.Common.{◌≡◌, refl, [], ◌∷◌, pos}
use Rattle.std.specs.Prelude.{Ok, Err, codes}
use Rattle.std.specs.Fmt.{digits}
use Rattle.pg_scaled.specs.Scaled.{fraction_digits}
use Rattle.pg_scan.specs.Lines.{lines_of, trimmed, joined}
use Rattle.pg_showbox.specs.Parts.{due, size_at, past_size, digits_at, whole_at, order_at}
use Rattle.pg_scan.specs.Parts.{after, past, named}
use Rattle.pg_showbox.specs.Nodes.{amount_at, stretch_at, shrink_at, glue_text_at, past_name, glue_at, leaders_at, kern_at, penalty_at}
use Rattle.pg_showbox.specs.Text.{choice_line, variant_front, end_line, root_front}
use Rattle.pg_hlist.specs.Nodes.{box_at, node_at, later_node_at}
use Rattle.pg_hlist.specs.ParsedLine.{root_at, outside_line, pointed_at, inside_line, line_parsed}
use Rattle.pg_hlist.specs.Reading.{paras_of, run, line_read, step, placed, longer_last}
use Rattle.law_lines.proofs.Texts.{rule, text, lines_of_file}

-- two lines of two words, or three lines, the first among two ways of equal demerits
two_or_three-lines : lines_of_file (rule (pos 1441792) 10000 1) (text (codes "\\hbox(0.0+0.0)x0.0" ∷ codes ".\\hbox(7.0+2.0)x10.0" ∷ codes ".\\glue 2.0 plus 1.0 minus 1.0" ∷ codes ".\\hbox(7.0+2.0)x10.0" ∷ codes ".\\glue 2.0 plus 1.0 minus 1.0" ∷ codes ".\\hbox(7.0+2.0)x10.0" ∷ codes ".\\glue 2.0 plus 1.0 minus 1.0" ∷ codes ".\\hbox(7.0+2.0)x10.0" ∷ codes ".\\penalty 10000" ∷ codes ".\\glue 0.0 plus 1.0fil" ∷ []))
    ≡ Ok (text (codes "\\vbox(0.0+0.0)x22.0" ∷ codes ".\\special{pg:choice}" ∷ codes ".\\special{pg:variant 0 0}" ∷ codes ".\\hbox(8.5+3.5)x22.0" ∷ codes "..\\hbox(7.0+2.0)x10.0" ∷ codes "..\\glue 2.0 plus 1.0 minus 1.0, set 2.0" ∷ codes "..\\hbox(7.0+2.0)x10.0" ∷ codes ".\\penalty 300" ∷ codes ".\\hbox(8.5+3.5)x22.0" ∷ codes "..\\hbox(7.0+2.0)x10.0" ∷ codes "..\\glue 2.0 plus 1.0 minus 1.0, set 2.0" ∷ codes "..\\hbox(7.0+2.0)x10.0" ∷ codes "..\\penalty 10000" ∷ codes "..\\glue 0.0 plus 1.0fil, set 0.0" ∷ codes ".\\special{pg:variant 1 100000000}" ∷ codes ".\\hbox(8.5+3.5)x22.0" ∷ codes "..\\hbox(7.0+2.0)x10.0" ∷ codes ".\\penalty 150" ∷ codes ".\\hbox(8.5+3.5)x22.0" ∷ codes "..\\hbox(7.0+2.0)x10.0" ∷ codes "..\\glue 2.0 plus 1.0 minus 1.0, set 2.0" ∷ codes "..\\hbox(7.0+2.0)x10.0" ∷ codes ".\\penalty 150" ∷ codes ".\\hbox(8.5+3.5)x22.0" ∷ codes "..\\hbox(7.0+2.0)x10.0" ∷ codes "..\\penalty 10000" ∷ codes "..\\glue 0.0 plus 1.0fil, set 12.0" ∷ codes ".\\special{pg:end}" ∷ []))
unfolding paras_of run line_read step placed longer_last line_parsed inside_line outside_line pointed_at root_at node_at later_node_at box_at glue_at leaders_at kern_at penalty_at glue_text_at stretch_at shrink_at amount_at past_name order_at whole_at digits_at size_at past_size named past due after lines_of trimmed joined choice_line variant_front end_line root_front fraction_digits digits
two_or_three-lines = refl

-- a box that is wider than the line
too_wide-lines : lines_of_file (rule (pos 1441792) 10000 1) (text (codes "\\hbox(0.0+0.0)x0.0" ∷ codes ".\\hbox(7.0+2.0)x30.0" ∷ []))
    ≡ Err 1
unfolding paras_of run line_read step placed longer_last line_parsed inside_line outside_line pointed_at root_at node_at later_node_at box_at glue_at leaders_at kern_at penalty_at glue_text_at stretch_at shrink_at amount_at past_name order_at whole_at digits_at size_at past_size named past due after lines_of trimmed joined choice_line variant_front end_line root_front fraction_digits digits
too_wide-lines = refl

-- no items, no line
empty-lines : lines_of_file (rule (pos 1441792) 10000 1) (text (codes "\\hbox(0.0+0.0)x0.0" ∷ []))
    ≡ Err 1
unfolding paras_of run line_read step placed longer_last line_parsed inside_line outside_line pointed_at root_at node_at later_node_at box_at glue_at leaders_at kern_at penalty_at glue_text_at stretch_at shrink_at amount_at past_name order_at whole_at digits_at size_at past_size named past due after lines_of trimmed joined choice_line variant_front end_line root_front fraction_digits digits
empty-lines = refl

-- one line alone, and no variant with less
one_line-lines : lines_of_file (rule (pos 1441792) 10000 2) (text (codes "\\hbox(0.0+0.0)x0.0" ∷ codes ".\\hbox(7.0+2.0)x10.0" ∷ codes ".\\penalty 10000" ∷ codes ".\\glue 0.0 plus 1.0fil" ∷ []))
    ≡ Ok (text (codes "\\vbox(0.0+0.0)x22.0" ∷ codes ".\\special{pg:choice}" ∷ codes ".\\special{pg:variant 0 0}" ∷ codes ".\\hbox(8.5+3.5)x22.0" ∷ codes "..\\hbox(7.0+2.0)x10.0" ∷ codes "..\\penalty 10000" ∷ codes "..\\glue 0.0 plus 1.0fil, set 12.0" ∷ codes ".\\special{pg:end}" ∷ []))
unfolding paras_of run line_read step placed longer_last line_parsed inside_line outside_line pointed_at root_at node_at later_node_at box_at glue_at leaders_at kern_at penalty_at glue_text_at stretch_at shrink_at amount_at past_name order_at whole_at digits_at size_at past_size named past due after lines_of trimmed joined choice_line variant_front end_line root_front fraction_digits digits
one_line-lines = refl

-- one to five words a line
five_counts-lines : lines_of_file (rule (pos 2359296) 10000 2) (text (codes "\\hbox(0.0+0.0)x0.0" ∷ codes ".\\hbox(7.0+2.0)x10.0" ∷ codes ".\\glue 2.0 plus 1.0 minus 1.0" ∷ codes ".\\hbox(7.0+2.0)x10.0" ∷ codes ".\\glue 2.0 plus 1.0 minus 1.0" ∷ codes ".\\hbox(7.0+2.0)x10.0" ∷ codes ".\\penalty 10000" ∷ codes ".\\glue 0.0 plus 1.0fil" ∷ []))
    ≡ Ok (text (codes "\\vbox(0.0+0.0)x36.0" ∷ codes ".\\special{pg:choice}" ∷ codes ".\\special{pg:variant 0 0}" ∷ codes ".\\hbox(8.5+3.5)x36.0" ∷ codes "..\\hbox(7.0+2.0)x10.0" ∷ codes "..\\glue 2.0 plus 1.0 minus 1.0, set 2.0" ∷ codes "..\\hbox(7.0+2.0)x10.0" ∷ codes "..\\glue 2.0 plus 1.0 minus 1.0, set 2.0" ∷ codes "..\\hbox(7.0+2.0)x10.0" ∷ codes "..\\penalty 10000" ∷ codes "..\\glue 0.0 plus 1.0fil, set 2.0" ∷ codes ".\\special{pg:variant 1 100000000}" ∷ codes ".\\hbox(8.5+3.5)x36.0" ∷ codes "..\\hbox(7.0+2.0)x10.0" ∷ codes ".\\penalty 300" ∷ codes ".\\hbox(8.5+3.5)x36.0" ∷ codes "..\\hbox(7.0+2.0)x10.0" ∷ codes "..\\glue 2.0 plus 1.0 minus 1.0, set 2.0" ∷ codes "..\\hbox(7.0+2.0)x10.0" ∷ codes "..\\penalty 10000" ∷ codes "..\\glue 0.0 plus 1.0fil, set 14.0" ∷ codes ".\\special{pg:variant 2 100000000}" ∷ codes ".\\hbox(8.5+3.5)x36.0" ∷ codes "..\\hbox(7.0+2.0)x10.0" ∷ codes ".\\penalty 150" ∷ codes ".\\hbox(8.5+3.5)x36.0" ∷ codes "..\\hbox(7.0+2.0)x10.0" ∷ codes ".\\penalty 150" ∷ codes ".\\hbox(8.5+3.5)x36.0" ∷ codes "..\\hbox(7.0+2.0)x10.0" ∷ codes "..\\penalty 10000" ∷ codes "..\\glue 0.0 plus 1.0fil, set 26.0" ∷ codes ".\\special{pg:end}" ∷ []))
unfolding paras_of run line_read step placed longer_last line_parsed inside_line outside_line pointed_at root_at node_at later_node_at box_at glue_at leaders_at kern_at penalty_at glue_text_at stretch_at shrink_at amount_at past_name order_at whole_at digits_at size_at past_size named past due after lines_of trimmed joined choice_line variant_front end_line root_front fraction_digits digits
five_counts-lines = refl

-- around 0 keeps the best alone
three_counts-lines : lines_of_file (rule (pos 1441792) 10000 0) (text (codes "\\hbox(0.0+0.0)x0.0" ∷ codes ".\\hbox(7.0+2.0)x10.0" ∷ codes ".\\glue 2.0 plus 1.0 minus 1.0" ∷ codes ".\\hbox(7.0+2.0)x10.0" ∷ codes ".\\glue 2.0 plus 1.0 minus 1.0" ∷ codes ".\\hbox(7.0+2.0)x10.0" ∷ codes ".\\glue 2.0 plus 1.0 minus 1.0" ∷ codes ".\\hbox(7.0+2.0)x10.0" ∷ codes ".\\penalty 10000" ∷ codes ".\\glue 0.0 plus 1.0fil" ∷ []))
    ≡ Ok (text (codes "\\vbox(0.0+0.0)x22.0" ∷ codes ".\\special{pg:choice}" ∷ codes ".\\special{pg:variant 0 0}" ∷ codes ".\\hbox(8.5+3.5)x22.0" ∷ codes "..\\hbox(7.0+2.0)x10.0" ∷ codes "..\\glue 2.0 plus 1.0 minus 1.0, set 2.0" ∷ codes "..\\hbox(7.0+2.0)x10.0" ∷ codes ".\\penalty 300" ∷ codes ".\\hbox(8.5+3.5)x22.0" ∷ codes "..\\hbox(7.0+2.0)x10.0" ∷ codes "..\\glue 2.0 plus 1.0 minus 1.0, set 2.0" ∷ codes "..\\hbox(7.0+2.0)x10.0" ∷ codes "..\\penalty 10000" ∷ codes "..\\glue 0.0 plus 1.0fil, set 0.0" ∷ codes ".\\special{pg:end}" ∷ []))
unfolding paras_of run line_read step placed longer_last line_parsed inside_line outside_line pointed_at root_at node_at later_node_at box_at glue_at leaders_at kern_at penalty_at glue_text_at stretch_at shrink_at amount_at past_name order_at whole_at digits_at size_at past_size named past due after lines_of trimmed joined choice_line variant_front end_line root_front fraction_digits digits
three_counts-lines = refl

-- a forced break inside, and the tolerance excused at it
forced-lines : lines_of_file (rule (pos 1441792) 0 1) (text (codes "\\hbox(0.0+0.0)x0.0" ∷ codes ".\\hbox(7.0+2.0)x10.0" ∷ codes ".\\penalty -10000" ∷ codes ".\\hbox(7.0+2.0)x10.0" ∷ codes ".\\glue 2.0 plus 1.0 minus 1.0" ∷ codes ".\\hbox(7.0+2.0)x10.0" ∷ codes ".\\penalty 10000" ∷ codes ".\\glue 0.0 plus 1.0fil" ∷ []))
    ≡ Ok (text (codes "\\vbox(0.0+0.0)x22.0" ∷ codes ".\\special{pg:choice}" ∷ codes ".\\special{pg:variant 0 0}" ∷ codes ".\\hbox(8.5+3.5)x22.0" ∷ codes "..\\hbox(7.0+2.0)x10.0" ∷ codes ".\\penalty 300" ∷ codes ".\\hbox(8.5+3.5)x22.0" ∷ codes "..\\hbox(7.0+2.0)x10.0" ∷ codes "..\\glue 2.0 plus 1.0 minus 1.0, set 2.0" ∷ codes "..\\hbox(7.0+2.0)x10.0" ∷ codes "..\\penalty 10000" ∷ codes "..\\glue 0.0 plus 1.0fil, set 0.0" ∷ codes ".\\special{pg:end}" ∷ []))
unfolding paras_of run line_read step placed longer_last line_parsed inside_line outside_line pointed_at root_at node_at later_node_at box_at glue_at leaders_at kern_at penalty_at glue_text_at stretch_at shrink_at amount_at past_name order_at whole_at digits_at size_at past_size named past due after lines_of trimmed joined choice_line variant_front end_line root_front fraction_digits digits
forced-lines = refl

-- a forcing penalty without a box behind it is no forced break
not_forced-lines : lines_of_file (rule (pos 1441792) 10000 1) (text (codes "\\hbox(0.0+0.0)x0.0" ∷ codes ".\\hbox(7.0+2.0)x10.0" ∷ codes ".\\glue 2.0 plus 1.0 minus 1.0" ∷ codes ".\\hbox(7.0+2.0)x10.0" ∷ codes ".\\penalty -10000" ∷ codes ".\\glue 0.0 plus 1.0fil" ∷ []))
    ≡ Ok (text (codes "\\vbox(0.0+0.0)x22.0" ∷ codes ".\\special{pg:choice}" ∷ codes ".\\special{pg:variant 0 0}" ∷ codes ".\\hbox(8.5+3.5)x22.0" ∷ codes "..\\hbox(7.0+2.0)x10.0" ∷ codes "..\\glue 2.0 plus 1.0 minus 1.0, set 2.0" ∷ codes "..\\hbox(7.0+2.0)x10.0" ∷ codes "..\\penalty -10000" ∷ codes "..\\glue 0.0 plus 1.0fil, set 0.0" ∷ codes ".\\special{pg:variant 1 100000000}" ∷ codes ".\\hbox(8.5+3.5)x22.0" ∷ codes "..\\hbox(7.0+2.0)x10.0" ∷ codes ".\\penalty 300" ∷ codes ".\\hbox(8.5+3.5)x22.0" ∷ codes "..\\hbox(7.0+2.0)x10.0" ∷ codes "..\\penalty -10000" ∷ codes "..\\glue 0.0 plus 1.0fil, set 12.0" ∷ codes ".\\special{pg:end}" ∷ []))
unfolding paras_of run line_read step placed longer_last line_parsed inside_line outside_line pointed_at root_at node_at later_node_at box_at glue_at leaders_at kern_at penalty_at glue_text_at stretch_at shrink_at amount_at past_name order_at whole_at digits_at size_at past_size named past due after lines_of trimmed joined choice_line variant_front end_line root_front fraction_digits digits
not_forced-lines = refl

-- a penalty costs, a bonus pays
hyphen-lines : lines_of_file (rule (pos 1441792) 10000 1) (text (codes "\\hbox(0.0+0.0)x0.0" ∷ codes ".\\hbox(7.0+2.0)x10.0" ∷ codes ".\\penalty 50" ∷ codes ".\\hbox(7.0+2.0)x10.0" ∷ codes ".\\penalty -50" ∷ codes ".\\hbox(7.0+2.0)x10.0" ∷ codes ".\\glue 2.0 plus 1.0 minus 1.0" ∷ codes ".\\hbox(7.0+2.0)x10.0" ∷ codes ".\\penalty 10000" ∷ codes ".\\glue 0.0 plus 1.0fil" ∷ []))
    ≡ Ok (text (codes "\\vbox(0.0+0.0)x22.0" ∷ codes ".\\special{pg:choice}" ∷ codes ".\\special{pg:variant 0 0}" ∷ codes ".\\hbox(8.5+3.5)x22.0" ∷ codes "..\\hbox(7.0+2.0)x10.0" ∷ codes "..\\penalty 50" ∷ codes "..\\hbox(7.0+2.0)x10.0" ∷ codes ".\\penalty 300" ∷ codes ".\\hbox(8.5+3.5)x22.0" ∷ codes "..\\hbox(7.0+2.0)x10.0" ∷ codes "..\\glue 2.0 plus 1.0 minus 1.0, set 2.0" ∷ codes "..\\hbox(7.0+2.0)x10.0" ∷ codes "..\\penalty 10000" ∷ codes "..\\glue 0.0 plus 1.0fil, set 0.0" ∷ codes ".\\special{pg:variant 1 100000000}" ∷ codes ".\\hbox(8.5+3.5)x22.0" ∷ codes "..\\hbox(7.0+2.0)x10.0" ∷ codes "..\\penalty 50" ∷ codes "..\\hbox(7.0+2.0)x10.0" ∷ codes ".\\penalty 150" ∷ codes ".\\hbox(8.5+3.5)x22.0" ∷ codes "..\\hbox(7.0+2.0)x10.0" ∷ codes ".\\penalty 150" ∷ codes ".\\hbox(8.5+3.5)x22.0" ∷ codes "..\\hbox(7.0+2.0)x10.0" ∷ codes "..\\penalty 10000" ∷ codes "..\\glue 0.0 plus 1.0fil, set 12.0" ∷ codes ".\\special{pg:end}" ∷ []))
unfolding paras_of run line_read step placed longer_last line_parsed inside_line outside_line pointed_at root_at node_at later_node_at box_at glue_at leaders_at kern_at penalty_at glue_text_at stretch_at shrink_at amount_at past_name order_at whole_at digits_at size_at past_size named past due after lines_of trimmed joined choice_line variant_front end_line root_front fraction_digits digits
hyphen-lines = refl

-- a kern is a break where glue follows; kerns and glue at the front of a line go
kern_break-lines : lines_of_file (rule (pos 1310720) 10000 1) (text (codes "\\hbox(0.0+0.0)x0.0" ∷ codes ".\\hbox(7.0+2.0)x10.0" ∷ codes ".\\kern 3.0" ∷ codes ".\\glue 2.0 plus 5.0" ∷ codes ".\\hbox(9.0+1.0)x10.0" ∷ codes "..deep" ∷ codes ".\\kern 1.5" ∷ codes ".\\hbox(7.0+2.0)x10.0" ∷ codes ".\\penalty 10000" ∷ codes ".\\glue 0.0 plus 1.0fil" ∷ []))
    ≡ Err 1
unfolding paras_of run line_read step placed longer_last line_parsed inside_line outside_line pointed_at root_at node_at later_node_at box_at glue_at leaders_at kern_at penalty_at glue_text_at stretch_at shrink_at amount_at past_name order_at whole_at digits_at size_at past_size named past due after lines_of trimmed joined choice_line variant_front end_line root_front fraction_digits digits
kern_break-lines = refl

-- glue shrinks, and a line that meets the width exactly keeps its glue
shrinks-lines : lines_of_file (rule (pos 1409024) 10000 1) (text (codes "\\hbox(0.0+0.0)x0.0" ∷ codes ".\\hbox(7.0+2.0)x10.0" ∷ codes ".\\glue 2.0 plus 1.0 minus 1.0" ∷ codes ".\\hbox(7.0+2.0)x10.0" ∷ codes ".\\glue 1.5" ∷ codes ".\\vbox(6.0+4.0)x10.0" ∷ codes ".\\glue 2.0 plus 1.0 minus 1.0" ∷ codes ".\\hbox(7.0+2.0)x10.0" ∷ codes ".\\penalty 10000" ∷ codes ".\\glue 0.0 plus 1.0fil" ∷ []))
    ≡ Ok (text (codes "\\vbox(0.0+0.0)x21.5" ∷ codes ".\\special{pg:choice}" ∷ codes ".\\special{pg:variant 0 0}" ∷ codes ".\\hbox(8.5+3.5)x21.5" ∷ codes "..\\hbox(7.0+2.0)x10.0" ∷ codes "..\\glue 2.0 plus 1.0 minus 1.0, set 1.5" ∷ codes "..\\hbox(7.0+2.0)x10.0" ∷ codes ".\\penalty 300" ∷ codes ".\\hbox(8.5+4.0)x21.5" ∷ codes "..\\vbox(6.0+4.0)x10.0" ∷ codes "..\\glue 2.0 plus 1.0 minus 1.0, set 1.5" ∷ codes "..\\hbox(7.0+2.0)x10.0" ∷ codes "..\\penalty 10000" ∷ codes "..\\glue 0.0 plus 1.0fil, set 0.0" ∷ codes ".\\special{pg:variant 1 100000000}" ∷ codes ".\\hbox(8.5+3.5)x21.5" ∷ codes "..\\hbox(7.0+2.0)x10.0" ∷ codes ".\\penalty 150" ∷ codes ".\\hbox(8.5+4.0)x21.5" ∷ codes "..\\hbox(7.0+2.0)x10.0" ∷ codes "..\\glue 1.5, set 1.5" ∷ codes "..\\vbox(6.0+4.0)x10.0" ∷ codes ".\\penalty 150" ∷ codes ".\\hbox(8.5+3.5)x21.5" ∷ codes "..\\hbox(7.0+2.0)x10.0" ∷ codes "..\\penalty 10000" ∷ codes "..\\glue 0.0 plus 1.0fil, set 11.5" ∷ codes ".\\special{pg:end}" ∷ []))
unfolding paras_of run line_read step placed longer_last line_parsed inside_line outside_line pointed_at root_at node_at later_node_at box_at glue_at leaders_at kern_at penalty_at glue_text_at stretch_at shrink_at amount_at past_name order_at whole_at digits_at size_at past_size named past due after lines_of trimmed joined choice_line variant_front end_line root_front fraction_digits digits
shrinks-lines = refl

-- leaders of several lines are glue
leaders-lines : lines_of_file (rule (pos 1638400) 10000 0) (text (codes "\\hbox(0.0+0.0)x0.0" ∷ codes ".\\hbox(7.0+2.0)x10.0" ∷ codes ".\\leaders 2.0 plus 1.0fill" ∷ codes "..\\rule(1.0+0.0)x*" ∷ codes ".\\hbox(7.0+2.0)x10.0" ∷ codes ".\\glue 2.0 plus 1.0 minus 1.0" ∷ codes ".\\hbox(7.0+2.0)x10.0" ∷ codes ".\\penalty 10000" ∷ codes ".\\glue 0.0 plus 1.0fil" ∷ []))
    ≡ Ok (text (codes "\\vbox(0.0+0.0)x25.0" ∷ codes ".\\special{pg:choice}" ∷ codes ".\\special{pg:variant 0 0}" ∷ codes ".\\hbox(8.5+3.5)x25.0" ∷ codes "..\\hbox(7.0+2.0)x10.0" ∷ codes "..\\leaders 2.0 plus 1.0fill, set 5.0" ∷ codes "...\\rule(1.0+0.0)x*" ∷ codes "..\\hbox(7.0+2.0)x10.0" ∷ codes ".\\penalty 300" ∷ codes ".\\hbox(8.5+3.5)x25.0" ∷ codes "..\\hbox(7.0+2.0)x10.0" ∷ codes "..\\penalty 10000" ∷ codes "..\\glue 0.0 plus 1.0fil, set 15.0" ∷ codes ".\\special{pg:end}" ∷ []))
unfolding paras_of run line_read step placed longer_last line_parsed inside_line outside_line pointed_at root_at node_at later_node_at box_at glue_at leaders_at kern_at penalty_at glue_text_at stretch_at shrink_at amount_at past_name order_at whole_at digits_at size_at past_size named past due after lines_of trimmed joined choice_line variant_front end_line root_front fraction_digits digits
leaders-lines = refl

-- negative shrink makes a line over that meets its width
negative-lines : lines_of_file (rule (pos 1441792) 10000 1) (text (codes "\\hbox(0.0+0.0)x0.0" ∷ codes ".\\hbox(7.0+2.0)x10.0" ∷ codes ".\\glue 2.0 minus -1.0" ∷ codes ".\\hbox(7.0+2.0)x10.0" ∷ codes ".\\glue 2.0 plus 1.0 minus 1.0" ∷ codes ".\\hbox(7.0+2.0)x10.0" ∷ codes ".\\penalty 10000" ∷ codes ".\\glue 0.0 plus 1.0fil" ∷ []))
    ≡ Ok (text (codes "\\vbox(0.0+0.0)x22.0" ∷ codes ".\\special{pg:choice}" ∷ codes ".\\special{pg:variant 0 0}" ∷ codes ".\\hbox(8.5+3.5)x22.0" ∷ codes "..\\hbox(7.0+2.0)x10.0" ∷ codes ".\\penalty 300" ∷ codes ".\\hbox(8.5+3.5)x22.0" ∷ codes "..\\hbox(7.0+2.0)x10.0" ∷ codes "..\\glue 2.0 plus 1.0 minus 1.0, set 2.0" ∷ codes "..\\hbox(7.0+2.0)x10.0" ∷ codes "..\\penalty 10000" ∷ codes "..\\glue 0.0 plus 1.0fil, set 0.0" ∷ codes ".\\special{pg:variant 1 100000000}" ∷ codes ".\\hbox(8.5+3.5)x22.0" ∷ codes "..\\hbox(7.0+2.0)x10.0" ∷ codes ".\\penalty 150" ∷ codes ".\\hbox(8.5+3.5)x22.0" ∷ codes "..\\hbox(7.0+2.0)x10.0" ∷ codes ".\\penalty 150" ∷ codes ".\\hbox(8.5+3.5)x22.0" ∷ codes "..\\hbox(7.0+2.0)x10.0" ∷ codes "..\\penalty 10000" ∷ codes "..\\glue 0.0 plus 1.0fil, set 12.0" ∷ codes ".\\special{pg:end}" ∷ []))
unfolding paras_of run line_read step placed longer_last line_parsed inside_line outside_line pointed_at root_at node_at later_node_at box_at glue_at leaders_at kern_at penalty_at glue_text_at stretch_at shrink_at amount_at past_name order_at whole_at digits_at size_at past_size named past due after lines_of trimmed joined choice_line variant_front end_line root_front fraction_digits digits
negative-lines = refl

-- two paragraphs with glue between
two_paras-lines : lines_of_file (rule (pos 1441792) 10000 0) (text (codes "Text" ∷ codes "\\hbox(0.0+0.0)x0.0" ∷ codes ".\\hbox(7.0+2.0)x10.0" ∷ codes ".\\glue 2.0 plus 1.0 minus 1.0" ∷ codes ".\\hbox(7.0+2.0)x10.0" ∷ codes ".\\penalty 10000" ∷ codes ".\\glue 0.0 plus 1.0fil" ∷ [] ∷ codes "more" ∷ codes "\\hbox(0.0+0.0)x0.0" ∷ codes ".\\hbox(7.0+2.0)x10.0" ∷ codes ".\\glue 1.0 plus 1.0fil" ∷ codes ".\\hbox(7.0+2.0)x10.0" ∷ []))
    ≡ Ok (text (codes "\\vbox(0.0+0.0)x22.0" ∷ codes ".\\special{pg:choice}" ∷ codes ".\\special{pg:variant 0 0}" ∷ codes ".\\hbox(8.5+3.5)x22.0" ∷ codes "..\\hbox(7.0+2.0)x10.0" ∷ codes "..\\glue 2.0 plus 1.0 minus 1.0, set 2.0" ∷ codes "..\\hbox(7.0+2.0)x10.0" ∷ codes "..\\penalty 10000" ∷ codes "..\\glue 0.0 plus 1.0fil, set 0.0" ∷ codes ".\\special{pg:end}" ∷ codes ".\\glue(\\parskip) 0.0 plus 1.0" ∷ codes ".\\special{pg:choice}" ∷ codes ".\\special{pg:variant 0 0}" ∷ codes ".\\hbox(8.5+3.5)x22.0" ∷ codes "..\\hbox(7.0+2.0)x10.0" ∷ codes "..\\glue 1.0 plus 1.0fil, set 2.0" ∷ codes "..\\hbox(7.0+2.0)x10.0" ∷ codes ".\\special{pg:end}" ∷ []))
unfolding paras_of run line_read step placed longer_last line_parsed inside_line outside_line pointed_at root_at node_at later_node_at box_at glue_at leaders_at kern_at penalty_at glue_text_at stretch_at shrink_at amount_at past_name order_at whole_at digits_at size_at past_size named past due after lines_of trimmed joined choice_line variant_front end_line root_front fraction_digits digits
two_paras-lines = refl

-- the first paragraph with a fault decides
second_breaks_not-lines : lines_of_file (rule (pos 1441792) 100 1) (text (codes "\\hbox(0.0+0.0)x0.0" ∷ codes ".\\hbox(7.0+2.0)x10.0" ∷ codes ".\\glue 2.0 plus 1.0 minus 1.0" ∷ codes ".\\hbox(7.0+2.0)x10.0" ∷ [] ∷ codes "\\hbox(0.0+0.0)x0.0" ∷ codes ".\\hbox(7.0+2.0)x10.0" ∷ codes ".\\glue 2.0 plus 1.0 minus 1.0" ∷ codes ".\\hbox(7.0+2.0)x10.0" ∷ codes ".\\glue 2.0 plus 1.0 minus 1.0" ∷ codes ".\\hbox(7.0+2.0)x10.0" ∷ codes ".\\glue 2.0 plus 1.0 minus 1.0" ∷ codes ".\\hbox(7.0+2.0)x10.0" ∷ [] ∷ codes "\\hbox(0.0+0.0)x0.0" ∷ codes ".\\hbox(1.0+1.0)x30.0" ∷ []))
    ≡ Err 3
unfolding paras_of run line_read step placed longer_last line_parsed inside_line outside_line pointed_at root_at node_at later_node_at box_at glue_at leaders_at kern_at penalty_at glue_text_at stretch_at shrink_at amount_at past_name order_at whole_at digits_at size_at past_size named past due after lines_of trimmed joined choice_line variant_front end_line root_front fraction_digits digits
second_breaks_not-lines = refl
