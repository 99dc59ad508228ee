-- What known files of paragraphs say, and a file for each kind of fault.
use Rattle.std.proofs.Common.{◌≡◌, refl, ℕ, List, [], ◌∷◌, ◌++◌, Some}
use Rattle.std.specs.Prelude.{◌*◌, pos, negsuc, Result, Ok, Err, codes, ℤ, map, replicate}
use Rattle.std.specs.List.{flat_map}
use Rattle.pg_list.specs.declared.item.Order.TheVariants.{Fil}
use Rattle.pg_showbox.specs.declared.kinds.ListKind.{ListKind}
use Rattle.pg_showbox.specs.declared.kinds.ListKind.TheVariants.{NoListing, BadLine, UnknownNode, BadNumber, OutOfRange, Truncated, InfiniteShrink, Limit}
use Rattle.pg_showbox.specs.declared.kinds.ListFault.{ListFault}
use Rattle.pg_scan.specs.Lines.{lines_of, trimmed, joined}
use Rattle.pg_showbox.specs.Parts.{due, size_at, past_size, digits_at, whole_at, order_at}
use Rattle.pg_scan.specs.Parts.{after, past, named}
use Rattle.pg_showbox.specs.Nodes.{amount_at, stretch_at, shrink_at, glue_text_at, past_name, glue_at, leaders_at, kern_at, penalty_at}
use Rattle.pg_hlist.specs.declared.item.HItem.{HItem}
use Rattle.pg_hlist.specs.declared.item.HItem.TheVariants.{BoxItem, Glue, Kern, Penalty}
use Rattle.pg_hlist.specs.Nodes.{box_at, node_at, later_node_at}
use Rattle.pg_hlist.specs.ParsedLine.{root_at, outside_line, pointed_at, inside_line, line_parsed}
use Rattle.pg_hlist.specs.declared.draft.Draft.{Draft}
use Rattle.pg_hlist.specs.Reading.{paras_of, run, line_read, step, placed, longer_last}

abbrev points : ℕ → ℤ
points n = pos (n * 65536)

abbrev text : List (List ℕ) → List ℕ
text lines = flat_map (λ line. line ++ 10 ∷ []) lines

abbrev root : List ℕ
root = codes "\\hbox(0.0+0.0)x0.0"

abbrev word : List ℕ
word = codes ".\\hbox(7.0+2.0)x10.0"

abbrev Said : Type 0
Said = Result (List (List HItem)) ListFault

abbrev fault : ℕ → ListKind → Said
fault line kind = Err (record { line = line; kind = kind })

-- two paragraphs; other lines between them are passed over, and a deeper line belongs to the item before it
two-read : paras_of (text (codes "Some words" ∷ root ∷ word ∷ codes "..\\glue 1.0" ∷ codes ".\\glue 2.0 plus 1.0fil minus 1.0"
    ∷ [] ∷ codes "etc." ∷ codes "\\hbox(99999.0+-99999.0)x99999.0, glue set 1.0" ∷ codes ".\\kern1.5" ∷ codes ".\\penalty -50" ∷ []))
    ≡ Ok ((BoxItem (points 10) (points 7) (points 2) (codes "\\hbox(7.0+2.0)x10.0\n.\\glue 1.0")
    ∷ Glue (points 2) (points 1) Fil (points 1) (codes "\\glue 2.0 plus 1.0fil minus 1.0") ∷ [])
    ∷ (Kern (pos 98304) (codes "\\kern1.5") ∷ Penalty (negsuc 49) (codes "\\penalty -50") ∷ []) ∷ [])
unfolding paras_of run line_read step placed longer_last line_parsed inside_line outside_line pointed_at root_at node_at later_node_at box_at glue_at leaders_at kern_at penalty_at glue_text_at stretch_at shrink_at amount_at past_name order_at whole_at digits_at size_at past_size named past due after lines_of trimmed joined
two-read = refl

-- no root stands in the file
no_root-refused : map paras_of (text ([])
    ∷ text (codes "Some words" ∷ [])
    ∷ text ([] ∷ word ∷ [])
    ∷ text (codes "\\vbox(0.0+0.0)x0.0" ∷ word ∷ [])
    ∷ [])
    ≡ fault 0 NoListing
    ∷ fault 0 NoListing
    ∷ fault 0 NoListing
    ∷ fault 0 NoListing
    ∷ []
unfolding paras_of run line_read step placed longer_last line_parsed inside_line outside_line pointed_at root_at node_at later_node_at box_at glue_at leaders_at kern_at penalty_at glue_text_at stretch_at shrink_at amount_at past_name order_at whole_at digits_at size_at past_size named past due after lines_of trimmed joined
no_root-refused = refl

-- a line without a point, a second root, a deeper line without an item, a fixed text that is not there, text behind a glue text
bad_line-refused : map paras_of (text (root ∷ word ∷ codes "word" ∷ [])
    ∷ text (root ∷ word ∷ root ∷ [])
    ∷ text (root ∷ codes "..x" ∷ [])
    ∷ text (root ∷ [] ∷ root ∷ codes "..x" ∷ [])
    ∷ text (root ∷ codes "etc." ∷ [])
    ∷ text (codes "\\hbox(1.0+2.0x3.0" ∷ [])
    ∷ text (codes "\\hbox(1.0 2.0)x3.0" ∷ [])
    ∷ text (root ∷ codes ".\\hbox" ∷ [])
    ∷ text (root ∷ codes ".\\vbox(1.0+1.0) 1.0" ∷ [])
    ∷ text (root ∷ codes ".\\glue" ∷ [])
    ∷ text (root ∷ codes ".\\penalty(1)" ∷ [])
    ∷ text (root ∷ codes ".\\glue(\\a 1.0" ∷ [])
    ∷ text (root ∷ codes ".\\glue 1.0 x" ∷ [])
    ∷ text (root ∷ codes ".\\glue 1.0 []" ∷ [])
    ∷ text (root ∷ codes ".\\leaders 1.0 [] " ∷ [])
    ∷ [])
    ≡ fault 3 BadLine
    ∷ fault 3 BadLine
    ∷ fault 2 BadLine
    ∷ fault 4 BadLine
    ∷ fault 2 BadLine
    ∷ fault 1 BadLine
    ∷ fault 1 BadLine
    ∷ fault 2 BadLine
    ∷ fault 2 BadLine
    ∷ fault 2 BadLine
    ∷ fault 2 BadLine
    ∷ fault 2 BadLine
    ∷ fault 2 BadLine
    ∷ fault 2 BadLine
    ∷ fault 2 BadLine
    ∷ []
unfolding paras_of run line_read step placed longer_last line_parsed inside_line outside_line pointed_at root_at node_at later_node_at box_at glue_at leaders_at kern_at penalty_at glue_text_at stretch_at shrink_at amount_at past_name order_at whole_at digits_at size_at past_size named past due after lines_of trimmed joined
bad_line-refused = refl

-- any other node, whatever follows its name
unknown_node-refused : map paras_of (text (root ∷ codes ".\\rule(1.0+1.0)x1.0" ∷ [])
    ∷ text (root ∷ codes ".\\rule" ∷ [])
    ∷ text (root ∷ codes ".\\insert100, natural size 1.0" ∷ [])
    ∷ text (root ∷ codes ".\\special{pg:choice}" ∷ [])
    ∷ text (root ∷ codes ".\\unsetbox(" ∷ [])
    ∷ text (root ∷ codes ".\\mark{a}" ∷ [])
    ∷ text (root ∷ codes ".x" ∷ [])
    ∷ text (root ∷ codes "." ∷ [])
    ∷ text (root ∷ codes ".etc. " ∷ [])
    ∷ text (root ∷ codes ".\\hboxes(1.0+1.0)x1.0" ∷ [])
    ∷ text (root ∷ codes ".\\discretionary" ∷ [])
    ∷ [])
    ≡ fault 2 UnknownNode
    ∷ fault 2 UnknownNode
    ∷ fault 2 UnknownNode
    ∷ fault 2 UnknownNode
    ∷ fault 2 UnknownNode
    ∷ fault 2 UnknownNode
    ∷ fault 2 UnknownNode
    ∷ fault 2 UnknownNode
    ∷ fault 2 UnknownNode
    ∷ fault 2 UnknownNode
    ∷ fault 2 UnknownNode
    ∷ []
unfolding paras_of run line_read step placed longer_last line_parsed inside_line outside_line pointed_at root_at node_at later_node_at box_at glue_at leaders_at kern_at penalty_at glue_text_at stretch_at shrink_at amount_at past_name order_at whole_at digits_at size_at past_size named past due after lines_of trimmed joined
unknown_node-refused = refl

-- a number is due and none stands there
bad_number-refused : map paras_of (text (codes "\\hbox(x+1.0)x1.0" ∷ [])
    ∷ text (codes "\\hbox(1.0+1.0)x" ∷ [])
    ∷ text (root ∷ codes ".\\kern" ∷ [])
    ∷ text (root ∷ codes ".\\kern(1.0)" ∷ [])
    ∷ text (root ∷ codes ".\\hbox(1.0+)x1.0" ∷ [])
    ∷ text (root ∷ codes ".\\hbox(1.0+1.0)x*" ∷ [])
    ∷ text (root ∷ codes ".\\penalty x" ∷ [])
    ∷ text (root ∷ codes ".\\glue 1.0 plus x" ∷ [])
    ∷ text (root ∷ codes ".\\leaders 1" ∷ [])
    ∷ [])
    ≡ fault 1 BadNumber
    ∷ fault 1 BadNumber
    ∷ fault 2 BadNumber
    ∷ fault 2 BadNumber
    ∷ fault 2 BadNumber
    ∷ fault 2 BadNumber
    ∷ fault 2 BadNumber
    ∷ fault 2 BadNumber
    ∷ fault 2 BadNumber
    ∷ []
unfolding paras_of run line_read step placed longer_last line_parsed inside_line outside_line pointed_at root_at node_at later_node_at box_at glue_at leaders_at kern_at penalty_at glue_text_at stretch_at shrink_at amount_at past_name order_at whole_at digits_at size_at past_size named past due after lines_of trimmed joined
bad_number-refused = refl

-- a scaled number of 2^30 units, a penalty beyond 32 bits
out_of_range-refused : map paras_of (text (root ∷ codes ".\\kern 16384.0" ∷ [])
    ∷ text (root ∷ codes ".\\hbox(1.0+1.0)x-16384.0" ∷ [])
    ∷ text (root ∷ codes ".\\penalty 2147483648" ∷ [])
    ∷ text (root ∷ codes ".\\penalty -2147483649" ∷ [])
    ∷ text (root ∷ codes ".\\glue 1.0 minus 20000.0fil" ∷ [])
    ∷ [])
    ≡ fault 2 OutOfRange
    ∷ fault 2 OutOfRange
    ∷ fault 2 OutOfRange
    ∷ fault 2 OutOfRange
    ∷ fault 2 OutOfRange
    ∷ []
unfolding paras_of run line_read step placed longer_last line_parsed inside_line outside_line pointed_at root_at node_at later_node_at box_at glue_at leaders_at kern_at penalty_at glue_text_at stretch_at shrink_at amount_at past_name order_at whole_at digits_at size_at past_size named past due after lines_of trimmed joined
out_of_range-refused = refl

-- a list that was cut
truncated-refused : map paras_of (text (root ∷ codes ".etc." ∷ [])
    ∷ text (codes "\\hbox(0.0+0.0)x0.0 []" ∷ [])
    ∷ text (codes "\\hbox(99999.0+1.0)x99999.0 []" ∷ [])
    ∷ [])
    ≡ fault 2 Truncated
    ∷ fault 1 Truncated
    ∷ fault 1 Truncated
    ∷ []
unfolding paras_of run line_read step placed longer_last line_parsed inside_line outside_line pointed_at root_at node_at later_node_at box_at glue_at leaders_at kern_at penalty_at glue_text_at stretch_at shrink_at amount_at past_name order_at whole_at digits_at size_at past_size named past due after lines_of trimmed joined
truncated-refused = refl

-- an infinite amount behind minus, wherever the line goes on
infinite_shrink-refused : map paras_of (text (root ∷ codes ".\\glue 1.0 minus 1.0fil" ∷ [])
    ∷ text (root ∷ codes ".\\leaders 1.0 plus 1.0 minus 1.0filll x" ∷ [])
    ∷ [])
    ≡ fault 2 InfiniteShrink
    ∷ fault 2 InfiniteShrink
    ∷ []
unfolding paras_of run line_read step placed longer_last line_parsed inside_line outside_line pointed_at root_at node_at later_node_at box_at glue_at leaders_at kern_at penalty_at glue_text_at stretch_at shrink_at amount_at past_name order_at whole_at digits_at size_at past_size named past due after lines_of trimmed joined
infinite_shrink-refused = refl

-- the first item beyond 2^11 of a paragraph
abbrev kern_item : HItem
kern_item = Kern (pos 0) []

full-refused : (s : Draft) → placed s (Some (replicate 2048 kern_item)) kern_item ≡ Err Limit
unfolding placed
full-refused s = refl

almost_full-taken : (s : Draft) → placed s (Some (replicate 2047 kern_item)) kern_item
    ≡ Ok (record s { current = Some (replicate 2047 kern_item ++ kern_item ∷ []) })
unfolding placed
almost_full-taken s = refl
