-- A line as a box of a galley, with its glue set.
use Rattle.std.specs.Prelude.{ℕ, ◌==◌, if◌then◌else◌, List, [], ◌∷◌, ◌++◌, take, drop, codes, ℤ, pos, ◌-ℤ◌, int_lt}
use Rattle.std.specs.Int.{int_max}
use Rattle.std.specs.List.{flat_map, prefix_len}
use Rattle.pg_scaled.specs.Scaled.{scaled_text}
use Rattle.pg_scan.specs.Lines.{is_no_feed, dotted}
use Rattle.pg_list.specs.declared.item.Item.{Item}
use Rattle.pg_list.specs.declared.item.Item.TheVariants as item
use Rattle.pg_glue.specs.declared.Elastic.{Elastic}
use Rattle.pg_glue.specs.declared.Sense.{Sense}
use Rattle.pg_glue.specs.declared.Sense.TheVariants.{Stretch, Shrink}
use Rattle.pg_glue.specs.Widths.{elastic_of, set_widths}
use Rattle.pg_hlist.specs.declared.item.HItem.{HItem}
use Rattle.pg_hlist.specs.declared.item.HItem.TheVariants.{BoxItem, Glue, Kern, Penalty}
use Rattle.law_lines.specs.declared.rule.LineRule.{LineRule}
use Rattle.law_lines.specs.Lines.{line_total}

-- at least 8.5 points high and 3.5 deep
abbrev pub least_height : ℤ
least_height = pos 557056

abbrev pub least_depth : ℤ
least_depth = pos 229376

-- else as high and as deep as its greatest box
abbrev pub height_of : List HItem → ℤ
height_of [] = least_height
height_of (BoxItem width height depth body ∷ items) = int_max height (height_of items)
height_of (item ∷ items) = height_of items

abbrev pub depth_of : List HItem → ℤ
depth_of [] = least_depth
depth_of (BoxItem width height depth body ∷ items) = int_max depth (depth_of items)
depth_of (item ∷ items) = depth_of items

-- ---- set glue

-- the glue of an item, as it grows or gives way
abbrev pub elastic : Sense → HItem → List Elastic
elastic sense (Glue width stretch order shrink body) = elastic_of sense width stretch order shrink ∷ []
elastic sense _ = []

abbrev pub own_width : HItem → List ℤ
own_width (Glue width stretch order shrink body) = width ∷ []
own_width _ = []

-- stretched or shrunk to the width of the line, or as the glue is
abbrev pub glue_widths : LineRule → List HItem → List ℤ
glue_widths rule line =
    if int_lt (line_total line) rule.width
    then set_widths (flat_map (elastic Stretch) line) (rule.width -ℤ line_total line) Stretch
    else (if int_lt rule.width (line_total line)
    then set_widths (flat_map (elastic Shrink) line) (line_total line -ℤ rule.width) Shrink
    else flat_map own_width line)

-- ---- what is shown of a line

-- an item's body, one level deeper, on lines of its own
abbrev pub deeper : List ℕ → List ℕ
deeper body = 10 ∷ 46 ∷ dotted body

abbrev pub first_line : List ℕ → List ℕ
first_line body = take (prefix_len is_no_feed body) body

abbrev pub later_lines : List ℕ → List ℕ
later_lines body = drop (prefix_len is_no_feed body) body

-- the body of a glue, one level deeper; its first line goes on with its set width
abbrev pub set_deeper : List ℕ → ℤ → List ℕ
set_deeper body width =
    deeper (first_line body) ++ (codes ", set " ++ (scaled_text width ++ dotted (later_lines body)))

-- each glue takes the next of the set widths
abbrev pub items_text : List HItem → List ℤ → List ℕ
items_text [] widths = []
items_text (BoxItem width height depth body ∷ items) widths = deeper body ++ items_text items widths
items_text (Glue width stretch order shrink body ∷ items) [] = deeper body ++ items_text items []
items_text (Glue width stretch order shrink body ∷ items) (set ∷ widths) =
    set_deeper body set ++ items_text items widths
items_text (Kern width body ∷ items) widths = deeper body ++ items_text items widths
items_text (Penalty value body ∷ items) widths = deeper body ++ items_text items widths

-- `\hbox(H+D)xW`
abbrev pub box_front : ℤ → ℤ → ℤ → List ℕ
box_front height depth width =
    codes "\\hbox(" ++ (scaled_text height ++ (codes "+" ++ (scaled_text depth ++ (codes ")x" ++ scaled_text width))))

abbrev pub line_box : LineRule → List HItem → Item
line_box rule line =
    item.BoxItem (height_of line) (depth_of line)
    (box_front (height_of line) (depth_of line) rule.width ++ items_text line (glue_widths rule line))
