-- The text of a pagination: its pages, columns and areas.
use Rattle.std.specs.Prelude.{ℕ, ◌==◌, Bool, true, false, not, if◌then◌else◌, List, [], ◌∷◌, ◌++◌, length, map, drop, decimal, codes, Option, Some, None, ℤ, pos}
use Rattle.std.specs.List.{flat_map, filter_map, take_while, range_with_len}
use Rattle.std.specs.Option.{option_map_or}
use Rattle.pg_list.specs.declared.item.Item.{Item}
use Rattle.pg_list.specs.declared.item.Item.TheVariants.{Glue, Insert}
use Rattle.pg_list.specs.GalleyValue.{GalleyValue}
use Rattle.pg_list.specs.Shapes.{is_box}
use Rattle.pg_list.specs.Break.{break_penalty}
use Rattle.pg_list.specs.Flat.{flat}
use Rattle.pg_list.specs.Totals.{top_glue}
use Rattle.pg_plan.specs.Order.{columns}
use Rattle.pg_plan.specs.declared.states.Side.{Side}
use Rattle.pg_plan.specs.declared.pages.Column.{Column}
use Rattle.pg_plan.specs.declared.pages.PageMove.{PageMove}
use Rattle.pg_plan.specs.declared.pages.Pagination.{Pagination}
use Rattle.pg_style.specs.Values.{AreaRuleValue, StyleValue}
use Rattle.pg_style.specs.declared.style.Class.{Class}
use Rattle.pg_style.specs.declared.style.Kind.{Kind}
use Rattle.pg_style.specs.declared.style.Kind.TheVariants.{Note, Float}
use Rattle.pg_rules.specs.Room.{Document, ColumnContext, is_text, items_of, size_of, before_bottom}
use Rattle.pg_rules.specs.Floats.{class_of, float_numbers, floats, dealt}
use Rattle.pg_rules.specs.ColumnRules.{segment, text_total, text_goal, text_badness}
use Rattle.pg_rules.specs.Cost.{text_demerits}
use Rattle.pg_rules.specs.History.{next_column, next_page, next_side, placed_of, context}
use Rattle.pg_rules.specs.Legal.{document}
use Rattle.pg_scaled.specs.Scaled.{scaled_text}
use Rattle.pg_words.specs.Written.{line, whole_text, counts_text, place_text, side_text}
use Rattle.pg_pages.specs.Bodies.{body_text, set_text, plain_text}
use Rattle.pg_pages.specs.Gaps.{bottom_gaps, gaps_above, hung_gaps, hung_text, kind_skips, shows_gaps, skipped_text, standing_text}
use Rattle.pg_pages.specs.SetGlue.{bottom_widths, glue_widths, note_widths, own_sizes, text_widths}

-- ---- areas

-- the name of an area and what stands in it; nothing where it is empty
abbrev pub area : List ℕ → List ℕ → List ℕ
area name [] = []
area name (byte ∷ text) = line (codes "area " ++ name) ++ (byte ∷ text)

abbrev pub inserted_body : ℕ → Item → Option (List ℕ)
inserted_body number (Insert class size body) = if class == number then Some body else None
inserted_body number _ = None

-- the shown texts of a class's inserts, in order
abbrev pub inserted : ℕ → List Item → List (List ℕ)
inserted number items = filter_map (inserted_body number) items

-- for each float class, the shown texts of its floats
abbrev pub float_bodies : Document → List (List (List ℕ))
float_bodies doc = map (λ (number : ℕ). inserted number (flat doc.blocks [])) (float_numbers doc.style)

-- the floats that counts deal out after others, by class and then by number
unfoldable pub floats_text : Document → List ℕ → List ℕ → List ℕ
floats_text doc before counts = flat_map body_text (dealt (float_bodies doc) before counts)

abbrev pub is_note_kind : Kind → Bool
is_note_kind (Note skip limit) = true
is_note_kind (Float area distance) = false

abbrev pub is_note : StyleValue → ℕ → Bool
is_note style number = option_map_or (λ (class : Class). is_note_kind class.kind) (class_of style number) false

-- floats that hang at the top of a column or of a page, with the gaps below them in version 3
unfoldable pub hanging_text : Document → AreaRuleValue → List ℕ → List ℕ → List ℤ → List ℕ
hanging_text doc rule before counts widths =
    if shows_gaps doc.style then hung_text rule (dealt (float_bodies doc) before counts) widths
    else floats_text doc before counts

-- floats that stand at its bottom, with the gaps above them in version 3
unfoldable pub standing_floats : Document → AreaRuleValue → List ℕ → List ℕ → List ℤ → List ℕ
standing_floats doc rule before counts widths =
    if shows_gaps doc.style then standing_text rule (dealt (float_bodies doc) before counts) widths
    else floats_text doc before counts

-- the gaps of so many floats that counts deal out, as they are
abbrev pub hung_sizes : Document → AreaRuleValue → List ℕ → List ℕ → List ℤ
hung_sizes doc rule before counts =
    own_sizes (hung_gaps rule (length (dealt (floats doc.blocks doc.style) before counts)))

-- the notes of a segment, by class in increasing number and then in order
unfoldable pub notes_text : StyleValue → List Item → List ℕ
notes_text style items =
    flat_map (λ (number : ℕ). if is_note style number then flat_map body_text (inserted number items) else [])
    (range_with_len 0 255)

-- the notes of a class, below its skip
abbrev pub kind_notes : List Item → ℕ → Kind → List ℤ → List ℕ
kind_notes items number (Note skip limit) widths = skipped_text skip (inserted number items) widths
kind_notes items number (Float area distance) widths = []

-- the notes of these classes, below their skips
abbrev pub skipped_notes : List Class → List Item → List ℤ → List ℕ
skipped_notes [] items widths = []
skipped_notes (class ∷ classes) items widths =
    kind_notes items class.number class.kind widths
    ++ skipped_notes classes items (drop (length (kind_skips items class.number class.kind)) widths)

-- the notes of a segment, with their skips in version 3
unfoldable pub set_notes : StyleValue → List Item → List ℤ → List ℕ
set_notes style items widths =
    if shows_gaps style then skipped_notes style.classes items widths else notes_text style items

-- ---- the text of a column

-- the items from the first box or rule on, each glue with its set width
abbrev pub set_items : List Item → List ℤ → List ℕ
set_items [] widths = []
set_items (Glue width stretch order shrink body ∷ items) [] = body_text body ++ set_items items []
set_items (Glue width stretch order shrink body ∷ items) (set ∷ widths) =
    set_text body set ++ set_items items widths
set_items (item ∷ items) widths = plain_text item ++ set_items items widths

abbrev pub top_line : ℤ → List Item → List ℕ
top_line topskip items = line (codes ".\\glue(\\topskip) " ++ scaled_text (top_glue topskip items))

-- what stands above the first box or rule, the glue that puts it at its height, and the rest
abbrev pub items_text : ℤ → List Item → List ℤ → List ℕ
items_text topskip items widths =
    flat_map plain_text (take_while (λ (item : Item). not (is_box item)) items) ++ top_line topskip items
    ++ set_items (drop (length (take_while (λ (item : Item). not (is_box item)) items)) items) widths

-- the penalty that stands where a column ends
abbrev pub end_penalty : ColumnContext → ℕ → ℤ
end_penalty it n = option_map_or (λ (penalty : ℤ). penalty) (break_penalty (items_of it) n) (pos 0)

-- the line of a text column's numbers
unfoldable pub set_line : ColumnContext → ℕ → List ℕ
set_line it n =
    (codes "set goal " ++ scaled_text (text_goal it n) ++ codes " total " ++ scaled_text (text_total it n))
    ++ (codes " badness " ++ decimal (text_badness it n) ++ codes " penalty " ++ whole_text (end_penalty it n))
    ++ line (codes " demerits " ++ whole_text (text_demerits it n))

unfoldable pub text_area : ColumnContext → ℕ → List ℕ
text_area it n = line (codes "area text")
    ++ items_text it.document.style.topskip (segment it n) (text_widths it n)

-- the areas of a column, their gaps set to these widths
abbrev pub top_area : ColumnContext → List ℤ → List ℕ
top_area it widths =
    area (codes "top") (hanging_text it.document it.document.style.top it.before it.column.top widths)

abbrev pub bottom_area : ColumnContext → List ℤ → List ℕ
bottom_area it widths =
    area (codes "bottom")
    (standing_floats it.document it.document.style.bottom (before_bottom it) it.column.bottom widths)

-- a column with n items of text
abbrev pub text_column : ColumnContext → ℕ → List ℕ
text_column it n = set_line it n ++ top_area it (glue_widths it n) ++ text_area it n
    ++ bottom_area it (bottom_widths it n)
    ++ area (codes "notes") (set_notes it.document.style (segment it n) (note_widths it n))

abbrev pub float_column : ColumnContext → List ℕ
float_column it = line (codes "without text demerits " ++ decimal it.document.style.float_column.demerits)
    ++ top_area it (own_sizes (gaps_above it)) ++ bottom_area it (own_sizes (bottom_gaps it))

unfoldable pub column_ends : ℕ → Column → List ℕ
column_ends number column = codes "column " ++ decimal number ++ codes " from " ++ place_text column.from
    ++ codes " to " ++ place_text column.to

unfoldable pub column_counts : Column → List ℕ
column_counts column = codes " top " ++ counts_text column.top
    ++ codes " bottom " ++ counts_text column.bottom ++ codes " picks " ++ counts_text column.picks

abbrev pub column_line : ℕ → Column → List ℕ
column_line number column = column_ends number column ++ line (column_counts column)

abbrev pub column_body : ColumnContext → List ℕ
column_body it = if is_text it then option_map_or (text_column it) (size_of it) [] else float_column it

-- ---- pages

unfoldable pub page_side : ℕ → Side → List ℕ
page_side number side = codes "page " ++ decimal number ++ codes " side " ++ side_text side

unfoldable pub page_run : ℕ → List ℕ → List ℕ
page_run run wide = codes " run " ++ decimal run ++ codes " wide " ++ counts_text wide

unfoldable pub page_line : ℕ → Side → ℕ → List ℕ → List ℕ
page_line number side run wide = page_side number side ++ line (page_run run wide)

-- the first line of the page that a column begins, and its wide area
abbrev pub page_head : Document → PageMove → List PageMove → List ℕ
page_head doc m ms = page_line (next_page doc.style ms) (next_side doc.style ms) m.run m.wide
    ++ area (codes "wide") (hanging_text doc doc.style.wide (placed_of doc.style ms) m.wide
    (hung_sizes doc doc.style.wide (placed_of doc.style ms) m.wide))

abbrev pub column_text : Document → PageMove → List PageMove → List ℕ
column_text doc m ms =
    (if next_column doc.style ms == 1 then page_head doc m ms else [])
    ++ column_line (next_column doc.style ms) m.column ++ column_body (context doc m ms)

-- of columns from the last to the first
abbrev pub columns_text : Document → List PageMove → List ℕ
columns_text doc [] = []
columns_text doc (m ∷ ms) = columns_text doc ms ++ column_text doc m ms

unfoldable pub head_counts : ℕ → ℤ → List ℕ
head_counts pages cost = codes "pages " ++ decimal pages ++ codes " cost " ++ whole_text cost

unfoldable pub head_line : ℕ → ℤ → ℤ → List ℕ
head_line pages cost width = head_counts pages cost ++ line (codes " width " ++ scaled_text width)

-- the text of a legal pagination with its cost
unfoldable pub page_text : GalleyValue → StyleValue → Pagination → ℤ → List ℕ
page_text galley style plan cost =
    head_line (length plan.pages) cost galley.width ++ columns_text (document galley style) (columns plan)

-- the text where no pagination is legal
abbrev pub none_text : List ℕ
none_text = line (codes "no legal pagination")
