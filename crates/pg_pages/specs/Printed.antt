-- How the printer goes along items, floats, columns and pages. It is proved to print the page text; nobody need believe
-- what stands here.
use Rattle.std.specs.Prelude.{◌<◌, ◌+◌, codes, decimal, ℕ, Bool, not, if◌then◌else◌, List, [], ◌∷◌, ◌++◌, length, map, drop, Vec, ℤ, ◌^◌}
use Rattle.std.specs.Borrow.{Bor}
use Rattle.std.specs.declared.alloc.Global.{Global}
use Rattle.std.specs.List.{flat_map, take_while}
use Rattle.pg_list.specs.declared.item.Item.{Item}
use Rattle.pg_list.specs.declared.item.Item.TheVariants.{Glue}
use Rattle.pg_list.specs.declared.blocks.Block.{Block}
use Rattle.pg_list.specs.Shapes.{is_box}
use Rattle.pg_style.specs.Classes.{is_float_class}
use Rattle.pg_style.specs.declared.style.Class.{Class}
use Rattle.pg_floats.specs.Callouts.{first_items}
use Rattle.pg_style.specs.Values.{AreaRuleValue, StyleValue}
use Rattle.pg_style.specs.declared.style.Gap.{Gap}
use Rattle.pg_plan.specs.declared.pages.Column.{Column}
use Rattle.pg_rules.specs.Floats.{dealt_from, entry}
use Rattle.pg_column.specs.declared.cost.TextCost.{TextCost}
use Rattle.pg_pages.specs.Bodies.{body_text, plain_text, set_text}
use Rattle.pg_pages.specs.PageText.{area, inserted, is_note_kind, items_text, skipped_notes}
use Rattle.pg_pages.specs.Gaps.{hung_gaps, hung_text, note_gaps, set_gap, shows_gaps, standing_gaps, standing_text}
use Rattle.pg_words.specs.Written.{line, whole_text}
use Rattle.pg_scaled.specs.Scaled.{scaled_text}
use Rattle.pg_pages.specs.SetGlue.{own_sizes, own_width, widths_by}
use Rattle.pg_column.specs.Between.{behind}

-- ---- the text area

-- the items before the first box or rule
abbrev pub front_of : List Item → List Item
front_of items = take_while (λ (item : Item). not (is_box item)) items

-- those from it on
abbrev pub box_on : List Item → List Item
box_on items = drop (length (front_of items)) items

-- an item behind the first box, where these set widths are left
abbrev pub set_item : Item → List ℤ → List ℕ
set_item (Glue width stretch order shrink body) [] = body_text body
set_item (Glue width stretch order shrink body) (set ∷ widths) = set_text body set
set_item item widths = plain_text item

-- the set widths that are left behind it
abbrev pub widths_behind : Item → List ℤ → List ℤ
widths_behind (Glue width stretch order shrink body) widths = drop 1 widths
widths_behind item widths = widths

-- ---- notes

-- a class of notes
abbrev pub is_note_class : Class → Bool
is_note_class class = is_note_kind class.kind

-- the notes of a class among items
abbrev pub class_notes_text : Class → List Item → List ℕ
class_notes_text class items = if is_note_class class then flat_map body_text (inserted class.number items) else []

-- the notes of classes, one class after another
abbrev pub notes_by : List Class → List Item → List ℕ
notes_by [] items = []
notes_by (class ∷ classes) items = class_notes_text class items ++ notes_by classes items

-- ---- floats

-- for each of these classes, if it is one of floats, the shown texts of its floats
abbrev pub bodies_of : List Block → List Class → List (List (List ℕ))
bodies_of blocks [] = []
bodies_of blocks (class ∷ classes) =
    (if is_float_class class then inserted class.number (first_items blocks) ∷ [] else []) ++ bodies_of blocks classes

-- the bodies that are lent, by class
abbrev pub lent : List (Vec (Bor (List ℕ)) Global) → List (List (List ℕ))
lent bodies = map (λ own. behind own.items) bodies

-- the floats that counts deal out after others
abbrev pub dealt_text : List (List (List ℕ)) → List ℕ → List ℕ → List ℕ
dealt_text bodies before counts = flat_map body_text (dealt_from 0 bodies before counts)

-- the gap below a float that hangs, above those after it
abbrev pub hung_gap : AreaRuleValue → List (List ℕ) → List ℤ → List ℕ
hung_gap rule [] widths = set_gap (codes "gap") rule.gap widths
hung_gap rule (next ∷ after) widths = set_gap (codes "sep") rule.sep widths

-- floats that hang, their gaps set to these widths
unfoldable pub hanging_by : StyleValue → AreaRuleValue → List (List (List ℕ)) → List ℕ → List ℕ → List ℤ → List ℕ
hanging_by style rule bodies before counts widths =
    if shows_gaps style then hung_text rule (dealt_from 0 bodies before counts) widths else dealt_text bodies before counts

-- floats that stand
unfoldable pub standing_by : StyleValue → AreaRuleValue → List (List (List ℕ)) → List ℕ → List ℕ → List ℤ → List ℕ
standing_by style rule bodies before counts widths =
    if shows_gaps style then standing_text rule (dealt_from 0 bodies before counts) widths
    else dealt_text bodies before counts

-- the gaps of an area whose floats hang, and of one whose floats stand
abbrev pub hung_by : StyleValue → AreaRuleValue → List (List (List ℕ)) → List ℕ → List ℕ → List Gap
hung_by style rule bodies before counts =
    if shows_gaps style then hung_gaps rule (length (dealt_from 0 bodies before counts)) else []

abbrev pub stood_by : StyleValue → AreaRuleValue → List (List (List ℕ)) → List ℕ → List ℕ → List Gap
stood_by style rule bodies before counts =
    if shows_gaps style then standing_gaps rule (length (dealt_from 0 bodies before counts)) else []

-- the wide area of a page, its gaps set to these widths
unfoldable pub wide_set : StyleValue → List (List (List ℕ)) → List ℕ → List ℕ → List ℤ → List ℕ
wide_set style bodies before counts widths =
    area (codes "wide") (hanging_by style style.wide bodies before counts widths)

-- the wide area of a page, its gaps as they are
unfoldable pub wide_by : StyleValue → List (List (List ℕ)) → List ℕ → List ℕ → List ℕ
wide_by style bodies before counts =
    wide_set style bodies before counts (own_sizes (hung_by style style.wide bodies before counts))

-- ---- numbers

-- the goal and the total
abbrev pub sizes_text : TextCost → List ℕ
sizes_text it = codes "set goal " ++ scaled_text it.goal ++ codes " total " ++ scaled_text it.total

-- the badness and the penalty
abbrev pub costs_text : TextCost → List ℕ
costs_text it = codes " badness " ++ decimal it.badness ++ codes " penalty " ++ whole_text it.penalty

-- the demerits, and the end of the line
abbrev pub demerits_line : ℤ → List ℕ
demerits_line demerits = line (codes " demerits " ++ whole_text demerits)

-- the line of a text column's numbers
unfoldable pub numbers_text : TextCost → List ℕ
numbers_text it = sizes_text it ++ costs_text it ++ demerits_line it.demerits

-- ---- columns

-- counts that fit a count list together
abbrev pub FitTogether : List ℕ → List ℕ → Type 0
FitTogether a b = (slot : ℕ) → entry a slot + entry b slot < 2 ^ 16

-- the text area of these items
unfoldable pub text_by : StyleValue → List Item → List ℤ → List ℕ
text_by style items widths = line (codes "area text") ++ items_text style.topskip items widths

-- the area at the top of a column, behind so many placed floats
unfoldable pub top_by : StyleValue → List (List (List ℕ)) → List ℕ → Column → List ℤ → List ℕ
top_by style bodies before column widths =
    area (codes "top") (hanging_by style style.top bodies before column.top widths)

-- the area at its bottom
unfoldable pub bottom_by : StyleValue → List (List (List ℕ)) → List ℕ → Column → List ℤ → List ℕ
bottom_by style bodies below column widths =
    area (codes "bottom") (standing_by style style.bottom bodies below column.bottom widths)

-- the notes, their skips set to these widths
unfoldable pub notes_set : StyleValue → List Item → List ℤ → List ℕ
notes_set style items widths =
    if shows_gaps style then skipped_notes style.classes items widths else notes_by style.classes items

-- the area of notes
unfoldable pub notes_area : StyleValue → List Item → List ℤ → List ℕ
notes_area style items widths = area (codes "notes") (notes_set style items widths)

-- a column whose text has these items and numbers, its glue and gaps set to these widths, of which so many are those of
-- the top area, of the text and of the notes
unfoldable pub set_column : StyleValue → List (List (List ℕ)) → List ℕ → List ℕ → Column → List Item → TextCost →
    List ℤ → ℕ → ℕ → ℕ → List ℕ
set_column style bodies before below column items numbers widths above inside noted =
    numbers_text numbers ++ top_by style bodies before column widths ++ text_by style items (drop above widths)
    ++ bottom_by style bodies below column (drop noted (drop inside (drop above widths)))
    ++ notes_area style items (drop inside (drop above widths))

-- the text of a column whose text has these items and numbers
unfoldable pub read_text : StyleValue → List (List (List ℕ)) → List ℕ → List ℕ → Column → List Item → TextCost → Bool →
    List ℕ
read_text style bodies before below column items numbers is_spent =
    set_column style bodies before below column items numbers
    (widths_by style (hung_by style style.top bodies before column.top) items
    (note_gaps style items ++ stood_by style style.bottom bodies below column.bottom) numbers.goal numbers.total is_spent)
    (length (hung_by style style.top bodies before column.top)) (length (flat_map own_width items))
    (length (note_gaps style items))

-- a column without text
unfoldable pub bare_text : StyleValue → List (List (List ℕ)) → List ℕ → List ℕ → Column → List ℕ
bare_text style bodies before below column =
    line (codes "without text demerits " ++ decimal style.float_column.demerits)
    ++ top_by style bodies before column (own_sizes (hung_by style style.top bodies before column.top))
    ++ bottom_by style bodies below column (own_sizes (stood_by style style.bottom bodies below column.bottom))
