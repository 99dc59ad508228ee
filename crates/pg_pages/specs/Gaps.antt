-- The gaps of a column's areas, which pages of version 3 show.
use Rattle.std.specs.Prelude.{ℕ, zero, suc, ◌==◌, Bool, if◌then◌else◌, List, [], ◌∷◌, ◌++◌, length, drop, replicate, codes, ℤ, pos}
use Rattle.std.specs.List.{flat_map}
use Rattle.std.specs.Ordering.{int_eq}
use Rattle.pg_list.specs.declared.item.Item.{Item}
use Rattle.pg_rules.specs.Floats.{dealt, floats, sizes_of}
use Rattle.pg_rules.specs.Room.{ColumnContext, before_bottom}
use Rattle.pg_scaled.specs.Scaled.{scaled_text}
use Rattle.pg_style.specs.Values.{AreaRuleValue, StyleValue}
use Rattle.pg_style.specs.declared.style.Class.{Class}
use Rattle.pg_style.specs.declared.style.Gap.{Gap}
use Rattle.pg_style.specs.declared.style.Kind.{Kind}
use Rattle.pg_style.specs.declared.style.Kind.TheVariants.{Note, Float}
use Rattle.pg_words.specs.Written.{line}
use Rattle.pg_pages.specs.Bodies.{body_text}

-- ---- which gaps a column has, from above

abbrev pub shows_gaps : StyleValue → Bool
shows_gaps style = style.version == 3

-- so many floats that hang: a separator below each but the last, and the gap next to the text
abbrev pub hung_gaps : AreaRuleValue → ℕ → List Gap
hung_gaps rule zero = []
hung_gaps rule (suc n) = replicate n rule.sep ++ rule.gap ∷ []

-- so many floats that stand
abbrev pub standing_gaps : AreaRuleValue → ℕ → List Gap
standing_gaps rule zero = []
standing_gaps rule (suc n) = rule.gap ∷ replicate n rule.sep

-- the skip of a class with a note among these items
abbrev pub kind_skips : List Item → ℕ → Kind → List Gap
kind_skips items number (Note skip limit) = if length (sizes_of number items) == 0 then [] else (skip ∷ [])
kind_skips items number (Float area distance) = []

abbrev pub skip_gaps : List Class → List Item → List Gap
skip_gaps classes items = flat_map (λ (class : Class). kind_skips items class.number class.kind) classes

-- those above a text
abbrev pub gaps_above : ColumnContext → List Gap
gaps_above it =
    if shows_gaps it.document.style
    then hung_gaps it.document.style.top
    (length (dealt (floats it.document.blocks it.document.style) it.before it.column.top))
    else []

-- those of its bottom area
abbrev pub bottom_gaps : ColumnContext → List Gap
bottom_gaps it =
    if shows_gaps it.document.style
    then standing_gaps it.document.style.bottom
    (length (dealt (floats it.document.blocks it.document.style) (before_bottom it) it.column.bottom))
    else []

-- the skips of its notes
abbrev pub note_gaps : StyleValue → List Item → List Gap
note_gaps style items = if shows_gaps style then skip_gaps style.classes items else []

-- ---- how they are shown

abbrev pub part_text : List ℕ → ℤ → List ℕ
part_text word part = if int_eq part (pos 0) then [] else (word ++ scaled_text part)

-- a gap as TeX prints glue: its name and its size, what it gives, and its set width
unfoldable pub gap_name : List ℕ → ℤ → List ℕ
gap_name name size = codes ".\\glue(" ++ name ++ codes ") " ++ scaled_text size

unfoldable pub gap_gives : ℤ → ℤ → List ℕ
gap_gives stretch shrink = part_text (codes " plus ") stretch ++ part_text (codes " minus ") shrink

unfoldable pub gap_set : ℤ → List ℕ
gap_set width = codes ", set " ++ scaled_text width

unfoldable pub gap_line : List ℕ → Gap → ℤ → List ℕ
gap_line name gap width = line (gap_name name gap.size ++ gap_gives gap.stretch gap.shrink ++ gap_set width)

-- with the first of these widths
abbrev pub set_gap : List ℕ → Gap → List ℤ → List ℕ
set_gap name gap [] = []
set_gap name gap (width ∷ widths) = gap_line name gap width

-- floats that hang, a gap below each
abbrev pub hung_text : AreaRuleValue → List (List ℕ) → List ℤ → List ℕ
hung_text rule [] widths = []
hung_text rule (body ∷ []) widths = body_text body ++ set_gap (codes "gap") rule.gap widths
hung_text rule (body ∷ next ∷ bodies) widths =
    body_text body ++ set_gap (codes "sep") rule.sep widths ++ hung_text rule (next ∷ bodies) (drop 1 widths)

abbrev pub separated_text : Gap → List (List ℕ) → List ℤ → List ℕ
separated_text sep [] widths = []
separated_text sep (body ∷ bodies) widths =
    set_gap (codes "sep") sep widths ++ body_text body ++ separated_text sep bodies (drop 1 widths)

-- floats that stand, a gap above each
abbrev pub standing_text : AreaRuleValue → List (List ℕ) → List ℤ → List ℕ
standing_text rule [] widths = []
standing_text rule (body ∷ bodies) widths =
    set_gap (codes "gap") rule.gap widths ++ body_text body ++ separated_text rule.sep bodies (drop 1 widths)

-- the notes of a class below its skip
abbrev pub skipped_text : Gap → List (List ℕ) → List ℤ → List ℕ
skipped_text skip [] widths = []
skipped_text skip (body ∷ bodies) widths = set_gap (codes "skip") skip widths ++ flat_map body_text (body ∷ bodies)
