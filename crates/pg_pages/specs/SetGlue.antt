-- The set widths of the glue of a column: that of its text, and in version 3 the gaps around it.
use Rattle.std.specs.Prelude.{ℕ, Bool, ◌&&◌, ◌||◌, not, if◌then◌else◌, is_some, List, [], ◌∷◌, ◌++◌, length, map, drop, int_lt, ℤ, ◌-ℤ◌}
use Rattle.std.specs.List.{flat_map}
use Rattle.pg_list.specs.Badness.{has_infinite}
use Rattle.pg_list.specs.declared.item.Item.{Item}
use Rattle.pg_list.specs.declared.item.Item.TheVariants.{Glue}
use Rattle.pg_list.specs.declared.item.Order.TheVariants.{Finite}
use Rattle.pg_list.specs.Break.{is_spent}
use Rattle.pg_glue.specs.declared.Elastic.{Elastic}
use Rattle.pg_glue.specs.declared.Sense.{Sense}
use Rattle.pg_glue.specs.declared.Sense.TheVariants.{Stretch, Shrink}
use Rattle.pg_glue.specs.Widths.{elastic_of, set_widths}
use Rattle.pg_style.specs.Values.{StyleValue}
use Rattle.pg_style.specs.declared.style.Gap.{Gap}
use Rattle.pg_rules.specs.Room.{ColumnContext, items_of}
use Rattle.pg_rules.specs.ColumnRules.{segment, text_total, text_goal}
use Rattle.pg_pages.specs.Gaps.{bottom_gaps, gaps_above, note_gaps}

-- the glue of an item, as it grows or gives way
abbrev pub elastic : Sense → Item → List Elastic
elastic sense (Glue width stretch order shrink body) = elastic_of sense width stretch order shrink ∷ []
elastic sense _ = []

-- the same of a gap
abbrev pub gap_elastic : Sense → Gap → Elastic
gap_elastic sense gap = elastic_of sense gap.size gap.stretch Finite gap.shrink

abbrev pub own_width : Item → List ℤ
own_width (Glue width stretch order shrink body) = width ∷ []
own_width _ = []

abbrev pub own_sizes : List Gap → List ℤ
own_sizes gaps = map (λ (gap : Gap). gap.size) gaps

-- the glue of items between gaps
abbrev pub glue_between : Sense → List Gap → List Item → List Gap → List Elastic
glue_between sense above items below =
    map (gap_elastic sense) above ++ flat_map (elastic sense) items ++ map (gap_elastic sense) below

-- a short text is not stretched where its end is spent, that is, with only discardable items behind it, nor in a ragged
-- style by what is finite
abbrev pub stays_short : StyleValue → List Item → Bool → Bool
stays_short style items is_spent = is_spent || (is_some style.ragged && not (has_infinite items))

-- stretched to the goal, shrunk to it, or as the glue is
abbrev pub widths_by : StyleValue → List Gap → List Item → List Gap → ℤ → ℤ → Bool → List ℤ
widths_by style above items below goal total is_spent =
    if int_lt total goal && not (stays_short style items is_spent)
    then set_widths (glue_between Stretch above items below) (goal -ℤ total) Stretch
    else (if int_lt goal total then set_widths (glue_between Shrink above items below) (total -ℤ goal) Shrink
    else (own_sizes above ++ flat_map own_width items ++ own_sizes below))

-- the gaps of its top area, the text, the skips of its notes and the gaps of its bottom area, in this order
abbrev pub glue_widths : ColumnContext → ℕ → List ℤ
glue_widths it n =
    widths_by it.document.style (gaps_above it) (segment it n)
    (note_gaps it.document.style (segment it n) ++ bottom_gaps it) (text_goal it n) (text_total it n)
    (is_spent (items_of it) n)

-- ---- whose they are

abbrev pub text_widths : ColumnContext → ℕ → List ℤ
text_widths it n = drop (length (gaps_above it)) (glue_widths it n)

abbrev pub note_widths : ColumnContext → ℕ → List ℤ
note_widths it n = drop (length (flat_map own_width (segment it n))) (text_widths it n)

abbrev pub bottom_widths : ColumnContext → ℕ → List ℤ
bottom_widths it n = drop (length (note_gaps it.document.style (segment it n))) (note_widths it n)
