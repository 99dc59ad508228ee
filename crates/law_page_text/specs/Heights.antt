-- How high a text is whose glue is set.
use Rattle.std.specs.Prelude.{◌≡◌, ◌⊎◌, ℕ, false, List, [], ◌∷◌, ◌++◌, map, ℤ, pos, ◌+ℤ◌, ◌-ℤ◌, ◌<ℤ◌}
use Rattle.std.specs.List.{flat_map}
use Rattle.pg_list.specs.declared.item.Item.{Item}
use Rattle.pg_list.specs.declared.item.Item.TheVariants.{Glue}
use Rattle.pg_list.specs.Break.{is_spent}
use Rattle.pg_list.specs.Totals.{depth, full_size, shrink, top_glue}
use Rattle.pg_list.specs.Whole.{whole_sum_by}
use Rattle.pg_list.specs.declared.item.Order.TheVariants.{Finite}
use Rattle.pg_style.specs.declared.style.Gap.{Gap}
use Rattle.pg_glue.specs.declared.Sense.TheVariants.{Stretch}
use Rattle.pg_glue.specs.Widths.{amounts, chosen}
use Rattle.pg_rules.specs.ColumnRules.{segment, text_goal, text_total}
use Rattle.pg_rules.specs.Room.{ColumnContext, items_of}
use Rattle.pg_pages.specs.Gaps.{bottom_gaps, gaps_above, note_gaps, shows_gaps}
use Rattle.pg_pages.specs.SetGlue.{elastic, glue_widths, stays_short}

-- the sizes of items together, each glue of its set width
abbrev pub set_sizes : List Item → List ℤ → ℤ
set_sizes [] widths = pos 0
set_sizes (Glue width stretch order shrink body ∷ items) [] = width +ℤ set_sizes items []
set_sizes (Glue width stretch order shrink body ∷ items) (set ∷ widths) = set +ℤ set_sizes items widths
set_sizes (item ∷ items) widths = full_size item +ℤ set_sizes items widths

-- ---- with the gaps around it

-- a gap as glue
abbrev pub glue_of : Gap → Item
glue_of gap = Glue gap.size gap.stretch Finite gap.shrink []

-- the gaps below a text: the skips of its notes and those of the bottom area
abbrev pub gaps_below : ColumnContext → ℕ → List Gap
gaps_below it n = note_gaps it.document.style (segment it n) ++ bottom_gaps it

-- a column's text between these gaps
abbrev pub between : List Gap → List Item → List Gap → List Item
between above items below = map glue_of above ++ items ++ map glue_of below

abbrev pub text_between : ColumnContext → ℕ → List Item
text_between it n = between (gaps_above it) (segment it n) (gaps_below it n)

abbrev pub sizes_of_gaps : List Gap → ℤ
sizes_of_gaps gaps = whole_sum_by (λ (gap : Gap). gap.size) gaps

-- the height of a column's text as it is printed, with what the gaps around it are longer than they are by themselves
abbrev pub printed_total : ColumnContext → ℕ → ℤ
printed_total it n =
    ((top_glue it.document.style.topskip (segment it n) +ℤ set_sizes (text_between it n) (glue_widths it n))
    -ℤ (sizes_of_gaps (gaps_above it) +ℤ sizes_of_gaps (gaps_below it n)))
    -ℤ depth it.document.style.maxdepth (segment it n)

-- how much a text stretches with the gaps around it, in the highest order that does not cancel
abbrev pub stretch_in : List Item → ℤ
stretch_in items = amounts (chosen (flat_map (elastic Stretch) items)) (flat_map (elastic Stretch) items)

-- the printed text, with the gaps around it, fills its goal where it is too high and they shrink together, which they do
-- in versions 1 and 2; where it is too low, is not to stay short and they stretch; and where it is just as high
pub record FillsGoal (it : ColumnContext) (n : ℕ) : Type 0 where
  pub shrunk : text_goal it n <ℤ text_total it n →
      (shows_gaps it.document.style ≡ false) ⊎ (pos 0 <ℤ shrink (text_between it n)) →
      printed_total it n ≡ text_goal it n
  pub stretched : text_total it n <ℤ text_goal it n →
      stays_short it.document.style (segment it n) (is_spent (items_of it) n) ≡ false →
      pos 0 <ℤ stretch_in (text_between it n) → printed_total it n ≡ text_goal it n
  pub as_high : text_total it n ≡ text_goal it n → printed_total it n ≡ text_goal it n
