-- Page texts, computed.
use Rattle.std.proofs.Common.{◌≡◌, refl, zero, suc, ℕ, pos, List, [], ◌∷◌}
use Rattle.std.specs.Prelude.{codes}
use Rattle.pg_list.specs.declared.item.Item.{Item}
use Rattle.pg_list.specs.declared.item.Item.TheVariants.{BoxItem, Glue, Penalty, Insert}
use Rattle.pg_list.specs.declared.item.Order.TheVariants.{Finite}
use Rattle.pg_list.specs.GalleyValue.{GalleyValue}
use Rattle.pg_plan.specs.declared.pages.Pagination.{Pagination}
use Rattle.pg_style.specs.Values.{StyleValue}
use Rattle.pg_style.specs.declared.style.Kind.TheVariants.{Note}
use Rattle.pg_style.specs.Plain.{rigid}
use Rattle.pg_rules.proofs.Examples.{points, at, text_column, page, pages, galley, two_pages, plain, note_style, both_style, with_float}
use Rattle.std.specs.Fmt.{digits}
use Rattle.pg_scaled.specs.Scaled.{fraction_digits}
use Rattle.pg_pages.specs.PageText.{page_text, page_line, set_notes, notes_text, hanging_text, standing_floats, floats_text, set_line, text_area, column_ends, column_counts, page_side, page_run, head_counts, head_line}

abbrev pub shown_line : Item
shown_line = BoxItem (points 7) (points 2) (codes "\\hbox(7.0+2.0)x345.0")

abbrev pub shown_gap : Item
shown_gap = Glue (points 3) (pos 0) Finite (pos 0) (codes "\\glue 3.0")

abbrev pub shown_lines : ℕ → List Item
shown_lines zero = shown_line ∷ []
shown_lines (suc n) = shown_line ∷ shown_gap ∷ shown_lines n

-- ten lines on two pages
ten_lines_text : page_text (galley (shown_lines 9)) (plain 58) (two_pages 9 19) (pos 200) ≡ codes "pages 2 cost 200 width 345.0\npage 1 side S run 0 wide -\ncolumn 1 from 0 0 0 to 9 0 0 top - bottom - picks -\nset goal 58.0 total 58.0 badness 0 penalty 0 demerits 100\narea text\n.\\glue(\\topskip) 3.0\n.\\hbox(7.0+2.0)x345.0\n.\\glue 3.0, set 3.0\n.\\hbox(7.0+2.0)x345.0\n.\\glue 3.0, set 3.0\n.\\hbox(7.0+2.0)x345.0\n.\\glue 3.0, set 3.0\n.\\hbox(7.0+2.0)x345.0\n.\\glue 3.0, set 3.0\n.\\hbox(7.0+2.0)x345.0\npage 2 side S run 0 wide -\ncolumn 1 from 9 0 0 to 19 0 0 top - bottom - picks -\nset goal 58.0 total 58.0 badness 0 penalty 0 demerits 100\narea text\n.\\glue(\\topskip) 3.0\n.\\hbox(7.0+2.0)x345.0\n.\\glue 3.0, set 3.0\n.\\hbox(7.0+2.0)x345.0\n.\\glue 3.0, set 3.0\n.\\hbox(7.0+2.0)x345.0\n.\\glue 3.0, set 3.0\n.\\hbox(7.0+2.0)x345.0\n.\\glue 3.0, set 3.0\n.\\hbox(7.0+2.0)x345.0\n"
unfolding page_text page_line set_notes notes_text hanging_text standing_floats floats_text set_line text_area column_ends column_counts page_side page_run head_counts head_line digits fraction_digits
ten_lines_text = refl

-- a float above its line
abbrev pub shown_float : GalleyValue
shown_float =
    galley (shown_line ∷ Insert 100 (points 20) (codes "\\insert100, natural size 20.0; split(0.0,0.0); float cost 0") ∷ [])

float_text : page_text shown_float both_style (with_float 1 0) (pos 100) ≡ codes "pages 1 cost 100 width 345.0\npage 1 side S run 0 wide 0\ncolumn 1 from 0 0 0 to 2 0 0 top 1 bottom 0 picks -\nset goal 34.0 total 10.0 badness 0 penalty 0 demerits 100\narea top\n.\\insert100, natural size 20.0; split(0.0,0.0); float cost 0\narea text\n.\\glue(\\topskip) 3.0\n.\\hbox(7.0+2.0)x345.0\n"
unfolding page_text page_line set_notes notes_text hanging_text standing_floats floats_text set_line text_area column_ends column_counts page_side page_run head_counts head_line digits fraction_digits
float_text = refl

-- bodies of several lines, penalties, and a line higher than the ones before
abbrev pub deep_line : List ℕ → ℕ → Item
deep_line body depth = BoxItem (pos 455111) (pos depth) body

abbrev pub shown_penalty : Item
shown_penalty = Penalty (pos 150) (codes "\\penalty 150")

abbrev pub shown_baselineskip : Item
shown_baselineskip = Glue (pos 203890) (pos 0) Finite (pos 0) (codes "\\glue(\\baselineskip) 3.11111")

abbrev pub shown_words : GalleyValue
shown_words = galley (
    Glue (pos 0) (points 1) Finite (pos 0) (codes "\\glue(\\parskip) 0.0 plus 1.0")
    ∷ deep_line (codes "\\hbox(6.94444+1.94444)x345.0, glue set 0.5\n.\\tenrm T") 127431 ∷ shown_penalty ∷ shown_baselineskip
    ∷ deep_line (codes "\\hbox(6.94444+1.94444)x345.0\n.\\tenrm h") 127431 ∷ shown_penalty ∷ shown_baselineskip
    ∷ deep_line (codes "\\hbox(6.94444+0.0)x345.0, glue set 200.0fil\n.\\tenrm e") 0 ∷ [])

words_text : page_text shown_words (plain 550) (pages (page [] (text_column (at 0) (at 8) [] ∷ []) ∷ [])) (pos 100) ≡ codes "pages 1 cost 100 width 345.0\npage 1 side S run 0 wide -\ncolumn 1 from 0 0 0 to 8 0 0 top - bottom - picks -\nset goal 550.0 total 34.0 badness 0 penalty 0 demerits 100\narea text\n.\\glue(\\topskip) 3.05556\n.\\hbox(6.94444+1.94444)x345.0, glue set 0.5\n..\\tenrm T\n.\\penalty 150\n.\\glue(\\baselineskip) 3.11111, set 3.11111\n.\\hbox(6.94444+1.94444)x345.0\n..\\tenrm h\n.\\penalty 150\n.\\glue(\\baselineskip) 3.11111, set 3.11111\n.\\hbox(6.94444+0.0)x345.0, glue set 200.0fil\n..\\tenrm e\n"
unfolding page_text page_line set_notes notes_text hanging_text standing_floats floats_text set_line text_area column_ends column_counts page_side page_run head_counts head_line digits fraction_digits
words_text = refl

-- glue that is stretched to the goal, and a note
abbrev pub shown_soft : Item
shown_soft = Glue (points 3) (points 1) Finite (pos 0) (codes "\\glue 3.0 plus 1.0")

abbrev pub shown_note : GalleyValue
shown_note =
    galley (shown_line ∷ shown_soft ∷ shown_line ∷ shown_soft ∷ shown_line ∷ shown_soft ∷ shown_line ∷ shown_soft ∷ shown_line
    ∷ Insert 200 (points 9) (codes "\\insert200, natural size 9.0; split(0.0,0.0); float cost 0") ∷ [])

note_text : page_text shown_note (note_style 100) (two_pages 7 10) (pos 41036936) ≡ codes "pages 2 cost 41036936 width 345.0\npage 1 side S run 0 wide -\ncolumn 1 from 0 0 0 to 7 0 0 top - bottom - picks -\nset goal 58.0 total 46.0 badness 6396 penalty 0 demerits 41036836\narea text\n.\\glue(\\topskip) 3.0\n.\\hbox(7.0+2.0)x345.0\n.\\glue 3.0 plus 1.0, set 7.0\n.\\hbox(7.0+2.0)x345.0\n.\\glue 3.0 plus 1.0, set 7.0\n.\\hbox(7.0+2.0)x345.0\n.\\glue 3.0 plus 1.0, set 7.0\n.\\hbox(7.0+2.0)x345.0\npage 2 side S run 0 wide -\ncolumn 1 from 7 0 0 to 10 0 0 top - bottom - picks -\nset goal 45.0 total 10.0 badness 0 penalty 0 demerits 100\narea text\n.\\glue(\\topskip) 3.0\n.\\hbox(7.0+2.0)x345.0\narea notes\n.\\insert200, natural size 9.0; split(0.0,0.0); float cost 0\n"
unfolding page_text page_line set_notes notes_text hanging_text standing_floats floats_text set_line text_area column_ends column_counts page_side page_run head_counts head_line digits fraction_digits
note_text = refl

-- two lines with something between them, and a penalty and a line behind the column
abbrev pub shown_pair : Item → GalleyValue
shown_pair between =
    galley (shown_line ∷ between ∷ shown_line ∷ Penalty (pos 0) (codes "\\penalty 0") ∷ shown_line ∷ [])

abbrev pub one_column : ℕ → Pagination
one_column end = pages (page [] (text_column (at 0) (at end) [] ∷ []) ∷ [])

-- glue that is stretched far
stretched_text : page_text (shown_pair shown_soft) (plain 34) (one_column 3) (pos 0) ≡ codes "pages 1 cost 0 width 345.0\npage 1 side S run 0 wide -\ncolumn 1 from 0 0 0 to 3 0 0 top - bottom - picks -\nset goal 34.0 total 22.0 badness 10000 penalty 0 demerits 100200100\narea text\n.\\glue(\\topskip) 3.0\n.\\hbox(7.0+2.0)x345.0\n.\\glue 3.0 plus 1.0, set 15.0\n.\\hbox(7.0+2.0)x345.0\n"
unfolding page_text page_line set_notes notes_text hanging_text standing_floats floats_text set_line text_area column_ends column_counts page_side page_run head_counts head_line digits fraction_digits
stretched_text = refl

-- glue that is shrunk to the goal
abbrev pub shown_loose : Item
shown_loose = Glue (points 4) (pos 0) Finite (points 4) (codes "\\glue 4.0 minus 4.0")

shrunk_text : page_text (shown_pair shown_loose) (plain 21) (one_column 3) (pos 0) ≡ codes "pages 1 cost 0 width 345.0\npage 1 side S run 0 wide -\ncolumn 1 from 0 0 0 to 3 0 0 top - bottom - picks -\nset goal 21.0 total 23.0 badness 12 penalty 0 demerits 484\narea text\n.\\glue(\\topskip) 3.0\n.\\hbox(7.0+2.0)x345.0\n.\\glue 4.0 minus 4.0, set 2.0\n.\\hbox(7.0+2.0)x345.0\n"
unfolding page_text page_line set_notes notes_text hanging_text standing_floats floats_text set_line text_area column_ends column_counts page_side page_run head_counts head_line digits fraction_digits
shrunk_text = refl

-- leaders, whose body has a second line, below no topskip
abbrev pub shown_leaders : Item
shown_leaders = Glue (points 3) (pos 0) Finite (pos 0) (codes "\\leaders 3.0\n.\\rule(0.4+0.0)x*")

leaders_text : page_text (shown_pair shown_leaders) (record (plain 19) { topskip = pos 0 }) (one_column 3) (pos 0) ≡ codes "pages 1 cost 0 width 345.0\npage 1 side S run 0 wide -\ncolumn 1 from 0 0 0 to 3 0 0 top - bottom - picks -\nset goal 19.0 total 19.0 badness 0 penalty 0 demerits 100\narea text\n.\\glue(\\topskip) 0.0\n.\\hbox(7.0+2.0)x345.0\n.\\leaders 3.0, set 3.0\n..\\rule(0.4+0.0)x*\n.\\hbox(7.0+2.0)x345.0\n"
unfolding page_text page_line set_notes notes_text hanging_text standing_floats floats_text set_line text_area column_ends column_counts page_side page_run head_counts head_line digits fraction_digits
leaders_text = refl

-- notes of two classes, that of the greater number first in the text
abbrev pub shown_notes : GalleyValue
shown_notes = galley (shown_line ∷ Insert 201 (points 5) (codes "\\insert201, natural size 5.0")
    ∷ Insert 200 (points 9) (codes "\\insert200, natural size 9.0") ∷ [])

abbrev pub two_notes : StyleValue
two_notes = record (plain 58) {
  classes = record { number = 200; kind = Note (rigid (points 4)) (points 100) }
      ∷ record { number = 201; kind = Note (rigid (points 4)) (points 100) } ∷ [];
}

two_notes_text : page_text shown_notes two_notes (one_column 3) (pos 0) ≡ codes "pages 1 cost 0 width 345.0\npage 1 side S run 0 wide -\ncolumn 1 from 0 0 0 to 3 0 0 top - bottom - picks -\nset goal 36.0 total 10.0 badness 0 penalty 0 demerits 100\narea text\n.\\glue(\\topskip) 3.0\n.\\hbox(7.0+2.0)x345.0\narea notes\n.\\insert200, natural size 9.0\n.\\insert201, natural size 5.0\n"
unfolding page_text page_line set_notes notes_text hanging_text standing_floats floats_text set_line text_area column_ends column_counts page_side page_run head_counts head_line digits fraction_digits
two_notes_text = refl

-- a float above the text and one below it
abbrev pub shown_floats : GalleyValue
shown_floats = galley (shown_line ∷ Insert 100 (points 20) (codes "\\insert100, natural size 20.0")
    ∷ Insert 100 (points 10) (codes "\\insert100, natural size 10.0") ∷ [])

abbrev pub around_text : Pagination
around_text = pages (page (0 ∷ [])
    (record { from = at 0; to = at 3; top = 1 ∷ []; bottom = 1 ∷ []; picks = [] } ∷ []) ∷ [])

two_floats_text : page_text shown_floats both_style around_text (pos 0) ≡ codes "pages 1 cost 0 width 345.0\npage 1 side S run 0 wide 0\ncolumn 1 from 0 0 0 to 3 0 0 top 1 bottom 1 picks -\nset goal 20.0 total 10.0 badness 0 penalty 0 demerits 100\narea top\n.\\insert100, natural size 20.0\narea text\n.\\glue(\\topskip) 3.0\n.\\hbox(7.0+2.0)x345.0\narea bottom\n.\\insert100, natural size 10.0\n"
unfolding page_text page_line set_notes notes_text hanging_text standing_floats floats_text set_line text_area column_ends column_counts page_side page_run head_counts head_line digits fraction_digits
two_floats_text = refl
