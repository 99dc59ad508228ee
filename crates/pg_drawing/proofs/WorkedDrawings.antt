-- Drawings that are computed.
use Rattle.std.proofs.Common.{◌≡◌, ◌^◌, ◌++◌, refl, true, false, pos, [], ◌∷◌, map}
use Rattle.std.specs.Prelude.{codes, encode_utf8_all}
use Rattle.std.specs.Char.{encode_utf8}
use Rattle.pg_list.specs.declared.item.Order.TheVariants.{Finite, Fil}
use Rattle.pg_scan.specs.Parts.{after, named, parts_of, past, word_number}
use Rattle.pg_showbox.specs.Nodes.{amount_at, glue_at, glue_text_at, kern_at, past_name, penalty_at, shrink_at, stretch_at}
use Rattle.pg_showbox.specs.Parts.{digits_at, due, order_at, size_at, whole_at}
use Rattle.pg_drawing.specs.Drawn.{area_name, area_of}
use Rattle.pg_drawing.specs.Letters.{letter, letters, letters_at, ligature}
use Rattle.pg_drawing.specs.Pieces.{Lines}
use Rattle.pg_drawing.specs.Shapes.{behind_name, box_at, extent, later_at, named_glue_at, natural_at, past_natural, rule_at, set_at, shape_of, sized_at}
use Rattle.pg_drawing.specs.Signs.{in_print, quote_in_print, t1_mark}
use Rattle.pg_drawing.specs.Totals.{adds_up}
use Rattle.pg_drawing.specs.Widths.{printed_behind, printed_size, width_word}
use Rattle.pg_drawing.specs.declared.model.AreaName.TheVariants.{Text}
use Rattle.pg_drawing.specs.declared.model.Mark.{Mark}
use Rattle.pg_drawing.specs.declared.model.Shape.TheVariants.{Box, Glue, Insert, Other, Rule}

-- ---- item lines

box_is : shape_of (codes ".\\hbox(7.0+2.0)x345.0, glue set 0.2") ≡ Box (pos 458752) (pos 131072) (pos 22609920)
unfolding shape_of sized_at box_at after named parts_of due size_at
box_is = refl

rule_is : shape_of (codes ".\\rule(0.5+0.0)x*") ≡ Rule (pos 32768) (pos 0)
unfolding shape_of sized_at rule_at after named parts_of due size_at
rule_is = refl

glue_is : shape_of (codes ".\\glue(\\parskip) 1.0 plus 2.0fil, set 1.5")
    ≡ Glue (pos 65536) (pos 131072) Fil (pos 0) (pos 98304)
unfolding shape_of sized_at named_glue_at behind_name glue_at glue_text_at past_name stretch_at shrink_at amount_at order_at
    set_at width_word printed_size printed_behind after past named parts_of due size_at
glue_is = refl

-- more than any drawing shows is drawn as 2^44 points
far_is : extent (Glue (pos 0) (pos 65536) Fil (pos 0) (pos (2 ^ 70))) ≡ pos (2 ^ 60)
far_is = refl

topskip_is : shape_of (codes ".\\glue(\\topskip) 3.0") ≡ Glue (pos 196608) (pos 0) Finite (pos 0) (pos 196608)
unfolding shape_of sized_at named_glue_at behind_name glue_at glue_text_at past_name stretch_at shrink_at set_at after past
    named parts_of due size_at
topskip_is = refl

insert_is : shape_of (codes ".\\insert254, natural size 9.0; split(10.0,2.0)") ≡ Insert 254 (pos 589824)
unfolding shape_of sized_at later_at natural_at past_natural word_number after named parts_of due size_at
insert_is = refl

mark_is : shape_of (codes ".\\mark{one}") ≡ Other
unfolding shape_of sized_at later_at after named parts_of
mark_is = refl

-- ---- letters

abbrev line_of_text : Lines
line_of_text = record {
  head = codes ".\\hbox(7.0+2.0)x345.0";
  rest = codes "..\\hbox(0.0+0.0)x20.0" ∷ codes "...\\tenrm I" ∷ codes "..\\glue 3.3" ∷ codes "..\\tenrm ^^L (ligature fi)"
      ∷ codes "..\\penalty 0" ∷ codes "..\\discretionary" ∷ codes "...\\tenrm -" ∷ codes "..\\tenrm x" ∷ [];
}

letters_are : letters line_of_text ≡ codes "I fix"
unfolding letters_at letter ligature in_print quote_in_print after named parts_of
letters_are = refl

-- TeX's quotes and dashes, letters beyond ASCII as LuaTeX and as pdfTeX has them, and a byte that tells none
abbrev line_of_speech : Lines
line_of_speech = record {
  head = codes ".\\hbox(7.0+2.0)x345.0";
  rest = codes "..\\tenrm \\ (ligature ``)" ∷ codes "..\\tenrm I" ∷ codes "..\\tenrm '" ∷ codes "..\\tenrm m"
      ∷ codes "..\\T1/cmr/m/n/10 ^^U (ligature --)" ∷ encode_utf8_all (codes "..\\TU/lmr/m/n/10 é")
      ∷ (codes "..\\T1/cmr/m/n/10 " ++ 255 ∷ []) ∷ (codes "..\\T1/cmr/m/n/10 " ++ 128 ∷ [])
      ∷ codes "..\\T1/cmr/m/n/10 ^^T" ∷ (codes "..\\tenrm " ++ 233 ∷ []) ∷ codes "..\\tenrm ^^T"
      ∷ codes "..\\tenrm | (ligature ---)" ∷ codes "..\\tenrm ^^Q (ligature '')" ∷ [];
}

speech_is : letters line_of_speech ≡ encode_utf8_all (codes "“I’m–éßĂ»—”")
unfolding letters_at letter ligature in_print quote_in_print t1_mark after named parts_of encode_utf8
speech_is = refl

abbrev note_of_two_lines : Lines
note_of_two_lines = record {
  head = codes ".\\insert253, natural size 18.0; split(10.0,2.0); float cost 100";
  rest = codes "..\\hbox(7.0+2.0)x345.0" ∷ codes "...\\tenrm I" ∷ codes "..\\penalty 0" ∷ codes "..\\hbox(7.0+2.0)x345.0"
      ∷ codes "...\\tenrm a" ∷ [];
}

rows_are : letters note_of_two_lines ≡ codes "\nI\na"
unfolding letters_at letter ligature in_print quote_in_print after named parts_of
rows_are = refl

-- ---- areas

abbrev two_lines : Lines
two_lines = record {
  head = codes "area text";
  rest = codes ".\\glue(\\topskip) 3.0" ∷ codes ".\\hbox(7.0+2.0)x345.0" ∷ codes "..\\tenrm I"
      ∷ codes ".\\penalty 0" ∷ codes ".\\kern 1.0" ∷ codes ".\\hbox(7.0+2.0)x345.0" ∷ [];
}

tops_are : map (λ (mark : Mark). mark.top) (area_of two_lines).marks
    ≡ pos 0 ∷ pos 196608 ∷ pos 786432 ∷ pos 786432 ∷ pos 851968 ∷ []
unfolding shape_of sized_at later_at box_at named_glue_at behind_name glue_at glue_text_at past_name stretch_at shrink_at set_at
    kern_at penalty_at past whole_at digits_at after named parts_of due size_at
tops_are = refl

height_is : (area_of two_lines).height ≡ pos 1441792
unfolding shape_of sized_at later_at box_at named_glue_at behind_name glue_at glue_text_at past_name stretch_at shrink_at set_at
    kern_at penalty_at past whole_at digits_at after named parts_of due size_at
height_is = refl

name_is : (area_of two_lines).name ≡ Text
unfolding area_name
name_is = refl

-- ---- totals: two lines of 9 points, 2 of them depth, with 4 points between and above them

totals_are : map (adds_up (area_of two_lines).marks) (pos 1310719 ∷ pos 1310720 ∷ pos 1441792 ∷ pos 1441793 ∷ [])
    ≡ false ∷ true ∷ true ∷ false ∷ []
unfolding shape_of sized_at later_at box_at named_glue_at behind_name glue_at glue_text_at past_name stretch_at shrink_at set_at
    kern_at penalty_at past whole_at digits_at after named parts_of due size_at
totals_are = refl
