-- What output texts say, computed: texts that are read, and where others are none.
use Rattle.std.proofs.Common.{◌≡◌, refl, pos, List, [], ◌∷◌}
use Rattle.std.specs.Prelude.{◌^◌, ◌-◌, ◌++◌, codes, replicate, Some, None, Ok, Err, negsuc}
use Rattle.std.specs.Fmt.{digits}
use Rattle.pg_list.specs.Places.{place}
use Rattle.pg_plan.specs.declared.states.Label.{Label}
use Rattle.pg_plan.specs.declared.states.Side.TheVariants.{R}
use Rattle.pg_scaled.specs.Scaled.{fraction_digits}
use Rattle.pg_scan.specs.Parts.{parts_of}
use Rattle.pg_words.specs.InOrder.{place_at}
use Rattle.pg_words.specs.Read.{numeral, number_below, whole_word, negative_word, positive_word, size_behind, size_word, value_word, scaled_word, numbers_word, side_word, column_word}
use Rattle.pg_labels.specs.Drafts.{step, none_line, head_line, page_line, column_line, numbers_line, labels_line, area_line, area_number, wide_line, label_line}
use Rattle.pg_labels.specs.LabelLines.{count_of, label_front, label_rest, label_from, label_of}
use Rattle.pg_labels.specs.PageLines.{head_of, head_words, page_of, page_words, list_words, column_words, column_from, column_of, demerits_at, set_words, set_of, without_of}
use Rattle.pg_labels.specs.Reading.{output_of, run}
use Rattle.pg_labels.specs.declared.output.Output.{Output}
use Rattle.pg_labels.specs.declared.output.Shown.TheVariants.{Pages, NoLegal}
use Rattle.pg_labels.proofs.WorkedTexts.{bodies, column_from_to, column_one, count_three, fit_labels, fit_labels_text, head, label_at, label_one, label_three, label_two, numbers, page_one, page_two, text_area, three_labels, three_labels_text, two_pages, two_pages_text}

-- the two pages, with these labels
abbrev pub reads_as : List Label → Output
reads_as labels = record {
  shown = Pages (record { pages = two_pages }) (pos 200);
  page_text = two_pages_text;
  labels = labels;
}

abbrev pub full_label : Label
full_label = record {
  state = record {
    place = place 7 1 6;
    column = 2;
    side = R;
    run = Some 4;
    wide = Some (pos 98304);
    fitness = Some 3;
    placed = 1 ∷ 0 ∷ [];
    ages = 2 ∷ 0 ∷ [];
  };
  cost = negsuc 11;
}

-- output texts that are read
are_read :
    (output_of (two_pages_text ++ three_labels_text) ≡ Ok (reads_as three_labels))
    × (output_of (two_pages_text ++ fit_labels_text) ≡ Ok (reads_as fit_labels))
    × (output_of (two_pages_text ++ codes "labels 0\n") ≡ Ok (reads_as []))
    × (output_of (two_pages_text ++ codes "labels 2\n" ++ label_one ++ codes "label 2 0 0 0 1 S - - - - 0\n")
    ≡ Ok (reads_as (label_at 0 None (pos 0) ∷ label_at 0 None (pos 0) ∷ [])))
unfolding output_of run step parts_of head_of head_words page_of page_words list_words column_words
    column_from column_of demerits_at set_words set_of without_of count_of label_front label_rest label_from
    label_of none_line head_line page_line column_line numbers_line labels_line area_line area_number wide_line
    label_line numeral number_below whole_word negative_word positive_word size_behind size_word value_word
    scaled_word numbers_word side_word column_word place_at digits fraction_digits
are_read = (refl, refl, refl, refl)

-- a label with every field
every_field_is_read :
    (output_of (two_pages_text ++ codes "labels 1 fitness\nlabel 1 7 1 6 2 R 4 1.5 3 1,0 2,0 -12\n")
    ≡ Ok (reads_as (full_label ∷ [])))
unfolding output_of run step parts_of head_of head_words page_of page_words list_words column_words
    column_from column_of demerits_at set_words set_of without_of count_of label_front label_rest label_from
    label_of none_line head_line page_line column_line numbers_line labels_line area_line area_number wide_line
    label_line numeral number_below whole_word negative_word positive_word size_behind size_word value_word
    scaled_word numbers_word side_word column_word place_at digits fraction_digits
every_field_is_read = refl

-- that no pagination is legal, with the labels that show it; and a text without pages, of whatever count
no_pages_are_read :
    (output_of (codes "no legal pagination\nlabels 1\n" ++ label_one)
    ≡ Ok (record {
      shown = NoLegal;
      page_text = codes "no legal pagination\n";
      labels = label_at 0 None (pos 0) ∷ [];
    }))
    × (output_of (codes "pages 9 cost -5 width -1.0\nlabels 0\n")
    ≡ Ok (record {
      shown = Pages (record { pages = [] }) (negsuc 4);
      page_text = codes "pages 9 cost -5 width -1.0\n";
      labels = [];
    }))
unfolding output_of run step parts_of head_of head_words page_of page_words list_words column_words
    column_from column_of demerits_at set_words set_of without_of count_of label_front label_rest label_from
    label_of none_line head_line page_line column_line numbers_line labels_line area_line area_number wide_line
    label_line numeral number_below whole_word negative_word positive_word size_behind size_word value_word
    scaled_word numbers_word side_word column_word place_at digits fraction_digits
no_pages_are_read = (refl, refl)

-- all areas, whatever their bodies hold, and a column without text
areas_are_read :
    (output_of (codes "pages 1 cost 0 width 0.0\npage 1 side L run 255 wide 65535\narea wide\n.\n" ++ column_one
    ++ codes "without text demerits -1\narea top\narea text\n.x \0\narea bottom\narea notes\n. \n..y\nlabels 0\n")
    ≡ Ok (record {
      shown = Pages
          (record { pages = record { run = 255; wide = 65535 ∷ []; columns = column_from_to 0 1 ∷ [] } ∷ [] })
          (pos 0);
      page_text = codes "pages 1 cost 0 width 0.0\npage 1 side L run 255 wide 65535\narea wide\n.\n" ++ column_one
          ++ codes "without text demerits -1\narea top\narea text\n.x \0\narea bottom\narea notes\n. \n..y\n";
      labels = [];
    }))
unfolding output_of run step parts_of head_of head_words page_of page_words list_words column_words
    column_from column_of demerits_at set_words set_of without_of count_of label_front label_rest label_from
    label_of none_line head_line page_line column_line numbers_line labels_line area_line area_number wide_line
    label_line numeral number_below whole_word negative_word positive_word size_behind size_word value_word
    scaled_word numbers_word side_word column_word place_at digits fraction_digits
areas_are_read = refl

-- costs at the ends of 128 bits
widest_costs_are_read :
    (output_of (two_pages_text
    ++ codes "labels 1\nlabel 1 0 0 0 1 S - - - - 170141183460469231731687303715884105727\n")
    ≡ Ok (reads_as (label_at 0 None (pos (2 ^ 127 - 1)) ∷ [])))
    × (output_of (two_pages_text
    ++ codes "labels 1\nlabel 1 0 0 0 1 S - - - - -170141183460469231731687303715884105728\n")
    ≡ Ok (reads_as (label_at 0 None (negsuc (2 ^ 127 - 1)) ∷ [])))
unfolding output_of run step parts_of head_of head_words page_of page_words list_words column_words
    column_from column_of demerits_at set_words set_of without_of count_of label_front label_rest label_from
    label_of none_line head_line page_line column_line numbers_line labels_line area_line area_number wide_line
    label_line numeral number_below whole_word negative_word positive_word size_behind size_word value_word
    scaled_word numbers_word side_word column_word place_at digits fraction_digits
widest_costs_are_read = (refl, refl)

-- texts that are cut, or go on
end_elsewhere :
    (output_of [] ≡ Err 1)
    × (output_of (two_pages_text ++ count_three) ≡ Err 15)
    × (output_of two_pages_text ≡ Err 14)
    × (output_of (two_pages_text ++ count_three ++ label_one ++ label_two ++ codes "label 3 3 0 0 1 S - - - - 200")
    ≡ Err 17)
    × (output_of (two_pages_text ++ count_three ++ label_one ++ label_two ++ codes "label 3 3 0 0 1 S")
    ≡ Err 17)
    × (output_of (two_pages_text ++ three_labels_text ++ codes "label 4 3 0 0 1 S - - - - 200\n") ≡ Err 18)
    × (output_of (two_pages_text ++ three_labels_text ++ codes "\n") ≡ Err 18)
    × (output_of (two_pages_text ++ three_labels_text ++ codes "x") ≡ Err 18)
unfolding output_of run step parts_of head_of head_words page_of page_words list_words column_words
    column_from column_of demerits_at set_words set_of without_of count_of label_front label_rest label_from
    label_of none_line head_line page_line column_line numbers_line labels_line area_line area_number wide_line
    label_line numeral number_below whole_word negative_word positive_word size_behind size_word value_word
    scaled_word numbers_word side_word column_word place_at digits fraction_digits
end_elsewhere = (refl, refl, refl, refl, refl, refl, refl, refl)

-- counts that are none, and labels that are out of order
labels_are_counted :
    (output_of (two_pages_text ++ codes "labels 03\n" ++ label_one ++ label_two ++ label_three) ≡ Err 14)
    × (output_of (two_pages_text ++ codes "labels 3 \n" ++ label_one ++ label_two ++ label_three) ≡ Err 14)
    × (output_of (two_pages_text ++ codes "labels 3 fit\n" ++ label_one ++ label_two ++ label_three) ≡ Err 14)
    × (output_of (two_pages_text ++ codes "labels 2\n" ++ label_one ++ label_two ++ label_three) ≡ Err 17)
    × (output_of (two_pages_text ++ codes "labels 4\n" ++ label_one ++ label_two ++ label_three) ≡ Err 18)
    × (output_of (two_pages_text ++ count_three ++ label_one ++ label_three ++ label_three) ≡ Err 16)
    × (output_of (two_pages_text ++ count_three ++ codes "label 0 0 0 0 1 S - - - - 0\n" ++ label_two ++ label_three)
    ≡ Err 15)
unfolding output_of run step parts_of head_of head_words page_of page_words list_words column_words
    column_from column_of demerits_at set_words set_of without_of count_of label_front label_rest label_from
    label_of none_line head_line page_line column_line numbers_line labels_line area_line area_number wide_line
    label_line numeral number_below whole_word negative_word positive_word size_behind size_word value_word
    scaled_word numbers_word side_word column_word place_at digits fraction_digits
labels_are_counted = (refl, refl, refl, refl, refl, refl, refl)

-- fields of labels that are none
label_fields_are_exact :
    (output_of (two_pages_text ++ codes "labels 1\nlabel 1 0 0 0 1 S - - - - -0\n") ≡ Err 15)
    × (output_of (two_pages_text ++ codes "labels 1\nlabel 1 0 0 0 1 S - - - - +1\n") ≡ Err 15)
    × (output_of (two_pages_text ++ codes "labels 1\nlabel 1 0 0 0 3 S - - - - 0\n") ≡ Err 15)
    × (output_of (two_pages_text ++ codes "labels 1\nlabel 1 0 0 00 1 S - - - - 0\n") ≡ Err 15)
    × (output_of (two_pages_text ++ codes "labels 1\nlabel 1  0 0 0 1 S - - - - 0\n") ≡ Err 15)
    × (output_of (two_pages_text ++ codes "labels 1\nlabel 1 0 0 0 1 S - - 65536 - 0\n") ≡ Err 15)
    × (output_of (two_pages_text ++ codes "labels 1\nlabel 1 0 0 0 1 S - - - 256 0\n") ≡ Err 15)
    × (output_of (two_pages_text ++ codes "labels 1 fitness\n" ++ label_one) ≡ Err 15)
    × (output_of (two_pages_text ++ codes "labels 1 fitness\nlabel 1 0 0 0 1 S - - 4 - - 0\n") ≡ Err 15)
    × (output_of (two_pages_text ++ codes "labels 1\nlabel 1 0 0 0 1 S - - 2 - - 0\n") ≡ Err 15)
unfolding output_of run step parts_of head_of head_words page_of page_words list_words column_words
    column_from column_of demerits_at set_words set_of without_of count_of label_front label_rest label_from
    label_of none_line head_line page_line column_line numbers_line labels_line area_line area_number wide_line
    label_line numeral number_below whole_word negative_word positive_word size_behind size_word value_word
    scaled_word numbers_word side_word column_word place_at digits fraction_digits
label_fields_are_exact = (refl, refl, refl, refl, refl, refl, refl, refl, refl, refl)

-- costs beyond 128 bits, and numbers of 40 and of 300 digits
wide_costs_are_refused :
    (output_of (two_pages_text
    ++ codes "labels 1\nlabel 1 0 0 0 1 S - - - - 170141183460469231731687303715884105728\n")
    ≡ Err 15)
    × (output_of (two_pages_text
    ++ codes "labels 1\nlabel 1 0 0 0 1 S - - - - -170141183460469231731687303715884105729\n")
    ≡ Err 15)
    × (output_of (two_pages_text
    ++ codes "labels 1\nlabel 1 0 0 0 1 S - - - - 1234567890123456789012345678901234567890\n")
    ≡ Err 15)
    × (output_of (two_pages_text ++ codes "labels " ++ replicate 300 57 ++ codes "\n") ≡ Err 15)
unfolding output_of run step parts_of head_of head_words page_of page_words list_words column_words
    column_from column_of demerits_at set_words set_of without_of count_of label_front label_rest label_from
    label_of none_line head_line page_line column_line numbers_line labels_line area_line area_number wide_line
    label_line numeral number_below whole_word negative_word positive_word size_behind size_word value_word
    scaled_word numbers_word side_word column_word place_at digits fraction_digits
wide_costs_are_refused = (refl, refl, refl, refl)

-- lines of pages that are none, or stand elsewhere
pages_are_exact :
    (output_of (codes "pages 2 cost 200 width 345.00\n" ++ page_one ++ column_one ++ numbers ++ text_area
    ++ page_two ++ three_labels_text)
    ≡ Err 1)
    × (output_of (head ++ page_one ++ column_one ++ numbers ++ bodies ++ page_two ++ three_labels_text)
    ≡ Err 5)
    × (output_of (head ++ page_one ++ column_one ++ numbers ++ codes "area notes\n" ++ text_area ++ page_two
    ++ three_labels_text)
    ≡ Err 6)
    × (output_of (head ++ page_one ++ column_one ++ numbers ++ codes "area text\n" ++ text_area ++ page_two
    ++ three_labels_text)
    ≡ Err 6)
    × (output_of (head ++ page_one ++ column_one ++ text_area ++ page_two ++ three_labels_text) ≡ Err 4)
    × (output_of (head ++ page_one ++ column_one ++ numbers ++ text_area ++ page_one ++ three_labels_text)
    ≡ Err 8)
    × (output_of (head ++ page_one ++ codes "column 2 from 0 0 0 to 1 0 0 top - bottom - picks -\n" ++ numbers
    ++ three_labels_text)
    ≡ Err 3)
    × (output_of (head ++ codes "page 1 side S run 256 wide -\n" ++ three_labels_text) ≡ Err 2)
    × (output_of (head ++ page_one ++ codes "area wide\narea wide\n" ++ three_labels_text) ≡ Err 4)
    × (output_of (head ++ page_one ++ codes "area text\n" ++ three_labels_text) ≡ Err 3)
unfolding output_of run step parts_of head_of head_words page_of page_words list_words column_words
    column_from column_of demerits_at set_words set_of without_of count_of label_front label_rest label_from
    label_of none_line head_line page_line column_line numbers_line labels_line area_line area_number wide_line
    label_line numeral number_below whole_word negative_word positive_word size_behind size_word value_word
    scaled_word numbers_word side_word column_word place_at digits fraction_digits
pages_are_exact = (refl, refl, refl, refl, refl, refl, refl, refl, refl, refl)
