-- Pages and labels with their texts, for the facts on output texts.
use Rattle.std.proofs.Common.{ℕ, pos, List, [], ◌∷◌}
use Rattle.std.specs.Prelude.{◌++◌, codes, Option, Some, None, ℤ}
use Rattle.pg_list.specs.Places.{place}
use Rattle.pg_plan.specs.declared.pages.Column.{Column}
use Rattle.pg_plan.specs.declared.pages.Page.{Page}
use Rattle.pg_plan.specs.declared.states.Label.{Label}
use Rattle.pg_plan.specs.declared.states.Side.TheVariants.{S}

-- ---- two lines on two pages

abbrev pub column_from_to : ℕ → ℕ → Column
column_from_to from to = record { from = place from 0 0; to = place to 0 0; top = []; bottom = []; picks = [] }

abbrev pub page_with : Column → Page
page_with column = record { run = 0; wide = []; columns = column ∷ [] }

abbrev pub two_pages : List Page
two_pages = page_with (column_from_to 0 1) ∷ page_with (column_from_to 1 3) ∷ []

abbrev pub head : List ℕ
head = codes "pages 2 cost 200 width 345.0\n"

abbrev pub page_one : List ℕ
page_one = codes "page 1 side S run 0 wide -\n"

abbrev pub column_one : List ℕ
column_one = codes "column 1 from 0 0 0 to 1 0 0 top - bottom - picks -\n"

abbrev pub numbers : List ℕ
numbers = codes "set goal 10.0 total 10.0 badness 0 penalty 0 demerits 100\n"

abbrev pub bodies : List ℕ
bodies = codes ".\\glue(\\topskip) 3.0\n.\\hbox(7.0+2.0)x345.0\n"

abbrev pub text_area : List ℕ
text_area = codes "area text\n" ++ bodies

abbrev pub page_two : List ℕ
page_two = codes "page 2 side S run 0 wide -\ncolumn 1 from 1 0 0 to 3 0 0 top - bottom - picks -\n"
    ++ numbers ++ text_area

-- thirteen lines
abbrev pub two_pages_text : List ℕ
two_pages_text = head ++ page_one ++ column_one ++ numbers ++ text_area ++ page_two

-- ---- labels

abbrev pub label_at : ℕ → Option ℕ → ℤ → Label
label_at block fitness cost = record {
  state = record {
    place = place block 0 0;
    column = 1;
    side = S;
    run = None;
    wide = None;
    fitness = fitness;
    placed = [];
    ages = [];
  };
  cost = cost;
}

abbrev pub three_labels : List Label
three_labels = label_at 0 None (pos 0) ∷ label_at 1 None (pos 100) ∷ label_at 3 None (pos 200) ∷ []

abbrev pub count_three : List ℕ
count_three = codes "labels 3\n"

abbrev pub label_one : List ℕ
label_one = codes "label 1 0 0 0 1 S - - - - 0\n"

abbrev pub label_two : List ℕ
label_two = codes "label 2 1 0 0 1 S - - - - 100\n"

abbrev pub label_three : List ℕ
label_three = codes "label 3 3 0 0 1 S - - - - 200\n"

abbrev pub three_labels_text : List ℕ
three_labels_text = count_three ++ label_one ++ label_two ++ label_three

-- with their fitness
abbrev pub fit_labels : List Label
fit_labels = label_at 0 None (pos 0) ∷ label_at 1 (Some 0) (pos 100200100) ∷ label_at 3 (Some 2) (pos 100205200) ∷ []

abbrev pub fit_labels_text : List ℕ
fit_labels_text = codes "labels 3 fitness\nlabel 1 0 0 0 1 S - - - - - 0\nlabel 2 1 0 0 1 S - - 0 - - 100200100\n"
    ++ codes "label 3 3 0 0 1 S - - 2 - - 100205200\n"
