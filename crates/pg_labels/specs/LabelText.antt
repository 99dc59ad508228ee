-- The text of labels, without fitness for version 1 of a style and with it for later ones.
use Rattle.std.specs.Prelude.{ℕ, ◌+◌, Bool, if◌then◌else◌, List, [], ◌∷◌, ◌++◌, length, decimal, codes}
use Rattle.pg_plan.specs.declared.states.Label.{Label}
use Rattle.pg_plan.specs.declared.states.State.{State}
use Rattle.pg_scaled.specs.Scaled.{scaled_text}
use Rattle.pg_words.specs.Written.{line, whole_text, counts_text, place_text, side_text, option_text}

-- the label's number, and its place
unfoldable pub label_place : ℕ → State → List ℕ
label_place number u = codes "label " ++ decimal number ++ 32 ∷ place_text u.place

-- column, side and run
unfoldable pub label_page : State → List ℕ
label_page u = 32 ∷ decimal u.column ++ 32 ∷ side_text u.side ++ 32 ∷ option_text decimal u.run

-- the height of the wide area, and the fitness where it is told
unfoldable pub label_room : Bool → State → List ℕ
label_room fitness u = 32 ∷ option_text scaled_text u.wide
    ++ (if fitness then 32 ∷ option_text decimal u.fitness else [])

-- the counts of placed floats, and the ages of those that wait
unfoldable pub label_floats : State → List ℕ
label_floats u = 32 ∷ counts_text u.placed ++ 32 ∷ counts_text u.ages

-- what comes first in a line
unfoldable pub label_front : ℕ → State → List ℕ
label_front number u = label_place number u ++ label_page u

-- what comes behind it
unfoldable pub label_rest : Bool → State → List ℕ
label_rest fitness u = label_room fitness u ++ label_floats u

-- the line of a label: its number, the fields of its state in order, its cost
unfoldable pub label_line : Bool → ℕ → Label → List ℕ
label_line fitness number label = label_front number label.state ++ label_rest fitness label.state
    ++ line (32 ∷ whole_text label.cost)

-- labels in lines, numbered from this number on
abbrev pub labels_from : Bool → ℕ → List Label → List ℕ
labels_from fitness number [] = []
labels_from fitness number (label ∷ labels) = label_line fitness number label ++ labels_from fitness (number + 1) labels

-- how many labels follow, and whether their fitness is told
unfoldable pub labels_line : Bool → ℕ → List ℕ
labels_line fitness count = codes "labels " ++ decimal count ++ line (if fitness then codes " fitness" else [])

-- the number of the labels, and each in a line of its own, numbered from 1
abbrev pub label_text : Bool → List Label → List ℕ
label_text fitness labels = labels_line fitness (length labels) ++ labels_from fitness 1 labels
