-- What the lines of a label text say.
use Rattle.std.specs.Prelude.{ℕ, ◌^◌, Bool, true, false, List, ◌∷◌, decimal, codes, Option, Some, None, ℤ}
use Rattle.std.specs.Option.{option_map_or}
use Rattle.pg_labels.specs.declared.label_lines.Front.{Front}
use Rattle.pg_plan.specs.declared.states.Label.{Label}
use Rattle.pg_words.specs.InOrder.{any_word, due, next, ended, place_at}
use Rattle.pg_words.specs.Read.{◌>>=◌, numeral, number_below, numbers_word, option_word, whole_word, scaled_word, side_word, column_word}

-- whether the fitness of each label is told
abbrev pub fitness_told : List (List ℕ) → Option Bool
fitness_told words =
    option_map_or (λ it. due (codes "fitness") (it.0 ∷ it.1) >>= (λ left. ended left >>= (λ _. Some true)))
    (next any_word words) (Some false)

-- whether the fitness of each label is told, and how many labels there are, as it is spelled
unfoldable pub count_of : List (List ℕ) → Option (Bool × List ℕ)
count_of words = do
  head ← due (codes "labels") words
  count ← next numeral head
  fitness ← fitness_told count.1
  Some (fitness, count.0)

-- the fitness of a label, where it is told
abbrev pub fitness_at : Bool → List (List ℕ) → Option (Option ℕ × List (List ℕ))
fitness_at false words = Some (None, words)
fitness_at true words = next (option_word (number_below 4)) words

-- the label's number and what stands in front of the height of its wide area, and the words behind these
unfoldable pub label_front : ℕ → List (List ℕ) → Option (Front × List (List ℕ))
label_front number words = do
  head ← due (codes "label") words
  places ← due (decimal number) head
  place ← place_at places
  column ← next column_word place.1
  side ← next side_word column.1
  run ← next (option_word (number_below (2 ^ 8))) side.1
  Some (record { place = place.0; column = column.0; side = side.0; run = run.0 }, run.1)

-- the fitness and the cost of a label, and the words of its height and its lists
pub record LabelRest : Type 0 where
  pub wide : List ℕ
  pub fitness : Option ℕ
  pub placed : List ℕ
  pub ages : List ℕ
  pub cost : ℤ

-- what stands behind the front of a label, to the end of its line
unfoldable pub label_rest : Bool → List (List ℕ) → Option LabelRest
label_rest fitness words = do
  wide ← next any_word words
  fit ← fitness_at fitness wide.1
  placed ← next any_word fit.1
  ages ← next any_word placed.1
  cost ← next whole_word ages.1
  _ ← ended cost.1
  Some (record { wide = wide.0; fitness = fit.0; placed = placed.0; ages = ages.0; cost = cost.0 })

-- the label that the words say
unfoldable pub label_from : Front → LabelRest → Option Label
label_from front rest = do
  wide ← option_word scaled_word rest.wide
  placed ← numbers_word (2 ^ 16) rest.placed
  ages ← numbers_word (2 ^ 8) rest.ages
  Some (record {
    state = record {
      place = front.place;
      column = front.column;
      side = front.side;
      run = front.run;
      wide = wide;
      fitness = rest.fitness;
      placed = placed;
      ages = ages;
    };
    cost = rest.cost;
  })

-- the words of the line of the label of this number
abbrev pub label_words : Bool → ℕ → List (List ℕ) → Option (Front × LabelRest)
label_words fitness number words = label_front number words
    >>= (λ front. label_rest fitness front.1 >>= (λ rest. Some (front.0, rest)))

-- the label of this number
unfoldable pub label_of : Bool → ℕ → List (List ℕ) → Option Label
label_of fitness number words = label_words fitness number words >>= (λ it. label_from it.0 it.1)
