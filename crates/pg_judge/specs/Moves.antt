-- One column behind others: the least rule that it breaks, or what it costs.
use Rattle.std.specs.Prelude.{◌≡◌, pos, ℕ, Bool, nat_lt, ◌==◌, if◌then◌else◌, List, [], ◌∷◌, Option, Some, None, Result, Ok, Err}
use Rattle.std.specs.Option.{option_map_or, option_or}
use Rattle.pg_list.specs.declared.galley.Place.{Place}
use Rattle.pg_plan.specs.declared.pages.PageMove.{PageMove}
use Rattle.pg_style.specs.Values.{StyleValue}
use Rattle.pg_rules.specs.Cost.{differs, float_demerits}
use Rattle.pg_rules.specs.History.{context, next_column, placed_of}
use Rattle.pg_rules.specs.Legal.{added, distance, unless}
use Rattle.pg_rules.specs.Room.{Document}
use Rattle.pg_judge.specs.Judged.{IsColumnCost}
use Rattle.pg_judge.specs.Verdict.{first_false, most_tests, tests_on}
use Rattle.pg_judge.specs.declared.judged.ColumnCost.{ColumnCost}
use Rattle.pg_judge.specs.declared.moves.MoveCost.{MoveCost}

-- the verdict from that on the column by itself, that on its floats, and that on its run
abbrev pub decided : Result ColumnCost ℕ → Result ℕ ℕ → Bool → Result MoveCost ℕ
decided (Ok own) (Ok price) run = if run then Ok (record { own = own; price = price }) else Err 12
decided (Ok own) (Err rule) run = Err rule
decided (Err rule) (Ok price) run =
    if nat_lt rule 12 then Err rule else (if run then Err rule else Err 12)
decided (Err rule) (Err other) run = if nat_lt rule 7 then Err rule else Err other

-- the least rule, from the least on the column by itself and the least on its floats
abbrev pub least_rule : Option ℕ → Option ℕ → Bool → Option ℕ
least_rule None added run = option_or added (unless run 12)
least_rule (Some rule) added run =
    if nat_lt rule 7 then Some rule
    else option_or added (if nat_lt rule 12 then Some rule else option_or (unless run 12) (Some rule))

-- the places at which the pages so far ended, the last first
abbrev pub page_ends : StyleValue → List PageMove → List Place
page_ends style [] = []
page_ends style (m ∷ ms) =
    if next_column style ms == style.columns then m.column.to ∷ page_ends style ms else page_ends style ms

-- what a text of this fitness pays behind the last text before it
abbrev pub fitness_cost : StyleValue → Option ℕ → Option ℕ → ℕ
fitness_cost style last own = option_map_or (λ (a : ℕ). option_map_or
    (λ (b : ℕ). if differs a b then style.fitness else 0) own 0) last 0

-- the verdict from that on the rules before the last, and that on barriers
abbrev pub with_barriers : Result MoveCost ℕ → Bool → Result MoveCost ℕ
with_barriers (Ok it) keeps = if keeps then Ok it else Err 14
with_barriers (Err rule) keeps = Err rule

-- the cost of a column behind others, or the least rule that it breaks, by these tests of rules from 2 on
abbrev pub JudgesBy : List Bool → Document → PageMove → List PageMove → Result MoveCost ℕ → Type 0
JudgesBy tests doc m ms (Ok it) = (first_false 2 tests ≡ None) × IsColumnCost (context doc m ms) it.own
    × (pos it.price ≡ float_demerits doc.style (distance doc m ms) (added doc (placed_of doc.style ms) m))
JudgesBy tests doc m ms (Err rule) = first_false 2 tests ≡ Some rule

-- by rules 2 to 13
abbrev pub JudgesMost : Document → PageMove → List PageMove → Result MoveCost ℕ → Type 0
JudgesMost doc m ms = JudgesBy (most_tests doc m ms) doc m ms

-- by all rules but the first
abbrev pub JudgesMove : Document → PageMove → List PageMove → Result MoveCost ℕ → Type 0
JudgesMove doc m ms = JudgesBy (tests_on doc m ms) doc m ms
