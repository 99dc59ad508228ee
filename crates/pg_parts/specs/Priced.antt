-- What is told of the columns of a pagination: their numbers, and what each adds to the cost.
use Rattle.std.specs.Prelude.{◌≡◌, ◌+◌, ℕ, if◌then◌else◌, true, false, List, [], ◌∷◌, ℤ, pos, ◌-ℤ◌, Option, Some, None, Result, Ok, Err}
use Rattle.std.specs.Option.{option_map_or}
use Rattle.pg_list.specs.Whole.{square, whole_sum_by}
use Rattle.pg_plan.specs.declared.pages.PageMove.{PageMove}
use Rattle.pg_column.specs.Judged.{text_fault}
use Rattle.pg_column.specs.Numbers.{AreNumbers}
use Rattle.pg_column.specs.declared.cost.TextCost.{TextCost}
use Rattle.pg_judge.specs.declared.moves.MoveCost.{MoveCost}
use Rattle.pg_rules.specs.Cost.{pick_demerits}
use Rattle.pg_rules.specs.History.{context, next_column, next_page}
use Rattle.pg_rules.specs.Room.{ColumnContext, Document, is_text, size_of}
use Rattle.pg_parts.specs.Parts.{fitness_part, float_part, run_part}
use Rattle.pg_parts.specs.declared.part.Part.{Part}
use Rattle.pg_parts.specs.declared.part.Part.TheVariants.{Line, Badness, Penalties, Empty, Picks, Runs, Floats, Fitness}
use Rattle.pg_parts.specs.declared.priced.PricedColumn.{PricedColumn}

-- ---- from what is kept of a column

-- what a column has for its text, and nothing where it has none
abbrev pub on_text : PricedColumn → (TextCost → ℤ) → ℤ
on_text it part = option_map_or part it.text (pos 0)

-- what a column adds to a part
abbrev pub amount_of : PricedColumn → Part → ℤ
amount_of it Line = on_text it (λ (text : TextCost). square (pos it.line))
amount_of it Badness = on_text it (λ (text : TextCost). square (pos (it.line + text.badness)) -ℤ square (pos it.line))
amount_of it Penalties = on_text it (λ (text : TextCost). text.demerits -ℤ square (pos (it.line + text.badness)))
amount_of it Empty = pos it.empty
amount_of it Picks = pos it.picks
amount_of it Runs = pos it.run
amount_of it Floats = pos it.floats
amount_of it Fitness = pos it.fitness

-- what columns add to a part
abbrev pub amounts : List PricedColumn → Part → ℤ
amounts columns part = whole_sum_by (λ (it : PricedColumn). amount_of it part) columns

-- ---- by the rules

-- the numbers of a column of text, and none of one without
abbrev pub HasNumbers : ColumnContext → Option TextCost → Type 0
HasNumbers it None = is_text it ≡ false
HasNumbers it (Some numbers) = (is_text it ≡ true) × ((n : ℕ) × ((size_of it ≡ Some n) × AreNumbers it n numbers))

-- the same of a column that breaks no rule on its text
abbrev pub TellsText : ColumnContext → Option TextCost → Type 0
TellsText it told = text_fault it ≡ None → HasNumbers it told

-- what a column with no fault pays for its floats
abbrev pub price_in : Result MoveCost ℕ → ℕ
price_in (Ok it) = it.price
price_in (Err rule) = 0

-- a column behind others: its page and number, where it stands, its numbers, and what it adds to the cost
pub record IsPriced (doc : Document) (m : PageMove) (ms : List PageMove) (it : PricedColumn) : Type 0 where
  pub page : it.page ≡ next_page doc.style ms
  pub column : it.column ≡ next_column doc.style ms
  pub from : it.from ≡ m.column.from
  pub to : it.to ≡ m.column.to
  pub text : HasNumbers (context doc m ms) it.text
  pub line : it.line ≡ doc.style.line
  pub empty : it.empty ≡ (if is_text (context doc m ms) then 0 else doc.style.float_column.demerits)
  pub picks : pos it.picks ≡ pick_demerits (context doc m ms)
  pub run : pos it.run ≡ run_part doc m ms
  pub floats : pos it.floats ≡ float_part doc m ms
  pub fitness : pos it.fitness ≡ fitness_part doc m ms

-- each of these columns, from the last to the first
abbrev pub ArePriced : Document → List PageMove → List PricedColumn → Type 0
ArePriced doc [] [] = Unit {0}
ArePriced doc (m ∷ ms) (it ∷ columns) = IsPriced doc m ms it × ArePriced doc ms columns
ArePriced doc _ _ = ⊥
