-- What is told of columns adds up to the parts of their cost.
use Rattle.std.proofs.Common.{◌≡◌, refl, sym, ap, ◌∙◌, arith, List, [], ◌∷◌, true, false, Bool, ℕ}
use Rattle.std.specs.Prelude.{ℤ, pos, ◌+◌, ◌+ℤ◌, ◌-ℤ◌, if◌then◌else◌, Option, Some, None, reverse}
use Rattle.std.specs.Option.{option_map_or}
use Rattle.std.proofs.lemmas.Int.{ints}
use Rattle.pg_lemmas.proofs.Lists.{reverse_cons}
use Rattle.law_places.proofs.Among.{sum_append}
use Rattle.pg_list.specs.Whole.{square}
use Rattle.pg_plan.specs.declared.pages.PageMove.{PageMove}
use Rattle.pg_column.specs.Numbers.{AreNumbers}
use Rattle.pg_column.specs.declared.cost.TextCost.{TextCost}
use Rattle.pg_rules.specs.ColumnRules.{text_badness}
use Rattle.pg_rules.specs.Cost.{text_demerits}
use Rattle.pg_rules.specs.History.{context}
use Rattle.pg_rules.specs.Room.{Document, ColumnContext, is_text, size_of}
use Rattle.pg_parts.specs.Parts.{of_text, part_of, part_sum}
use Rattle.pg_parts.specs.Priced.{ArePriced, HasNumbers, IsPriced, amount_of, amounts}
use Rattle.pg_parts.specs.declared.part.Part.{Part}
use Rattle.pg_parts.specs.declared.part.Part.TheVariants.{Line, Badness, Penalties, Empty, Picks, Runs, Floats, Fitness}
use Rattle.pg_parts.specs.declared.priced.PricedColumn.{PricedColumn}

-- what is read of the numbers of a text is what the rules have for it
by_numbers : (it : ColumnContext) (o : Option TextCost) (f : TextCost → ℤ) (part : ℕ → ℤ) → HasNumbers it o →
    ((text : TextCost) (n : ℕ) → AreNumbers it n text → f text ≡ part n) →
    option_map_or f o (pos 0) ≡ of_text it part
by_numbers it None f part none each =
    sym (ap (λ (t : Bool). if t then option_map_or part (size_of it) (pos 0) else pos 0) none)
by_numbers it (Some text) f part (is, (n, (size, are))) each =
    each text n are
    ∙ sym (ap (λ (t : Bool). if t then option_map_or part (size_of it) (pos 0) else pos 0) is
    ∙ ap (λ (o : Option ℕ). option_map_or part o (pos 0)) size)

less : (d e a b : ℤ) → d ≡ e → a ≡ b → d -ℤ a ≡ e -ℤ b
less d e a b p q = cc

priced_empty : (t : Bool) (n : ℕ) → pos (if t then 0 else n) ≡ (if t then pos 0 else pos n)
priced_empty true n = refl
priced_empty false n = refl

module _ (doc : Document) (m : PageMove) (ms : List PageMove) (it : PricedColumn) (is : IsPriced doc m ms it) where
  squares : (text : TextCost) (n : ℕ) → AreNumbers (context doc m ms) n text →
      square (pos (it.line + text.badness)) ≡ square (pos (doc.style.line + text_badness (context doc m ms) n))
  squares text n are = ap (λ (k : ℕ). square (pos (k + text.badness))) is.line
      ∙ ap (λ (k : ℕ). square (pos (doc.style.line + k))) are.badness

  pub amount_is : (part : Part) → amount_of it part ≡ part_of doc m ms part
  amount_is Line = by_numbers (context doc m ms) it.text _ _ is.text
      (λ text n are. ap (λ (k : ℕ). square (pos k)) is.line)
  amount_is Badness = by_numbers (context doc m ms) it.text _ _ is.text
      (λ text n are. ap (λ (z : ℤ). z -ℤ square (pos it.line)) (squares text n are)
      ∙ ap (λ (k : ℕ). square (pos (doc.style.line + text_badness (context doc m ms) n)) -ℤ square (pos k)) is.line)
  amount_is Penalties = by_numbers (context doc m ms) it.text _ _ is.text
      (λ text n are. less text.demerits (text_demerits (context doc m ms) n) (square (pos (it.line + text.badness)))
      (square (pos (doc.style.line + text_badness (context doc m ms) n))) are.demerits (squares text n are))
  amount_is Empty = ap pos is.empty ∙ priced_empty (is_text (context doc m ms)) doc.style.float_column.demerits
  amount_is Picks = is.picks
  amount_is Runs = is.run
  amount_is Floats = is.floats
  amount_is Fitness = is.fitness

turned : (a b c d : ℤ) → a ≡ c → b ≡ d → a +ℤ b ≡ d +ℤ c
turned a b c d e f = omega (arith, ints)

from_last : (doc : Document) (ms : List PageMove) (columns : List PricedColumn) (part : Part) → ArePriced doc ms columns →
    amounts columns part ≡ part_sum doc ms part
from_last doc [] [] part are = refl
from_last doc (m ∷ ms) (it ∷ columns) part (is, are) = turned (amount_of it part) (amounts columns part)
    (part_of doc m ms part) (part_sum doc ms part) (amount_is doc m ms it is part) (from_last doc ms columns part are)
from_last doc [] (it ∷ columns) part are = absurd are
from_last doc (m ∷ ms) [] part are = absurd are

turned_round : (columns : List PricedColumn) (part : Part) → amounts (reverse columns) part ≡ amounts columns part
turned_round [] part = refl
turned_round (it ∷ columns) part = ap (λ (xs : List PricedColumn). amounts xs part) (reverse_cons it columns)
    ∙ (sum_append (λ (column : PricedColumn). amount_of column part) (reverse columns) (it ∷ [])
    ∙ swapped (amounts (reverse columns) part) (amounts columns part) (amount_of it part) (turned_round columns part))
  where
    swapped : (a b c : ℤ) → a ≡ b → a +ℤ (c +ℤ pos 0) ≡ c +ℤ b
    swapped a b c e = omega (arith, ints)

pub columns_sum : (doc : Document) (ms : List PageMove) (columns : List PricedColumn) (part : Part) →
    ArePriced doc ms (reverse columns) → amounts columns part ≡ part_sum doc ms part
columns_sum doc ms columns part are = sym (turned_round columns part) ∙ from_last doc ms (reverse columns) part are
