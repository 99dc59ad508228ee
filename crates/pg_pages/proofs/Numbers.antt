-- The line of a column's numbers.
use Rattle.std.proofs.Common.{◌≡◌, refl, ℕ}
use Rattle.pg_rules.specs.ColumnRules.{text_badness, text_goal, text_total}
use Rattle.pg_rules.specs.Cost.{text_demerits}
use Rattle.pg_rules.specs.Room.{ColumnContext}
use Rattle.pg_column.specs.declared.cost.TextCost.{TextCost}
use Rattle.pg_pages.specs.PageText.{end_penalty, set_line}
use Rattle.pg_pages.specs.Printed.{numbers_text}

-- the line of a column's numbers, from the numbers
pub printed : (it : ColumnContext) (n : ℕ) (c : TextCost) → c.goal ≡ text_goal it n → c.total ≡ text_total it n →
    c.badness ≡ text_badness it n → c.penalty ≡ end_penalty it n → c.demerits ≡ text_demerits it n →
    numbers_text c ≡ set_line it n
unfolding set_line numbers_text
printed it n c g t b p d = rw (g, t, b, p, d) refl
