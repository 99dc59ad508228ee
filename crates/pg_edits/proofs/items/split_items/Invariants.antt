use Rattle.std.proofs.Common.{List, ℕ, length}
use Rattle.pg_edits.proofs.ItemLines.{IsCut}
use Rattle.pg_edits.proofs.items.split_items.Given as goal

abbrev pub invariant-items : goal.invariant-items
invariant-items l = (front : List ℕ) × IsCut l.text front l.rest l.count

abbrev pub decreases-items : goal.decreases-items
decreases-items l = length l.rest
