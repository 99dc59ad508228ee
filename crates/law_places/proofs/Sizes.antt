-- The sizes of a class of floats.
use Rattle.std.proofs.Common.{◌≡◌, ◌≤◌, ℕ, suc, List, [], ◌∷◌, length, arith}
use Rattle.std.specs.Prelude.{ℤ, Option, Some, None}
use Rattle.std.specs.List.{cons_option}
use Rattle.pg_list.specs.declared.item.Item.{Item}
use Rattle.pg_rules.specs.Floats.{sizes_of, insert_size}

-- items hold no more floats than they are
pub sizes_few : (number : ℕ) (items : List Item) → length (sizes_of number items) ≤ length items
sizes_few number [] = omega arith
sizes_few number (item ∷ items) = by (insert_size number item) (sizes_of number items) (sizes_few number items)
  where
    by : (o : Option ℤ) (xs : List ℤ) → length xs ≤ length items → length (cons_option o xs) ≤ suc (length items)
    by None xs h = omega arith
    by (Some z) xs h = omega arith
