-- The labels of one key.
use Rattle.std.specs.Prelude.{List}
use Rattle.pg_table.specs.declared.table.Entry.{Entry}

-- labels of one key, in the order of their places
pub record Labels (S M : Type 0) : Type 0 where
  pub items : List (Entry S M)
