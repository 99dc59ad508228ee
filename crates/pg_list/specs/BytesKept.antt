-- The bytes that are kept, in place or on the heap.
use Rattle.std.specs.Prelude.{ℕ, List}
use Rattle.pg_list.specs.declared.bytes.KeptBytes.{KeptBytes}
use Rattle.pg_list.specs.declared.bytes.KeptBytes.TheVariants.{Few, Many}

-- the bytes themselves
abbrev pub bytes_kept : KeptBytes → List ℕ
bytes_kept (Few few) = few
bytes_kept (Many many) = many.items
