-- The counts of a list, in place or on the heap.
use Rattle.std.specs.Prelude.{ℕ, List}
use Rattle.pg_plan.specs.declared.counts.KeptCounts.{KeptCounts}
use Rattle.pg_plan.specs.declared.counts.KeptCounts.TheVariants.{Few, Many}

-- the counts themselves
abbrev pub counts_kept : KeptCounts → List ℕ
counts_kept (Few few) = few
counts_kept (Many many) = many.items
