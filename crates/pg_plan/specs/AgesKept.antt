-- The ages of a list, in place or on the heap.
use Rattle.std.specs.Prelude.{ℕ, List}
use Rattle.pg_plan.specs.declared.ages.KeptAges.{KeptAges}
use Rattle.pg_plan.specs.declared.ages.KeptAges.TheVariants.{Few, Many}

-- the ages themselves
abbrev pub ages_kept : KeptAges → List ℕ
ages_kept (Few few) = few
ages_kept (Many many) = many.items
