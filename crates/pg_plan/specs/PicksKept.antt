-- The picks of a list, in place or on the heap.
use Rattle.std.specs.Prelude.{ℕ, List}
use Rattle.pg_plan.specs.declared.picks.KeptPicks.{KeptPicks}
use Rattle.pg_plan.specs.declared.picks.KeptPicks.TheVariants.{Few, Many}

-- the picks themselves
abbrev pub picks_kept : KeptPicks → List ℕ
picks_kept (Few few) = few
picks_kept (Many many) = many.items
