-- What a state holds beside numbers stands for, kept in few bytes or on the heap.
use Rattle.std.specs.Prelude.{ℕ, ℤ, List, take, Option, None}
use Rattle.pg_small.specs.declared.rest.Rest.{Rest}
use Rattle.pg_small.specs.declared.rest.Rest.TheVariants.{Few, Many}

-- the wide area: there is none in few bytes
abbrev pub wide_kept : Rest → Option ℤ
wide_kept (Few few) = None
wide_kept (Many many) = many.value.wide

-- how many floats of each class are placed
abbrev pub placed_kept : Rest → List ℕ
placed_kept (Few few) = take few.count few.placed
placed_kept (Many many) = many.value.placed

-- the ages of the waiting floats
abbrev pub ages_kept : Rest → List ℕ
ages_kept (Few few) = take few.waiting few.ages
ages_kept (Many many) = many.value.ages
