-- The lists of counts, one in place or any on the heap.
use Rattle.std.specs.Prelude.{ℕ, List, [], ◌∷◌}
use Rattle.pg_layouts.specs.declared.lists.KeptLists.{KeptLists}
use Rattle.pg_layouts.specs.declared.lists.KeptLists.TheVariants.{One, Many}

-- the lists themselves
abbrev pub lists_kept : KeptLists → List (List ℕ)
lists_kept (One counts) = counts ∷ []
lists_kept (Many lists) = lists.items
