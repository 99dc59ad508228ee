-- Lists of steps from which some that are spared were left out.
use Rattle.std.specs.Prelude.{◌≡◌, ◌⊎◌, Bool, true, List, [], ◌∷◌, ◌++◌, ℤ}
use Rattle.pg_table.specs.declared.step.Step.{Step}

-- the kept steps are all of these in order, but for some that are spared
abbrev pub Thins : {S M : Type 0} → (S → ℤ → Bool) → List (Step S M) → List (Step S M) → Type 0
Thins spared kept [] = kept ≡ []
Thins {S} {M} spared kept (step ∷ all) =
    ((more : List (Step S M)) × ((kept ≡ step ∷ more) × Thins spared more all))
    ⊎ ((spared step.to step.cost ≡ true) × Thins spared kept all)

-- to the old steps all of these were added, but for some that are spared
pub record Adds {S M : Type 0} (spared : S → ℤ → Bool) (old all new : List (Step S M)) : Type 0 where
  pub kept : List (Step S M)
  pub is : new ≡ old ++ kept
  pub thins : Thins spared kept all
