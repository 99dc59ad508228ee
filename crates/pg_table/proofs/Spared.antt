-- Moves that are all wanted.
use Rattle.std.proofs.Common.{◌≡◌, ◌⊎◌, inl, inr, Bool, List, true}
use Rattle.std.specs.Prelude.{ℤ, Contains}
use Rattle.pg_table.specs.Space.{Meaning, AreMoves, AreWanted}
use Rattle.pg_table.specs.declared.step.Step.{Step}

-- where no move is spared, the wanted ones are all
pub all_wanted : {S M K : Type 0} (sp : Meaning S M K) (u : S) (spared : S → ℤ → Bool) (steps : List (Step S M)) →
    ((v : S) (c : ℤ) → spared v c ≡ true → ⊥) → AreWanted sp u spared steps → AreMoves sp u steps
all_wanted {S} {M} sp u spared steps none wanted = record {
  sound = wanted.sound;
  whole = λ m v c follow. by m v c (wanted.whole m v c follow);
  once = wanted.once;
}
  where
    by : (m : M) (v : S) (c : ℤ) → Contains steps (record { to = v; by = m; cost = c }) ⊎ (spared v c ≡ true) →
        Contains steps (record { to = v; by = m; cost = c })
    by m v c (inl at) = at
    by m v c (inr h) = absurd (none v c h)
