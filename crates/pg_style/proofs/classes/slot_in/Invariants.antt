use Rattle.std.proofs.Common.{◌≡◌, ◌+◌, ◌≤◌, ℕ, length}
use Rattle.std.specs.Prelude.{◌==◌}
use Rattle.std.specs.List.{position_from}
use Rattle.pg_style.specs.Classes.{float_numbers_of}
use Rattle.pg_style.proofs.classes.slot_in.Given as goal

abbrev pub invariant-classes : goal.invariant-classes
invariant-classes l = record {
  same : position_from (λ (n : ℕ). n == l.number) 0 (float_numbers_of l.classes) ≡ position_from (λ (n : ℕ). n == l.number) l.slot (float_numbers_of l.rest);
  within : l.slot + length l.rest ≤ length l.classes;
}

abbrev pub decreases-classes : goal.decreases-classes
decreases-classes l = length l.rest
