use Rattle.std.proofs.Common.{◌≡◌, ◌+◌, ◌*◌, ◌≤◌, ◌^◌, length}
use Rattle.std.specs.Prelude.{◌+ℤ◌, nat_abs}
use Rattle.pg_rules.specs.Floats.{gap_stretch, gap_shrink}
use Rattle.pg_notes.specs.NotesValue.{skips_by}
use Rattle.pg_notes.proofs.sums.gives.Given as goal

abbrev pub invariant-classes : goal.invariant-classes
invariant-classes l = record {
  stretch : l.give.stretch +ℤ skips_by gap_stretch l.rest l.left ≡ skips_by gap_stretch l.classes l.sums;
  shrink : l.give.shrink +ℤ skips_by gap_shrink l.rest l.left ≡ skips_by gap_shrink l.classes l.sums;
  stretch_few : nat_abs l.give.stretch + 2 ^ 31 * length l.rest ≤ 2 ^ 34;
  shrink_few : nat_abs l.give.shrink + 2 ^ 31 * length l.rest ≤ 2 ^ 34;
}

abbrev pub decreases-classes : goal.decreases-classes
decreases-classes l = length l.rest
