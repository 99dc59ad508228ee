use Rattle.std.proofs.Common.{◌≡◌, ◌+◌, ◌*◌, ◌≤◌, ◌^◌, length}
use Rattle.std.specs.Prelude.{◌+ℤ◌, nat_abs}
use Rattle.pg_list.specs.Whole.{whole_sum_by}
use Rattle.pg_style.specs.declared.style.Class.{Class}
use Rattle.pg_rules.specs.Floats.{gap_shrink}
use Rattle.pg_rules.specs.Reach.{skip_give}
use Rattle.pg_walk.proofs.give.skips_give.Given as goal

abbrev pub invariant-classes : goal.invariant-classes
invariant-classes l = record {
  shrink : l.give.shrink +ℤ whole_sum_by (λ (class : Class). skip_give gap_shrink class.kind) l.rest
      ≡ whole_sum_by (λ (class : Class). skip_give gap_shrink class.kind) l.classes;
  stretch_few : nat_abs l.give.stretch + 2 ^ 31 * length l.rest ≤ 2 ^ 34;
  shrink_few : nat_abs l.give.shrink + 2 ^ 31 * length l.rest ≤ 2 ^ 34;
}

abbrev pub decreases-classes : goal.decreases-classes
decreases-classes l = length l.rest
