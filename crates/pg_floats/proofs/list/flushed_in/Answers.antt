use Rattle.std.proofs.Common.{◌≡◌, ◌∙◌, ◌≤◌, ap, subst, length, List, true, false, arith}
use Rattle.std.specs.Prelude.{nat_lt}
use Rattle.std.specs.List.Sorted.{IsPartitionedBy, IsPartitionPoint}
use Rattle.pg_floats.specs.declared.callouts.Callout.{Callout}
use Rattle.pg_floats.specs.FloatsValue.{ClassFloatsValue}
use Rattle.pg_floats.specs.Callouts.{callouts_from, no_barrier}
use Rattle.pg_floats.proofs.Flushed.{flushed_is}
use Rattle.pg_floats.proofs.list.flushed_in.Goals as goal

pub returns-clause-value : goal.returns-clause-value
returns-clause-value c = λ blocks number all own.
    let P : List Callout → Type 0 = λ xs.
    IsPartitionedBy (λ (callout : Callout). nat_lt callout.barrier c.args.block) xs →
    IsPartitionPoint (λ (callout : Callout). nat_lt callout.barrier c.args.block ≡ true)
    (λ (callout : Callout). nat_lt callout.barrier c.args.block ≡ false) xs c.flushed_above.result in
    let Q : List Callout → Type 0 = λ xs. c.flushed_above.result ≤ length xs in
    let same : c.as_slice.result.now ≡ callouts_from number no_barrier 0 blocks =
    c.as_slice.ensures.items ∙ ap (λ (v : ClassFloatsValue). v.callouts) (c.floats.view_is ∙ own) in
    let most : c.args.block ≤ no_barrier = omega arith in
    flushed_is number no_barrier c.args.block c.flushed_above.result blocks most all
    (subst Q same c.flushed_above.ensures.within) (subst P same c.flushed_above.ensures.point)
