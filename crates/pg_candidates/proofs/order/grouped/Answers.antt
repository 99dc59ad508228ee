use Rattle.std.proofs.Common.{subst, ℕ}
use Rattle.pg_candidates.specs.Groups.{IsAdded, indices_in}
use Rattle.pg_candidates.proofs.Ordered.{one_added}
use Rattle.pg_candidates.proofs.order.grouped.Goals as goal

pub loop-at-preserved : goal.loop-at-preserved
loop-at-preserved c =
    let old = indices_in c.loop-at.groups.items in
    let new = indices_in c.add.new.groups.items in
    record {
      among = one_added old new c.loop-at.at c.loop-at.invariant.among
          (subst (λ (at : ℕ). IsAdded at old new) c.with_rank-it.ensures c.in_ok-hint.ensures);
    }
