use Rattle.std.proofs.Common.{rules}
use Rattle.std.specs.Prelude.{nat_lt}
use Rattle.std.proofs.lemmas.List.Sorted.{IsPartitionPoint-from_clause}
use Rattle.pg_floats.specs.declared.callouts.Callout.{Callout}
use Rattle.pg_floats.proofs.list.flushed_above.Goals as goal

pub returns-clause-point : goal.returns-clause-point
returns-clause-point c =
    λ parted. IsPartitionPoint-from_clause
    (λ (callout : Callout). nat_lt callout.barrier c.args.block) c.args.callouts.now c.partition_point.result
    c.partition_point.ensures.partitioned parted (λ a r f' called. search rules)
