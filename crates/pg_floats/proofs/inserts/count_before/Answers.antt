use Rattle.std.proofs.Common.{rules}
use Rattle.std.proofs.lemmas.List.Sorted.{IsPartitionPoint-from_clause}
use Rattle.pg_list.specs.declared.galley.Place.{Place}
use Rattle.pg_floats.specs.Places.{is_before}
use Rattle.pg_floats.proofs.inserts.count_before.Goals as goal

pub returns-clause-point : goal.returns-clause-point
returns-clause-point c =
    λ parted. IsPartitionPoint-from_clause (λ (place : Place). is_before place c.args.other) c.args.places.now
    c.partition_point.result c.partition_point.ensures.partitioned parted (λ a r f' called. search rules)
