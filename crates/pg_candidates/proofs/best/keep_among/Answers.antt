use Rattle.std.proofs.Common.{List, subst}
use Rattle.std.specs.List.Sorted.{IsPartitionedBy}
use Rattle.pg_candidates.specs.Spots.{is_before}
use Rattle.pg_candidates.specs.declared.room_end.RoomEnd.{RoomEnd}
use Rattle.pg_candidates.proofs.Putting.{Point}
use Rattle.pg_candidates.proofs.best.keep_among.Goals as goal

pub put_in-requires-clause-point : goal.put_in-requires-clause-point
put_in-requires-clause-point c =
    let own = c.args.end in
    subst (λ (fs : List RoomEnd). IsPartitionedBy (λ f. is_before f own) fs → Point own fs c.count_before-at.result)
    c.as_slice.ensures.value c.count_before-at.ensures.point
