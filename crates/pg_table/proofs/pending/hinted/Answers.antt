use Rattle.pg_table.proofs.Hinted.{found_at, held_in}
use Rattle.pg_table.proofs.pending.hinted.Goals as goal

pub returns : goal.returns
returns g c =
    held_in c.args.pending.now.buckets.items c.in_ok-hint.hint.place c.in_ok-hint.hint.index c.in_ok-bucket.bucket.now c.get-3.result
    (found_at _ _ _ _ c.deref.ensures.value c.in_ok-bucket.ensures.lookup.0 c.in_ok-bucket.ensures.lookup.1) c.get-3.ensures.label
