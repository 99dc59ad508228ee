use Rattle.std.proofs.Common.{rules}
use Rattle.pg_style.proofs.DistanceLemmas.{copied_in, is_distance}
use Rattle.pg_style.proofs.distance.Distance.new.Goals as goal

pub invariant_of-result : goal.invariant_of-result
invariant_of-result c =
    copied_in c.args.entries.now c.copy_from_slice.new.self c.copy_from_slice.ensures.after (is_distance c.args.entries.now (search rules) (search rules))
