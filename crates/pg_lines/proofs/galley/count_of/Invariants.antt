use Rattle.std.proofs.Common.{◌≡◌, ◌+◌, length}
use Rattle.pg_list.specs.Counts.{block_size}
use Rattle.pg_list.specs.declared.blocks.Block.TheVariants.{Choice}
use Rattle.pg_lines.proofs.galley.count_of.Given as goal

abbrev pub invariant-variants : goal.invariant-variants
invariant-variants l = l.count + block_size (Choice l.rest) ≡ block_size (Choice l.variants)

abbrev pub decreases-variants : goal.decreases-variants
decreases-variants l = length l.rest
