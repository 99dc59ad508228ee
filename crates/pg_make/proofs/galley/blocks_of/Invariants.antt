use Rattle.std.proofs.Common.{◌≡◌}
use Rattle.pg_make.specs.Generated.{made_blocks}
use Rattle.pg_make.proofs.galley.blocks_of.Given as goal

abbrev pub invariant-paragraphs : goal.invariant-paragraphs
invariant-paragraphs l = l.blocks ≡ made_blocks l.paragraph
