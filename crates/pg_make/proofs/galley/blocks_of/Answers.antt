use Rattle.std.proofs.Common.{arith}
use Rattle.pg_make.specs.Generated.{made_paragraph}
use Rattle.pg_make.proofs.Paragraphs.{one_behind}
use Rattle.pg_make.proofs.galley.blocks_of.Goals as goal

pub paragraphs-preserved : goal.paragraphs-preserved
paragraphs-preserved c = one_behind made_paragraph 0 c.paragraphs.paragraph _ _ _ c.paragraphs.invariant
    c.in_ok-push_paragraph.ensures (omega arith)
