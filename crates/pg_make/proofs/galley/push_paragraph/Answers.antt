use Rattle.std.proofs.Common.{ap}
use Rattle.pg_list.specs.declared.blocks.Block.TheVariants.{Choice}
use Rattle.pg_make.specs.Generated.{skip_before}
use Rattle.pg_make.proofs.Paragraphs.{list_pushed}
use Rattle.pg_make.proofs.galley.push_paragraph.Goals as goal

pub returns : goal.returns
returns c = list_pushed c.args.blocks.now c.push_skip.new.blocks c.push.new.self (skip_before c.args.paragraph)
    (Choice c.in_ok-variants.variants) _ c.in_ok-push_skip.ensures c.in_ok-push.ensures.ok
    (ap Choice c.in_ok-variants.ensures)
