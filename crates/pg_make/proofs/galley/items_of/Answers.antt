use Rattle.std.proofs.Common.{arith}
use Rattle.pg_make.specs.Generated.{made_line}
use Rattle.pg_make.proofs.Paragraphs.{one_behind}
use Rattle.pg_make.proofs.galley.items_of.Goals as goal

pub lines-preserved : goal.lines-preserved
lines-preserved c = one_behind (made_line c.args.paragraph c.args.count) 1 c.lines.line _ _ _ c.lines.invariant
    c.in_ok-push_line.ensures (omega arith)
