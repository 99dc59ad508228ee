use Rattle.std.proofs.Common.{◌∙◌, ap, take}
use Rattle.pg_drawing.specs.Pieces.{begins, texts}
use Rattle.pg_drawing.proofs.PieceLemmas.{counted_inside}
use Rattle.pg_drawing.proofs.pieces.front.Goals as goal

pub returns : goal.returns
returns c =
    ap (λ n. texts (take n c.args.lines.now)) c.count_inside.ensures.count
    ∙ counted_inside (begins c.args.kind) c.args.lines.now
