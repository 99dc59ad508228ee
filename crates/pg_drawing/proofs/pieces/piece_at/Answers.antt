use Rattle.std.proofs.Common.{◌∙◌, ap, sym, take, drop}
use Rattle.pg_drawing.specs.Pieces.{begins, cut, texts}
use Rattle.pg_drawing.proofs.PieceLemmas.{counted_inside, cut_behind}
use Rattle.pg_drawing.proofs.pieces.piece_at.Goals as goal

pub returns-clause-rest : goal.returns-clause-rest
returns-clause-rest c =
    ap texts c.split_at.ensures.front
    ∙ (ap (λ n. texts (take n c.args.after.now)) c.count_inside.ensures.count
    ∙ counted_inside (begins c.args.kind) c.args.after.now)

pub returns-clause-behind : goal.returns-clause-behind
returns-clause-behind c =
    ap (λ lines. cut (begins c.args.kind) (texts lines)) c.split_at.ensures.back
    ∙ (ap (λ n. cut (begins c.args.kind) (texts (drop n c.args.after.now))) c.count_inside.ensures.count
    ∙ sym (cut_behind (begins c.args.kind) c.args.after.now))
