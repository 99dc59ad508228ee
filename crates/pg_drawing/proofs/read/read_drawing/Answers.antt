use Rattle.std.proofs.Common.{rules, ◌≡◌, sym, subst, IfOk}
use Rattle.std.proofs.lemmas.Result.{IfOk-weaker}
use Rattle.pg_drawing.specs.Drawn.{drawing_of}
use Rattle.pg_drawing.specs.Laws.{IsFaithfulDrawing}
use Rattle.pg_drawing.proofs.Faithful.{text_is_faithful}
use Rattle.pg_drawing.proofs.read.read_drawing.Goals as goal

pub returns-clause-faithful : goal.returns-clause-faithful
returns-clause-faithful c =
    let drawn : IfOk c.read_lines.result (λ drawing. drawing ≡ drawing_of c.args.text.now) = search rules in
    IfOk-weaker c.read_lines.result (λ drawing. drawing ≡ drawing_of c.args.text.now) IsFaithfulDrawing
    (λ drawing same. subst IsFaithfulDrawing (sym same) (text_is_faithful c.args.text.now)) drawn
