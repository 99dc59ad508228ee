use Rattle.std.proofs.Common.{◌∙◌, sym, false}
use Rattle.pg_scan.proofs.LineLemmas.{first_part}
use Rattle.pg_scan.proofs.lines.whole_line.Goals as goal

pub returns-clause-line : goal.returns-clause-line
returns-clause-line c = λ number. first_part c.args.wrap number c.args.text.now c.in_ok-part.after.now
    c.in_ok-part.part.now c.without_returns-line.result.now false c.in_ok-part.ensures.lines
    c.without_returns-line.ensures (sym c.if-is_full.false ∙ c.is_full.ensures)
