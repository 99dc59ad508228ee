use Rattle.std.proofs.Common.{◌∙◌, arith, sym}
use Rattle.pg_candidates.proofs.Putting.{all_before}
use Rattle.pg_candidates.proofs.best.is_behind_all.Goals as goal

pub returns : goal.returns
returns c = λ t by. all_before c.args.end.now c.args.ends.now _ (omega (arith, c.if-count-eq0.false))
    (sym c.is_before.ensures ∙ t) by
