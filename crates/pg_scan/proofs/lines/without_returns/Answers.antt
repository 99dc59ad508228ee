use Rattle.std.proofs.Common.{◌∙◌, sym, arith, ◌-◌, refl}
use Rattle.pg_scan.proofs.LineLemmas.{less_return, at_byte, none_left}
use Rattle.pg_scan.proofs.lines.without_returns.Goals as goal

pub returns-preserved : goal.returns-preserved
returns-preserved c = record {
  trimmed = less_return c.args.line.now c.returns.len
      (c.returns.len - 1) c.returns-test.true c.returns.invariant.within refl c.if-line-len-ne13.false
      ∙ c.returns.invariant.trimmed;
  within = omega arith;
}

pub returns-then-line-len-ne13 : goal.returns-then-line-len-ne13
returns-then-line-len-ne13 c =
    sym (at_byte c.args.line.now c.returns.len (c.returns.len - 1) c.returns-test.true c.returns.invariant.within refl
    c.if-line-len-ne13.true) ∙ c.returns.invariant.trimmed

pub returns : goal.returns
returns c = sym (none_left c.args.line.now c.returns.len (omega arith)) ∙ c.returns.invariant.trimmed
