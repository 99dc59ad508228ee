use Rattle.std.proofs.Common.{rules, ◌∙◌, ap, Some}
use Rattle.pg_floats.proofs.AreaSums.{count_none, count_some}
use Rattle.pg_floats.proofs.list.FloatList.count.Goals as goal

pub returns-in-None-clause-value : goal.returns-in-None-clause-value
returns-in-None-clause-value c = λ blocks style are.
    count_none blocks style c.args.self.now c.args.placed.now c.args.counts.now are c.in-None.ensures

pub returns-in-Some-clause-value : goal.returns-in-Some-clause-value
returns-in-Some-clause-value c = λ blocks style are.
    ap Some (search rules)
    ∙ count_some blocks style c.args.self.now c.args.placed.now c.args.counts.now c.in-Some.dealt are c.in-Some.ensures
