use Rattle.std.proofs.Common.{◌∙◌, refl}
use Rattle.pg_states.proofs.Fresh.{line_pays}
use Rattle.pg_states.proofs.lines.Line.price.Goals as goal

pub returns-clause-value : goal.returns-clause-value
returns-clause-value c = line_pays c.args.table.now c.args.self.now.waited.now c.front.result.now c.args.self.now.fresh
    c.args.count c.price_of-waited.result c.fresh_among.result c.from.result _ c.price_of-waited.ensures.value
    c.front.ensures c.fresh_among.ensures (c.from.ensures ∙ c.price_at.ensures) refl
