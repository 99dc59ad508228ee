use Rattle.std.proofs.Common.{◌∙◌, sym, subst}
use Rattle.pg_table.specs.Label.{AreLabels}
use Rattle.pg_table.proofs.BestLemmas.{best_seen, none_seen}
use Rattle.pg_table.proofs.table.Table.best.Goals as goal

pub best_of-requires : goal.best_of-requires
best_of-requires g c =
    subst (AreLabels (g.S.Space.meaning c.args.space.now)) (sym (c.as_slice.ensures.value ∙ c.self.view_is)) c.requires

pub returns-clause-some : goal.returns-clause-some
returns-clause-some g c =
    best_seen (g.S.Space.meaning c.args.space.now) c.as_slice.result.now c.args.self.now c.best_of.result
    (c.as_slice.ensures.value ∙ c.self.view_is) c.best_of.ensures

pub returns-clause-none : goal.returns-clause-none
returns-clause-none g c =
    none_seen (g.S.Space.meaning c.args.space.now) c.as_slice.result.now c.args.self.now c.best_of.result
    (c.as_slice.ensures.value ∙ c.self.view_is) c.best_of.ensures
