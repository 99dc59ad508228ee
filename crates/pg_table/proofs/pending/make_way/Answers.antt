use Rattle.pg_table.proofs.Prune.{pruned_out, pruned_in}
use Rattle.pg_table.proofs.pending.make_way.Goals as goal

pub returns-in-Some-clause-some : goal.returns-in-Some-clause-some
returns-in-Some-clause-some g c =
    pruned_out _ _ (g.met.S.Space.lawful c.args.space.now) c.args.entries.now c.args.label.now c.args.pending.now.items c.requires.pending
    c.in-Some.ensures.some

pub returns-clause-none : goal.returns-clause-none
returns-clause-none g c =
    pruned_in _ _ (g.met.S.Space.lawful c.args.space.now) c.args.entries.now c.args.label.now c.args.pending.now.items c.drop_bettered.new.pending.items c.requires.pending c.requires.label c.in_default.ensures.none c.drop_bettered.ensures.kept c.drop_bettered.ensures.none
