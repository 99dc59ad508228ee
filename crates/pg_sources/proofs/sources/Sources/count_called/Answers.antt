use Rattle.std.proofs.Common.{◌≤◌, ◌^◌, subst, sym, ℕ}
use Rattle.pg_sources.proofs.CalledFew.{calls_few}
use Rattle.pg_sources.proofs.sources.Sources.count_called.Goals as goal

pub returns-clause-value : goal.returns-clause-value
returns-clause-value c = c.called.ensures c.args.self.now.style.now c.args.self.now.list.floats

pub returns-clause-few : goal.returns-clause-few
returns-clause-few c = subst (λ (n : ℕ). n ≤ 2 ^ 12)
    (sym (c.called.ensures c.args.self.now.style.now c.args.self.now.list.floats))
    (calls_few c.args.self.now.galley.now.blocks c.args.self.now.style.now c.args.self.now.floats.now
    c.args.self.now.list c.args.place c.args.slot)
