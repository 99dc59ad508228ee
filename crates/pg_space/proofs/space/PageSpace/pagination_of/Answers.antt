use Rattle.std.proofs.Common.{rules, ◌≡◌}
use Rattle.pg_space.specs.Paged.{paged}
use Rattle.pg_space.proofs.Paged.{plan_is}
use Rattle.pg_space.proofs.space.PageSpace.pagination_of.Goals as goal

pub returns : goal.returns
returns c = plan_is c.args.self.now.sources.style.now c.columns_are_paged.ensures c.args.moves.now c.in_ok-pages_of.field-0
    (let e : c.in_ok-pages_of.field-0 ≡ paged c.args.self.now.sources.style.now.columns c.args.moves.now = search rules in e)
