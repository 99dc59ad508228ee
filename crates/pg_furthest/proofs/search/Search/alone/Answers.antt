use Rattle.std.proofs.Common.{subst}
use Rattle.pg_alone.specs.Alone.{FindsAlone}
use Rattle.pg_furthest.specs.Searches.{SearchValue}
use Rattle.pg_furthest.proofs.search.Search.alone.Goals as goal

pub returns : goal.returns
returns c = subst (λ (x : SearchValue). FindsAlone x.galley x.style c.first_alone.result) c.self.view_is
    c.first_alone.ensures
