use Rattle.std.proofs.Common.{ap}
use Rattle.pg_style.specs.Values.{StyleValue}
use Rattle.pg_pages.specs.Gaps.{shows_gaps}
use Rattle.pg_pages.proofs.gaps.shows_gaps.Goals as goal

pub returns : goal.returns
returns c = ap (λ (style : StyleValue). shows_gaps style) c.style.view_is
