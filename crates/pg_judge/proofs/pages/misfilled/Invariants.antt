use Rattle.std.proofs.Common.{◌≡◌, length, take}
use Rattle.std.specs.Prelude.{reverse}
use Rattle.pg_plan.specs.Order.{columns_of}
use Rattle.pg_rules.specs.Legal.{misfilled, underfilled}
use Rattle.pg_judge.proofs.pages.misfilled.Given as goal

abbrev pub invariant-loop-page : goal.invariant-loop-page
invariant-loop-page l = record {
  under : l.under ≡ underfilled l.full (reverse (take l.page-index l.pages));
  found : l.found ≡ misfilled l.full (reverse (take l.page-index l.pages));
  count : l.count ≡ length (columns_of (reverse (take l.page-index l.pages)));
}
