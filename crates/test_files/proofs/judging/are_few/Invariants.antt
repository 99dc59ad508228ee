use Rattle.std.proofs.Common.{◌≡◌, ◌<◌, ◌^◌, length, take}
use Rattle.std.specs.Prelude.{reverse}
use Rattle.pg_plan.specs.Order.{columns_of}
use Rattle.test_files.proofs.judging.are_few.Given as goal

abbrev pub invariant-loop-page : goal.invariant-loop-page
invariant-loop-page l = record {
  count : l.count ≡ length (columns_of (reverse (take l.page-index l.pages)));
  few : l.count < 2 ^ 31;
}
