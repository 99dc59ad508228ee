use Rattle.std.proofs.Common.{◌≡◌, length}
use Rattle.pg_pages.specs.Sheets.{is_any}
use Rattle.pg_pages.proofs.sheets.deals_any.Given as goal

abbrev pub invariant-each : goal.invariant-each
invariant-each l = is_any l.rest ≡ is_any l.counts

abbrev pub decreases-each : goal.decreases-each
decreases-each l = length l.rest
