use Rattle.std.proofs.Common.{◌≡◌, length}
use Rattle.pg_draw_page.specs.Names.{base_of, behind_slash}
use Rattle.pg_draw_page.proofs.view.base_name.Given as goal

abbrev pub invariant-bytes : goal.invariant-bytes
invariant-bytes l = behind_slash l.base l.rest ≡ base_of l.name

abbrev pub decreases-bytes : goal.decreases-bytes
decreases-bytes l = length l.rest
