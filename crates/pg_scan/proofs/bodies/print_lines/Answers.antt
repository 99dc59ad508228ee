use Rattle.std.proofs.Common.{◌≤◌, length, subst}
use Rattle.pg_scan.proofs.OneLine.{one_line}
use Rattle.pg_scan.proofs.bodies.print_lines.Goals as goal

pub print_line-requires : goal.print_line-requires
print_line-requires c = one_line c.lines.rest.now
    (subst (λ n. length c.lines.rest.now ≤ n) c.lines.invariant.len c.lines-test.false)
