use Rattle.std.proofs.Common.{[], ◌∷◌}
use Rattle.pg_scan.specs.Lines.{dotted}
use Rattle.pg_pages.proofs.Grown.{grows_on, grows_three, on_three}
use Rattle.pg_pages.proofs.bodies.print_body.Goals as goal

pub returns-clause-ok : goal.returns-clause-ok
returns-clause-ok c = on_three c.end_line.result c.args.out.now.items c.print_bytes.new.out.items
    c.print_dotted.new.out.items c.end_line.new.out.items (46 ∷ []) (dotted c.args.body.now) (10 ∷ [])
    c.in_ok-print_bytes.ensures.ok c.in_ok-print_dotted.ensures.ok c.end_line.ensures.ok

pub returns-in_err-print_bytes-clause-grows : goal.returns-in_err-print_bytes-clause-grows
returns-in_err-print_bytes-clause-grows c = c.print_bytes.ensures.grows

pub returns-in_err-print_dotted-clause-grows : goal.returns-in_err-print_dotted-clause-grows
returns-in_err-print_dotted-clause-grows c = grows_on c.args.out.now.items c.print_bytes.new.out.items
    c.print_dotted.new.out.items c.in_ok-print_bytes.ensures.grows c.print_dotted.ensures.grows

pub returns-clause-grows : goal.returns-clause-grows
returns-clause-grows c = grows_three c.args.out.now.items c.print_bytes.new.out.items c.print_dotted.new.out.items
    c.end_line.new.out.items c.in_ok-print_bytes.ensures.grows c.in_ok-print_dotted.ensures.grows
    c.end_line.ensures.grows
