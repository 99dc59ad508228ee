use Rattle.pg_pages.proofs.gaps.print_gap.Goals as goal

pub returns-in_err-print_gap_line-clause-grows : goal.returns-in_err-print_gap_line-clause-grows
returns-in_err-print_gap_line-clause-grows c = c.print_gap_line.ensures.grows

pub returns-clause-grows : goal.returns-clause-grows
returns-clause-grows c = c.in_ok-print_gap_line.ensures.grows
