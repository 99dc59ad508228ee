use Rattle.pg_pages.proofs.areas.print_inserts.Goals as goal

pub returns-clause-grows : goal.returns-clause-grows
returns-clause-grows c = c.items.invariant.grows
