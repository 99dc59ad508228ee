use Rattle.pg_notes.proofs.Sizes.{sizes_trimmed, notes_trimmed, skips_trimmed, limits_trimmed, first_trimmed}
use Rattle.pg_notes.proofs.laws.front_has_no_notes.Goals as goal

pub returns-clause-sizes : goal.returns-clause-sizes
returns-clause-sizes c = sizes_trimmed

pub returns-clause-notes : goal.returns-clause-notes
returns-clause-notes c = notes_trimmed

pub returns-clause-skips : goal.returns-clause-skips
returns-clause-skips c = skips_trimmed

pub returns-clause-limits : goal.returns-clause-limits
returns-clause-limits c = limits_trimmed

pub returns-clause-first : goal.returns-clause-first
returns-clause-first c = first_trimmed
