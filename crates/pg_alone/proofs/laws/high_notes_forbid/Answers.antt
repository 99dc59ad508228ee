use Rattle.pg_alone.proofs.HighNotes.{high_note_forbids, high_notes_forbid}
use Rattle.pg_alone.proofs.laws.high_notes_forbid.Goals as goal

pub returns-clause-notes : goal.returns-clause-notes
returns-clause-notes c = high_notes_forbid c.args.galley.now c.args.style.now c.requires

pub returns-clause-found : goal.returns-clause-found
returns-clause-found c = high_note_forbids c.args.galley.now c.args.style.now c.requires
