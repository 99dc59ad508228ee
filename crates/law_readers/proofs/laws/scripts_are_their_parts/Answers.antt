use Rattle.law_readers.proofs.ItemLines.{items_are_read, reads_items}
use Rattle.law_readers.proofs.Parts.{reads_parts}
use Rattle.law_readers.proofs.laws.scripts_are_their_parts.Goals as goal

pub returns-clause-parts : goal.returns-clause-parts
returns-clause-parts c = reads_parts

pub returns-clause-items : goal.returns-clause-items
returns-clause-items c = reads_items

pub returns-clause-read : goal.returns-clause-read
returns-clause-read c = items_are_read
