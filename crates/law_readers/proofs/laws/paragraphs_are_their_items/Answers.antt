use Rattle.law_readers.proofs.Found.{paragraphs_are_read}
use Rattle.law_readers.proofs.Paras.{paragraph_faults_stay, passes_over, reads_paragraphs}
use Rattle.law_readers.proofs.laws.paragraphs_are_their_items.Goals as goal

pub returns-clause-paragraphs : goal.returns-clause-paragraphs
returns-clause-paragraphs c = reads_paragraphs

pub returns-clause-read : goal.returns-clause-read
returns-clause-read c = paragraphs_are_read

pub returns-clause-outside : goal.returns-clause-outside
returns-clause-outside c = passes_over

pub returns-clause-faults : goal.returns-clause-faults
returns-clause-faults c = paragraph_faults_stay
