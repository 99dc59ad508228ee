use Rattle.std.proofs.Common.{arith}
use Rattle.law_words.proofs.Lengths.{scaled_reads}
use Rattle.law_words.proofs.Numbers.{number_reads}
use Rattle.law_words.proofs.Wholes.{whole_reads}
use Rattle.law_words.proofs.Words.{counts_read, place_reads, side_reads}
use Rattle.law_words.proofs.laws.written_reads_back.Goals as goal

pub returns-clause-numbers : goal.returns-clause-numbers
returns-clause-numbers c = λ bound n less small. number_reads bound n less (omega arith)

pub returns-clause-wholes : goal.returns-clause-wholes
returns-clause-wholes c = whole_reads

pub returns-clause-lengths : goal.returns-clause-lengths
returns-clause-lengths c = scaled_reads

pub returns-clause-counts : goal.returns-clause-counts
returns-clause-counts c = counts_read

pub returns-clause-sides : goal.returns-clause-sides
returns-clause-sides c = side_reads

pub returns-clause-places : goal.returns-clause-places
returns-clause-places c = place_reads
