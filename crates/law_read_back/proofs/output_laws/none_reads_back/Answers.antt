use Rattle.law_read_back.proofs.NoneReads.{none_reads}
use Rattle.law_read_back.proofs.output_laws.none_reads_back.Goals as goal

pub returns : goal.returns
returns c = none_reads
