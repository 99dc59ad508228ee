use Rattle.pg_scaled.proofs.ReadsBack.{text_reads}
use Rattle.pg_scaled.proofs.laws.printed_reads_back.Goals as goal

pub returns : goal.returns
returns c = text_reads
