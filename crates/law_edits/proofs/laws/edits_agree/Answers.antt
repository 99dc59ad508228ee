use Rattle.law_edits.proofs.Cuts.{agree_back, agree_edited, agree_less, agree_on}
use Rattle.law_edits.proofs.laws.edits_agree.Goals as goal

pub returns-clause-edits : goal.returns-clause-edits
returns-clause-edits c blocks = agree_edited blocks

pub returns-clause-less : goal.returns-clause-less
returns-clause-less c blocks others t u = agree_less t u blocks others

pub returns-clause-back : goal.returns-clause-back
returns-clause-back c blocks others t = agree_back t blocks others

pub returns-clause-on : goal.returns-clause-on
returns-clause-on c blocks others thirds t = agree_on t blocks others thirds
