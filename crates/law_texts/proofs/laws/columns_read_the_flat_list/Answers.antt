use Rattle.law_texts.proofs.CalloutsPassed.{callouts_read_flat}
use Rattle.law_texts.proofs.Reading.{columns_read_flat}
use Rattle.law_texts.proofs.Rules.{rules_read_flat}
use Rattle.law_texts.proofs.laws.columns_read_the_flat_list.Goals as goal

pub returns-clause-reads : goal.returns-clause-reads
returns-clause-reads c = columns_read_flat _ _ c.requires

pub returns-clause-rules : goal.returns-clause-rules
returns-clause-rules c = rules_read_flat _ _ c.requires

pub returns-clause-callouts : goal.returns-clause-callouts
returns-clause-callouts c = callouts_read_flat _ _ c.requires
