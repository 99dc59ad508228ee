use Rattle.pg_pieces.proofs.Within.{texts, words}
use Rattle.pg_pieces.proofs.laws.texts_stay_within.Goals as goal

pub returns-clause-texts : goal.returns-clause-texts
returns-clause-texts c = texts

pub returns-clause-words : goal.returns-clause-words
returns-clause-words c = words
