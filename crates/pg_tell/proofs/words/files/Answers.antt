use Rattle.std.specs.String.{string_bytes}
use Rattle.pg_tell.proofs.Sayings.{one_word, six_words}
use Rattle.pg_tell.proofs.words.files.Goals as goal

pub returns-in-len1-clause-job : goal.returns-in-len1-clause-job
returns-in-len1-clause-job c = one_word string_bytes c.args.form c.args.words.now c.in-len1.len_below

pub returns-in-len6-up-clause-job : goal.returns-in-len6-up-clause-job
returns-in-len6-up-clause-job c = six_words string_bytes c.args.form c.args.words.now c.in-len6-up.len_at_least
