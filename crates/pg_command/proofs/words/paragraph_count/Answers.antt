use Rattle.pg_command.proofs.WordLemmas.{in_range, none_above}
use Rattle.pg_command.proofs.words.paragraph_count.Goals as goal

pub returns-clause-few : goal.returns-clause-few
returns-clause-few c =
    none_above 2000 c.whole_word.result 0 (rw c.whole_word.ensures (in_range 0 2000 c.as_bytes.result.now))
