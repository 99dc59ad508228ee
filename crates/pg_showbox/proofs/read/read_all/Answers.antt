use Rattle.pg_showbox.proofs.StateLemmas.{ended_sound}
use Rattle.pg_showbox.proofs.read.read_all.Goals as goal

pub returns-in-Ok-clause-sound : goal.returns-in-Ok-clause-sound
returns-in-Ok-clause-sound c = ended_sound c.read_lines.new.state c.end_listing.new.self c.read_lines.new.state.within
    c.in_ok-number.ensures.sound c.in-Ok.ensures
