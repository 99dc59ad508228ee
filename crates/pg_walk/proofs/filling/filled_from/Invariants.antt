use Rattle.pg_walk.proofs.filling.filled_from.Given as goal

abbrev pub ghosts-filled : goal.ghosts-filled
ghosts-filled a = record { name = a.blank.name; parts = a.blank.parts }
