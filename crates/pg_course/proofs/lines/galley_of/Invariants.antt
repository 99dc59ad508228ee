use Rattle.pg_course.proofs.lines.galley_of.Given as goal

abbrev pub ghosts-counted_galley : goal.ghosts-counted_galley
ghosts-counted_galley a = record { name = a.blank.name; parts = a.blank.parts }
