use Rattle.test_rows.proofs.call.told_of.Given as goal

abbrev pub ghosts-over_memory : goal.ghosts-over_memory
ghosts-over_memory a = record { name = a.blank.name; parts = a.blank.parts }
