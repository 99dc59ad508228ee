use Rattle.pg_labelcheck.proofs.checking.test_all.Given as goal

abbrev pub ghosts-test_labels : goal.ghosts-test_labels
ghosts-test_labels g a = record { galley = a.galley.now; style = a.style.now }
