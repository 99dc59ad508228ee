use Rattle.test_calls.proofs.variants.told.Given as goal

abbrev pub ghosts-broken : goal.ghosts-broken
ghosts-broken a = record { name = a.blank.name; parts = a.blank.parts }
