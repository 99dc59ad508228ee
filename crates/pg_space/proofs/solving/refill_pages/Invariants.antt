use Rattle.pg_space.proofs.solving.refill_pages.Given as goal

abbrev pub ghosts-refill_kept : goal.ghosts-refill_kept
ghosts-refill_kept g a = record { galley = a.pages.now.galley.now; style = a.pages.now.style.now }
