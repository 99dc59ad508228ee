use Rattle.test_calls.proofs.session.ten_lines_are_edited_and_solved_again.Given as goal

abbrev pub ghosts-solve_ten_lines : goal.ghosts-solve_ten_lines
ghosts-solve_ten_lines g a = record { name = a.blank.name; parts = a.blank.parts }
