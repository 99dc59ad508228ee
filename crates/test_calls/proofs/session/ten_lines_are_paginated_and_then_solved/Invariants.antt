use Rattle.test_calls.proofs.session.ten_lines_are_paginated_and_then_solved.Given as goal

abbrev pub ghosts-edit_ten_lines : goal.ghosts-edit_ten_lines
ghosts-edit_ten_lines g a = record { name = a.blank.name; parts = a.blank.parts }
