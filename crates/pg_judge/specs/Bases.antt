-- What columns are judged on, and the next column.
use Rattle.pg_plan.specs.declared.pages.PageMove.{PageMove}
use Rattle.pg_rules.specs.Legal.{document}
use Rattle.pg_rules.specs.Room.{Document}
use Rattle.pg_floats.specs.Given.{IsListOf}
use Rattle.pg_judge.specs.Progress.{the_move}
use Rattle.pg_judge.specs.declared.basis.Basis.{Basis}
use Rattle.pg_judge.specs.declared.basis.NextColumn.{NextColumn}

-- the galley's blocks and the style
abbrev pub doc_of : Basis → Document
doc_of basis = document basis.galley.now basis.style.now

-- the list is that of the galley's floats
abbrev pub IsBasis : Basis → Type 0
IsBasis basis = IsListOf basis.galley.now.blocks basis.style.now basis.list.now

-- the column with its page's run and wide counts
abbrev pub move_of : NextColumn → PageMove
move_of step = the_move step.column.now step.run step.wide.now
