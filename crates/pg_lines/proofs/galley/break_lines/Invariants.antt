use Rattle.std.proofs.Common.{length}
use Rattle.pg_lines.specs.Answers.{IsMade}
use Rattle.pg_lines.proofs.Going.{Goes}
use Rattle.pg_lines.proofs.galley.break_lines.Given as goal

abbrev pub invariant-paragraphs : goal.invariant-paragraphs
invariant-paragraphs g l = record { made : IsMade l.made; goes : Goes l.rule l.paras l.made l.rest }

abbrev pub decreases-paragraphs : goal.decreases-paragraphs
decreases-paragraphs g l = length l.rest
