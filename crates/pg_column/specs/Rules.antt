-- The numbers of the rules on the text of one column.
use Rattle.std.specs.Prelude.{ℕ}
use Rattle.pg_column.specs.declared.rule.TextRule.{TextRule}
use Rattle.pg_column.specs.declared.rule.TextRule.TheVariants.{Shape, Tolerance, BreakInside, LeastText, NoteLimit, Looseness}

-- the number of a rule among those of a legal pagination
abbrev pub rule_number : TextRule → ℕ
rule_number Shape = 3
rule_number Tolerance = 4
rule_number BreakInside = 5
rule_number LeastText = 6
rule_number NoteLimit = 11
rule_number Looseness = 13
