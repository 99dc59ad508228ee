-- The lines of a check, computed.
use Rattle.std.proofs.Common.{◌≡◌, refl, pos}
use Rattle.std.specs.Prelude.{codes, negsuc}
use Rattle.std.specs.Fmt.{digits}
use Rattle.law_check.specs.declared.answers.No.TheVariants.{Broken, CostDiffers, PagesDiffer, BadLabel, NoStart}
use Rattle.law_check.specs.declared.answers.No.TheVariants.{NotClosed, Undercut, FinalInNone}
use Rattle.pg_command.specs.Lines.{broken_line, costs_line, no_line, no_output_line, open_line, undercut_line}

a_broken_rule : no_line (Broken 6 2) ≡ codes "pg: not proved 1: rule 6 column 2\n"
unfolding digits broken_line
a_broken_rule = refl

another_cost : no_line (CostDiffers (negsuc 0) (pos 200)) ≡ codes "pg: not proved 2: printed -1 judged 200\n"
unfolding digits costs_line
another_cost = refl

another_line : no_line (PagesDiffer 6) ≡ codes "pg: not proved 3: page text line 6\n"
unfolding digits
another_line = refl

no_state : no_line (BadLabel 2) ≡ codes "pg: not proved 4: label 2\n"
unfolding digits
no_state = refl

no_start : no_line NoStart ≡ codes "pg: not proved 5: no start\n"
no_start = refl

not_closed : no_line (NotClosed 1 (record { block = 1; variant = 0; index = 0 }))
    ≡ codes "pg: not proved 6: label 1 to 1 0 0\n"
unfolding digits open_line
not_closed = refl

undercut : no_line (Undercut 3 (pos 199)) ≡ codes "pg: not proved 7: label 3 cost 199\n"
unfolding digits undercut_line
undercut = refl

finished : no_line (FinalInNone 2) ≡ codes "pg: not proved 8: label 2\n"
unfolding digits
finished = refl

no_output : no_output_line (codes "o") 3 ≡ codes "pg: o: line 3: not an output text\n"
unfolding digits no_output_line
no_output = refl
