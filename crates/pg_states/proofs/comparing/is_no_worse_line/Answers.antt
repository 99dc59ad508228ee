use Rattle.std.proofs.Common.{◌≡◌, sym, subst, true}
use Rattle.pg_plan.specs.declared.states.State.{State}
use Rattle.pg_states.specs.Marks.{is_no_worse_line}
use Rattle.pg_states.proofs.Told.{line_refl}
use Rattle.pg_states.proofs.comparing.is_no_worse_line.Goals as goal

pub returns-then-is_surely_same_line : goal.returns-then-is_surely_same_line
returns-then-is_surely_same_line c =
    sym (subst (λ (v : State). is_no_worse_line c.args.a.now v ≡ true)
    (sym (c.is_surely_same_line.ensures c.if-is_surely_same_line.true)) (line_refl c.args.a.now))
