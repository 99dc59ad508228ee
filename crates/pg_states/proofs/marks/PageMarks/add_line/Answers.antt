use Rattle.std.proofs.Common.{◌≡◌, sym, subst, true, false, length, arith}
use Rattle.std.specs.List.{list_any}
use Rattle.pg_states.specs.Marks.{has_no_better, is_marked, is_past}
use Rattle.pg_states.proofs.Told.{marked_before, new_line, past_more}
use Rattle.pg_states.proofs.marks.PageMarks.add_line.Goals as goal

pub invariant_of-self-2 : goal.invariant_of-self-2
invariant_of-self-2 c = subst (λ xs. list_any (is_past (length xs)) c.self.inside.cells.items ≡ false)
    (sym c.in_ok-push.ensures.items)
    (past_more c.self.inside.lines.items c.in_ok-line.line c.self.inside.cells.items c.self.invariant)

pub returns-clause-line : goal.returns-clause-line
returns-clause-line c =
    let long : c.len-number.result ≡ length c.self.inside.lines.items =
    omega (arith, c.len-number.ensures, c.self.inside.lines.ok.0) in
    subst (λ n. has_no_better c.push.new.self.items n c.args.state.now ≡ true) (sym long)
    (subst (λ xs. has_no_better xs (length c.self.inside.lines.items) c.args.state.now ≡ true)
    (sym c.in_ok-push.ensures.items)
    (new_line c.self.inside.lines.items c.in_ok-line.line c.args.state.now c.in_ok-line.ensures))

pub returns-clause-kept : goal.returns-clause-kept
returns-clause-kept c = λ v d h. subst (λ m. is_marked m v d ≡ true) c.self.view_is
    (marked_before c.self.inside.lines.items c.in_ok-line.line c.self.inside.cells.items c.self.invariant v d
    (subst (λ xs. is_marked (record { lines = xs; cells = c.self.inside.cells.items }) v d ≡ true)
    c.in_ok-push.ensures.items h))
