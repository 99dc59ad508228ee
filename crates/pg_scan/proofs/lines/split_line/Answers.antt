use Rattle.std.proofs.Common.{◌≡◌, ◌≤◌, ℕ, length, subst, add-one, ◌+◌, arith, sym, ◌∙◌, nat_eq, true, false}
use Rattle.std.proofs.lemmas.Bool.Decides.{nat_tests}
use Rattle.std.proofs.lemmas.List.{take_rest}
use Rattle.pg_scan.proofs.LineLemmas.{no_line, last_line, a_line}
use Rattle.pg_scan.proofs.lines.split_line.Goals as goal
use Rattle.pg_lemmas.proofs.Lists.{no_items}

pub returns-then-is_empty-clause-lines : goal.returns-then-is_empty-clause-lines
returns-then-is_empty-clause-lines c =
    let test : nat_eq (length c.args.text.now) 0 ≡ true = sym c.is_empty.ensures ∙ c.if-is_empty.true in
    let empty : length c.args.text.now ≡ 0 = grind (arith, nat_tests) in
    rw (no_items c.args.text.now empty) no_line

pub returns-then-len-text-clause-lines : goal.returns-then-len-text-clause-lines
returns-then-len-text-clause-lines c =
    let test : nat_eq (length c.args.text.now) 0 ≡ false = sym c.is_empty.ensures ∙ c.if-is_empty.false in
    last_line c.args.text.now (grind (arith, nat_tests))
    (subst (λ (n : ℕ). length c.args.text.now ≤ n) c.first_line_len-len.ensures.len c.if-len-text.true)

pub returns-clause-lines : goal.returns-clause-lines
returns-clause-lines c =
    rw (take_rest c.args.text.now (c.first_line_len-len.result + 1), add-one)
    (a_line c.args.text.now c.first_line_len-len.result c.first_line_len-len.ensures.len c.if-len-text.false)
