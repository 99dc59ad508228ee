use Rattle.std.proofs.Common.{◌≤◌, ℕ, length, subst, add-one, ◌+◌}
use Rattle.std.proofs.lemmas.List.{take_rest}
use Rattle.pg_scan.proofs.PartLemmas.{one_part, a_part}
use Rattle.pg_scan.proofs.parts.split_part.Goals as goal

pub returns-then-len-text-clause-parts : goal.returns-then-len-text-clause-parts
returns-then-len-text-clause-parts c =
    one_part c.args.separator c.args.text.now
    (subst (λ (n : ℕ). length c.args.text.now ≤ n) c.part_len-len.ensures c.if-len-text.true)

pub returns-clause-parts : goal.returns-clause-parts
returns-clause-parts c =
    rw (take_rest c.args.text.now (c.part_len-len.result + 1), add-one)
    (a_part c.args.separator c.args.text.now c.part_len-len.result c.part_len-len.ensures c.if-len-text.false)
