use Rattle.std.proofs.Common.{◌≡◌, ◌∙◌, sym, ap, ap₂, lt-ltb, rules, to_z, of_z, w64}
use Rattle.std.proofs.lemmas.Int.{to_z-of_z}
use Rattle.std.specs.Prelude.{int_le, negsuc, ◌+ℤ◌}
use Rattle.pg_greedy.proofs.Costs.{cost_fair}
use Rattle.pg_greedy.proofs.judged.verdict.Goals as goal

pub returns-then-badness-lt10000-clause-cost : goal.returns-then-badness-lt10000-clause-cost
returns-then-badness-lt10000-clause-cost c =
    let p : to_z w64 (of_z w64 c.args.penalty) ≡ c.args.penalty =
    to_z-of_z w64 c.args.penalty (record { sfits = c.ranges.penalty.sfits }) in
    cost_fair c.args.over c.args.penalty c.args.badness _ c.if-over.false
    (ap (λ z. int_le z (negsuc 9999)) (sym p) ∙ c.if-penalty-leminus10000.false)
    (lt-ltb c.args.badness 10000 c.if-badness-lt10000.true)
    (to_z-of_z w64 c.plus.result (record { sfits = search rules })
    ∙ (c.plus.ensures.value
    ∙ ap₂ (λ a b. a +ℤ b) (to_z-of_z w64 c.from.result (record { sfits = search rules }) ∙ c.from.ensures) p))
