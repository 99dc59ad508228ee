use Rattle.std.proofs.Common.{◌∙◌, arith, subst, IfSome, w64}
use Rattle.std.proofs.lemmas.Int.{to_z-of_z}
use Rattle.pg_style.specs.declared.style.Give.{Give}
use Rattle.pg_candidates.specs.Nears.{IsWorstGoal}
use Rattle.pg_candidates.specs.View.{end_of}
use Rattle.pg_candidates.proofs.making.first_with.Goals as goal

pub returns-clause-worst : goal.returns-clause-worst
returns-clause-worst c = λ style most are worst.
    let notes = to_z-of_z w64 c.args.needs.now.notes (record { sfits = omega (arith, c.requires.notes) }) in
    c.room_for.ensures style most (end_of c.args.end.now) (notes ∙ are.notes)
    (subst (λ (given : Give). IfSome c.args.goal (IsWorstGoal style most c.args.end.now.passed.now.sums.totals given))
    are.give worst)
