use Rattle.std.proofs.Common.{ap, sym, ◌∙◌}
use Rattle.pg_rules.specs.Legal.{document}
use Rattle.pg_candidates.specs.View.{candidate_of}
use Rattle.pg_candidates.specs.declared.kind.EndKind.{EndKind}
use Rattle.pg_candidates.proofs.Beside.{served_hopeless}
use Rattle.pg_candidates.proofs.until.until_beside.Goals as goal

pub returns-then-is_refused : goal.returns-then-is_refused
returns-then-is_refused c = λ g same is worst.
    served_hopeless (document g c.args.style.now) c.args.most.now.stretch (candidate_of c.args.one.now) (candidate_of c.args.other.now)
    c.until_alone.result (c.until_alone.ensures g c.args.most.now.stretch (candidate_of c.args.other.now) is c.worst_from.ensures)

pub returns : goal.returns
returns c = λ g same is worst.
    c.until_cheaper.ensures g same (sym (ap (λ (k : EndKind). k.is_spent) is) ∙ c.if-first.false) worst
