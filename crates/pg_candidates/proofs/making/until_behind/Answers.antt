use Rattle.std.proofs.Common.{◌≡◌, ap, subst, sym, ◌∙◌, IfSome}
use Rattle.std.proofs.lemmas.Option.{same_Some}
use Rattle.pg_rules.specs.Legal.{document}
use Rattle.law_walk.specs.Candidates.{Candidate}
use Rattle.pg_candidates.specs.Nears.{IsServedFrom, IsWorst}
use Rattle.pg_candidates.specs.View.{candidate_of}
use Rattle.pg_candidates.proofs.Needed.{found_at}
use Rattle.pg_candidates.proofs.making.until_behind.Goals as goal

pub returns : goal.returns
returns c = λ g one there to kind worst.
    let is : candidate_of c.in_ok-one.one.now ≡ one =
    same_Some _ _ (sym (found_at c.args.candidates.now c.args.first.at c.in_ok-one.one.now
    c.in_ok-one.ensures.lookup.0 c.in_ok-one.ensures.lookup.1) ∙ there) in
    subst (λ (x : Candidate). IfSome c.until_beside.result
    (IsServedFrom (document g c.args.style.now) c.args.most.now.stretch x (candidate_of c.args.candidate.now))) is
    (c.until_beside.ensures g (ap (λ (x : Candidate). x.to) is ∙ to) kind
    (subst (λ (x : Candidate). IfSome c.args.first.worst (IsWorst c.args.style.now c.args.most.now.stretch x)) (sym is) worst))
