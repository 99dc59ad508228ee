use Rattle.std.proofs.Common.{◌∙◌, ap, sym, subst}
use Rattle.pg_rules.specs.Legal.{document}
use Rattle.law_walk.specs.Candidates.{Candidate}
use Rattle.pg_hops.specs.Needs.{AreNeeds}
use Rattle.pg_candidates.specs.Nears.{IsNear, kind_at}
use Rattle.pg_candidates.proofs.making.near_behind.Goals as goal

pub near_of-requires : goal.near_of-requires
near_of-requires c = record {
  small = c.of-needs.ensures.small;
  stretch = c.of-needs.ensures.stretch;
  shrink = c.of-needs.ensures.shrink;
}

pub returns-clause-near : goal.returns-clause-near
returns-clause-near c = λ g kind.
    let style = c.args.style.now in
    let most = c.args.most.now.stretch in
    subst (λ (it : Candidate). IsNear (document g style) most it c.near_of.result) c.as_end.ensures
    (c.near_of.ensures.near g style most
    (kind ∙ sym (ap (λ (it : Candidate). kind_at g.blocks it.to) c.as_end.ensures))
    (subst (λ (it : Candidate). AreNeeds style it.passed c.of-needs.result) (sym c.as_end.ensures) c.of-needs.ensures)
    tt)
