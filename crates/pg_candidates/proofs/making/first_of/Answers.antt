use Rattle.std.proofs.Common.{◌∙◌, ap, sym, subst, IfSome}
use Rattle.pg_rules.specs.Legal.{document}
use Rattle.law_walk.specs.Candidates.{Candidate}
use Rattle.pg_hops.specs.Needs.{AreNeeds}
use Rattle.pg_candidates.specs.Nears.{IsHopelessFrom, IsNear, IsWorst, kind_at}
use Rattle.pg_candidates.proofs.Short.{goal_small}
use Rattle.pg_candidates.proofs.making.first_of.Goals as goal

pub first_with-first-requires-clause-goal : goal.first_with-first-requires-clause-goal
first_with-first-requires-clause-goal c =
    goal_small c.args.style.now c.args.most.now.stretch _ c.of-needs.result.give c.goal_for-goal.result
    c.goal_for-goal.ensures

pub near_first-near-requires-clause-needs : goal.near_first-near-requires-clause-needs
near_first-near-requires-clause-needs c =
    subst (λ (it : Candidate). AreNeeds c.args.style.now it.passed c.of-needs.result) (sym c.as_end-end.ensures)
    c.of-needs.ensures

pub returns-clause-kind : goal.returns-clause-kind
returns-clause-kind c = c.first_with-first.ensures.kind
    ∙ ap (λ (it : Candidate). kind_at c.args.galley.now.blocks it.to) c.as_end-end.ensures

pub returns-clause-worst : goal.returns-clause-worst
returns-clause-worst c =
    subst (λ (it : Candidate). IfSome c.first_with-first.result.worst (IsWorst c.args.style.now c.args.most.now.stretch it))
    c.as_end-end.ensures (c.first_with-first.ensures.worst c.args.style.now c.args.most.now.stretch
    (subst (λ (it : Candidate). AreNeeds c.args.style.now it.passed c.of-needs.result) (sym c.as_end-end.ensures)
    c.of-needs.ensures) c.goal_for-goal.ensures)

pub returns-clause-near : goal.returns-clause-near
returns-clause-near c =
    subst (λ (it : Candidate). IsNear (document c.args.galley.now c.args.style.now) c.args.most.now.stretch it
    c.near_first-near.result) c.as_end-end.ensures
    (c.near_first-near.ensures.near c.args.galley.now c.first_with-first.ensures.kind)

pub returns-clause-until : goal.returns-clause-until
returns-clause-until c =
    subst (λ (it : Candidate). IfSome c.near_first-near.result.until
    (IsHopelessFrom (document c.args.galley.now c.args.style.now) c.args.most.now.stretch it))
    c.as_end-end.ensures
    (c.near_first-near.ensures.until c.args.galley.now c.first_with-first.ensures.kind
    (c.first_with-first.ensures.worst c.args.style.now c.args.most.now.stretch
    (subst (λ (it : Candidate). AreNeeds c.args.style.now it.passed c.of-needs.result) (sym c.as_end-end.ensures)
    c.of-needs.ensures) c.goal_for-goal.ensures))
