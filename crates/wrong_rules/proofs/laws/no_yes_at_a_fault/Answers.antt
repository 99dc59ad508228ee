use Rattle.wrong_rules.proofs.laws.no_yes_at_a_fault.Goals as goal

pub returns : goal.returns
returns c = λ output fault proved first yes. c.faults_fail.ensures output fault first yes.passes
