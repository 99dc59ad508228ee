use Rattle.pg_labelcheck.proofs.Answered.{solved_of, truth_of}
use Rattle.pg_labelcheck.proofs.checking.check.Goals as goal

pub returns-clause-truth : goal.returns-clause-truth
returns-clause-truth g c = truth_of _ _ c.args.output.now c.passed_tests_prove.ensures c.test_all.result
    c.test_all.ensures.checked

pub returns-clause-solved : goal.returns-clause-solved
returns-clause-solved g c = solved_of _ _ c.args.output.now c.frontier_passes.ensures.best
    c.frontier_passes.ensures.none c.faults_fail.ensures c.test_all.result c.test_all.ensures.checked
