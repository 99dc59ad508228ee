use Rattle.law_check.proofs.Failing.{faults_fail}
use Rattle.law_check.proofs.check_laws.faults_fail.Goals as goal

pub returns : goal.returns
returns c = faults_fail _ _
