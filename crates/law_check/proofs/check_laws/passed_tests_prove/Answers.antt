use Rattle.law_check.proofs.Sound.{passed_prove}
use Rattle.law_check.proofs.check_laws.passed_tests_prove.Goals as goal

pub returns : goal.returns
returns c = passed_prove _ _ c.requires
