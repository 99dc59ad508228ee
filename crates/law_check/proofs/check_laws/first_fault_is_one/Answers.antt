use Rattle.law_check.proofs.OneFault.{fault_one}
use Rattle.law_check.proofs.check_laws.first_fault_is_one.Goals as goal

pub returns : goal.returns
returns c = fault_one
