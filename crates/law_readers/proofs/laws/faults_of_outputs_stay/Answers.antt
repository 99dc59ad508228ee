use Rattle.law_readers.proofs.Stops.{faults_stay}
use Rattle.law_readers.proofs.laws.faults_of_outputs_stay.Goals as goal

pub returns : goal.returns
returns c = faults_stay
