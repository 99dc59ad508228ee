use Rattle.law_readers.proofs.Readable.{listings_are_read}
use Rattle.law_readers.proofs.Sound.{reads_listings}
use Rattle.law_readers.proofs.Through.{galley_faults_stay, passes_over, reads_broken}
use Rattle.law_readers.proofs.laws.galleys_are_their_listings.Goals as goal

pub returns-clause-listings : goal.returns-clause-listings
returns-clause-listings c = reads_listings

pub returns-clause-read : goal.returns-clause-read
returns-clause-read c = listings_are_read

pub returns-clause-outside : goal.returns-clause-outside
returns-clause-outside c = passes_over

pub returns-clause-broken : goal.returns-clause-broken
returns-clause-broken c = reads_broken

pub returns-clause-faults : goal.returns-clause-faults
returns-clause-faults c = galley_faults_stay
