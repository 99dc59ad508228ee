use Rattle.pg_sources.specs.Document.{doc_of}
use Rattle.pg_space.proofs.Had.{all_made}
use Rattle.pg_space.proofs.kept.KeptPagesSpace.expand.Goals as goal

pub returns-clause-moves : goal.returns-clause-moves
returns-clause-moves g c = all_made (doc_of c.args.self.now.pages.sources) c.args.state.now c.open.result
    c.open.ensures.moves
