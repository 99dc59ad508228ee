use Rattle.pg_sources.specs.Document.{doc_of}
use Rattle.pg_sources.proofs.Uncalled.{nothing_called}
use Rattle.pg_sources.proofs.sources.Sources.no_counts.Goals as goal

pub returns : goal.returns
returns c = λ from. nothing_called (doc_of c.args.self.now) from c.new.result c.new-2.result c.new-3.result c.requires
    c.new.ensures c.new-2.ensures c.new-3.ensures
