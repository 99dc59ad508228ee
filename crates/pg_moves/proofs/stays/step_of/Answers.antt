use Rattle.std.proofs.Common.{rules}
use Rattle.pg_sources.specs.Document.{doc_of}
use Rattle.pg_moves.proofs.Built.{stay_is}
use Rattle.pg_moves.proofs.stays.step_of.Goals as goal

pub returns : goal.returns
returns c = stay_is (doc_of c.args.sources.now) c.args.state.now c.args.laid.now c.requires.laid c.args.settled
    c.in_ok-of_parts.field-0 c.in_ok-stay.field-0 _ (search rules) (search rules) (search rules)
    c.requires.settled
