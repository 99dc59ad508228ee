use Rattle.std.proofs.Common.{refl}
use Rattle.pg_walk.proofs.Behind.{alone_at}
use Rattle.pg_walk.proofs.First.{has_start, tells_alone}
use Rattle.pg_walk.specs.Contexts.{doc_of}
use Rattle.pg_walk.proofs.walking.collect_from.Goals as goal

pub collect_behind-requires-clause-ends : goal.collect_behind-requires-clause-ends
collect_behind-requires-clause-ends c =
    alone_at (doc_of c.args.context.now) _ _ refl c.args.from c.args.found.now
    c.first_stretch.new.found c.requires.none c.in_ok-walked.ensures.ends

pub collect_behind-requires-clause-start : goal.collect_behind-requires-clause-start
collect_behind-requires-clause-start c =
    has_start (doc_of c.args.context.now) _ c.args.from c.in_ok-walked.walked c.state_behind-start.result
    c.state_behind-start.ensures c.in_ok-walked.ensures.walked

pub collect_behind-requires-clause-told : goal.collect_behind-requires-clause-told
collect_behind-requires-clause-told c =
    tells_alone (doc_of c.args.context.now) _ c.args.from c.in_ok-walked.walked
    c.state_behind-start.result c.quiet_greatest-told.result c.state_behind-start.ensures c.quiet_greatest-told.ensures
    c.in_ok-walked.ensures.walked
