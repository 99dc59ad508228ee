use Rattle.std.proofs.Common.{sym}
use Rattle.pg_states.proofs.NoOlder.{no_older}
use Rattle.pg_states.proofs.comparing.has_no_older.Goals as goal

pub returns-then-has_surely_no_older : goal.returns-then-has_surely_no_older
returns-then-has_surely_no_older c =
    sym (no_older c.args.a.now.ages c.args.b.now.ages
    (c.has_surely_no_older.ensures.long c.if-has_surely_no_older.true)
    (c.has_surely_no_older.ensures.young c.if-has_surely_no_older.true))
