use Rattle.std.proofs.Common.{◌∙◌}
use Rattle.pg_scan.proofs.FirstFeed.{first_feed}
use Rattle.pg_scan.proofs.lines.first_line_len.Goals as goal

pub returns-clause-len : goal.returns-clause-len
returns-clause-len c = c.unwrap_or.ensures ∙ first_feed c.args.text.now c.memchr.result c.memchr.ensures
