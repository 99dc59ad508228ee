use Rattle.std.proofs.Common.{◌∙◌, ap, arith}
use Rattle.pg_table.proofs.Bucketed.{get_at_end}
use Rattle.pg_table.proofs.bucket.Bucket.get.Goals as goal

pub returns-then-index-len-clause-label : goal.returns-then-index-len-clause-label
returns-then-index-len-clause-label g c =
    c.as_ref.ensures.value
    ∙ get_at_end c.self.inside.others.items c.args.self.now.items c.self.inside.last c.args.index
    (ap (λ v. v.items) c.self.view_is)
    (omega (arith, c.if-index-len.true, c.len.ensures, c.self.inside.others.ok.0))
