use Rattle.pg_make.proofs.Paragraphs.{two_pushed}
use Rattle.pg_make.proofs.galley.push_gap.Goals as goal

pub returns : goal.returns
returns c = two_pushed c.args.items.now c.push.new.self c.push-2.new.self c.in_ok-penalty.field-0 c.in_ok-glue.field-0 _ _
    c.in_ok-push.ensures.ok c.in_ok-push-2.ensures.ok c.in_ok-penalty.ensures.value c.in_ok-glue.ensures.value
