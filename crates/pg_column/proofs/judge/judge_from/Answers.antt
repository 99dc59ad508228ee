use Rattle.std.proofs.Common.{ap, ◌∙◌, refl, length, List}
use Rattle.pg_list.specs.declared.blocks.Block.{Block}
use Rattle.pg_list.specs.Flat.{blocks_at}
use Rattle.pg_rules.specs.Legal.{document}
use Rattle.pg_column.specs.Judged.{are_loose_enough}
use Rattle.pg_list.specs.Flat.{flat_items_at}
use Rattle.pg_column.specs.Fits.{are_named}
use Rattle.pg_column.proofs.Leads.{named_there}
use Rattle.pg_column.proofs.Judging.{judges_span, verdict_same}
use Rattle.pg_column.proofs.judge.judge_from.Goals as goal

pub returns-clause-value : goal.returns-clause-value
returns-clause-value c =
    c.verdict.ensures
    ∙ verdict_same (document c.args.galley.now c.args.style.now) c.args.to c.args.room.now c.args.room.now refl _ _
    (c.are_loose_enough-is_loose.ensures
    ∙ ap (λ (bs : List Block). are_loose_enough c.args.style.now bs c.args.picks.now)
    (c.from_block.ensures ∙ ap (λ (bs : List Block). blocks_at bs c.args.start) c.blocks_of.ensures.blocks)) _ _
    c.walk-walked.ensures

pub returns-clause-column : goal.returns-clause-column
returns-clause-column c = λ it d f t p r.
    judges_span it (document c.args.galley.now c.args.style.now) d c.blocks_of.ensures.shape
    c.version_of-ranges.ensures.ranges c.args.start c.args.to c.args.picks.now f t p c.args.room.now r c.requires.fits
    c.requires.text c.verdict.result (returns-clause-value c)

pub walk-walked-requires-clause-named : goal.walk-walked-requires-clause-named
walk-walked-requires-clause-named c =
    named_there c.args.galley.now.blocks (flat_items_at c.args.galley.now.blocks c.args.start c.args.picks.now)
    c.args.to
    (length c.args.picks.now) (are_named c.args.galley.now.blocks c.args.start c.args.picks.now) c.requires.fits
