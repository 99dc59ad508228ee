use Rattle.std.proofs.Common.{◌∙◌, ap, sym, List}
use Rattle.pg_list.specs.declared.blocks.Block.{Block}
use Rattle.pg_floats.proofs.Lists.{flat_first}
use Rattle.pg_alone.specs.Notes.{first_high, high_blocks}
use Rattle.pg_alone.proofs.HighNotes.{blocks_high}
use Rattle.pg_alone.proofs.notes.high_note.Goals as goal

pub returns : goal.returns
returns c =
    c.high_among.ensures
    ∙ (ap (λ (blocks : List Block). high_blocks c.args.style.now blocks) c.blocks_of.ensures.blocks
    ∙ (blocks_high c.args.style.now c.args.galley.now.blocks
    ∙ ap (first_high c.args.style.now) (sym (flat_first c.args.galley.now.blocks))))
