use Rattle.std.proofs.Common.{◌∙◌}
use Rattle.pg_judge.specs.Barriers.{has_called, has_flushed}
use Rattle.pg_judge.specs.Bases.{doc_of}
use Rattle.pg_judge.proofs.Either.{by_first, by_second}
use Rattle.pg_judge.proofs.barriers.is_slot_ready.Goals as goal

pub is_slot_placed-requires : goal.is_slot_placed-requires
is_slot_placed-requires c = c.requires

pub is_slot_flushed-requires : goal.is_slot_flushed-requires
is_slot_flushed-requires c = c.requires

pub returns-then-is_slot_placed : goal.returns-then-is_slot_placed
returns-then-is_slot_placed c = λ counts e.
    let doc = doc_of c.args.basis.now in
    by_first (has_called doc c.args.from counts c.args.slot) (has_flushed doc c.args.block counts c.args.slot)
    c.is_slot_placed.result (c.is_slot_placed.ensures counts e) c.if-is_slot_placed.true

pub returns-else-is_slot_placed : goal.returns-else-is_slot_placed
returns-else-is_slot_placed c = λ counts e.
    let doc = doc_of c.args.basis.now in
    c.is_slot_flushed.ensures counts e
    ∙ by_second (has_called doc c.args.from counts c.args.slot) (has_flushed doc c.args.block counts c.args.slot)
    c.is_slot_placed.result (c.is_slot_placed.ensures counts e) c.if-is_slot_placed.false
