use Rattle.std.proofs.Common.{◌∙◌, ap, ℕ}
use Rattle.std.specs.Prelude.{◌==◌}
use Rattle.std.specs.List.{list_all, range_with_len}
use Rattle.pg_list.specs.Flat.{end_of}
use Rattle.pg_rules.specs.Floats.{called, entry}
use Rattle.pg_sources.specs.Document.{doc_of}
use Rattle.pg_floats.proofs.Dealt.{dealt_all}
use Rattle.pg_states.proofs.done.has_placed_all.Goals as goal

pub returns : goal.returns
returns c =
    let blocks = c.args.sources.now.galley.now.blocks in
    c.has_dealt_all.ensures
    ∙ (ap (λ (n : ℕ). list_all (λ (slot : ℕ). entry c.args.placed.now slot
    == entry (called blocks c.args.sources.now.style.now (end_of blocks)) slot) (range_with_len 0 n)) c.slots.ensures.value
    ∙ dealt_all (doc_of c.args.sources.now) c.args.placed.now)
