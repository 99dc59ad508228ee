use Rattle.std.proofs.Common.{◌∙◌, ap, sym}
use Rattle.pg_sources.specs.Document.{doc_of}
use Rattle.pg_sources.specs.declared.place_counts.PlaceCounts.{PlaceCounts}
use Rattle.pg_states.proofs.Settles.{known_is}
use Rattle.pg_states.proofs.waiting.known.Goals as goal

pub returns : goal.returns
returns c = known_is (doc_of c.args.sources.now) c.args.state.now c.in_ok-copy.field-0 c.excess_counts-waits.result
    c.as_slice.result.now c.as_slice-2.result.now c.slots.result c.may_begin.result
    c.may_begin.ensures (c.in_ok-copy.ensures ∙ ap (λ (it : PlaceCounts). it.called) c.requires) c.slots.ensures.value
    (c.as_slice.ensures ∙ sym c.in_ok-copy.ensures) c.as_slice-2.ensures c.excess_counts-waits.ensures
