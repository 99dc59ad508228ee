use Rattle.std.proofs.Common.{◌∙◌, ap, List, ℕ}
use Rattle.std.specs.List.{list_all, range_with_len}
use Rattle.pg_sources.specs.Document.{counts_of, doc_of}
use Rattle.pg_states.specs.Lines.{covers_one}
use Rattle.pg_sources.specs.declared.place_counts.PlaceCounts.{PlaceCounts}
use Rattle.pg_states.proofs.waiting.may_begin.Goals as goal

pub returns : goal.returns
returns c =
    let here = counts_of (doc_of c.args.sources.now) c.args.state.now.place in
    let placed = c.args.state.now.placed in
    c.covers_either.ensures
    ∙ (ap (λ (xs : List ℕ). list_all (covers_one xs c.as_slice-2.result.now c.as_slice-3.result.now)
    (range_with_len 0 c.slots.result)) c.as_slice.ensures
    ∙ (ap (λ (xs : List ℕ). list_all (covers_one placed xs c.as_slice-3.result.now) (range_with_len 0 c.slots.result))
    (c.as_slice-2.ensures ∙ ap (λ (it : PlaceCounts). it.called) c.requires)
    ∙ (ap (λ (xs : List ℕ). list_all (covers_one placed here.called xs) (range_with_len 0 c.slots.result))
    (c.as_slice-3.ensures ∙ ap (λ (it : PlaceCounts). it.flushed) c.requires)
    ∙ ap (λ (n : ℕ). list_all (covers_one placed here.called here.flushed) (range_with_len 0 n)) c.slots.ensures.value)))
