use Rattle.std.proofs.Common.{◌∙◌, ap, List, ℕ}
use Rattle.std.specs.List.{list_all, range_with_len}
use Rattle.pg_rules.specs.Floats.{flushed}
use Rattle.pg_states.specs.Lines.{covers}
use Rattle.pg_states.proofs.settling.flushes_all.Goals as goal

pub returns : goal.returns
returns c = λ block e. c.covers_all.ensures
    ∙ (ap (λ (xs : List ℕ). list_all (covers c.args.placed.now xs) (range_with_len 0 c.slots.result)) e
    ∙ ap (λ (n : ℕ). list_all (covers c.args.placed.now
    (flushed c.args.sources.now.galley.now.blocks c.args.sources.now.style.now block)) (range_with_len 0 n))
    c.slots.ensures.value)
