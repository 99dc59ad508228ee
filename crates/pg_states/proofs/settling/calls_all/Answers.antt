use Rattle.std.proofs.Common.{◌∙◌, ap, List, ℕ}
use Rattle.std.specs.List.{list_all, range_with_len}
use Rattle.pg_rules.specs.Floats.{called}
use Rattle.pg_states.specs.Lines.{covers}
use Rattle.pg_states.proofs.settling.calls_all.Goals as goal

pub returns : goal.returns
returns c = λ to e. c.covers_all.ensures
    ∙ (ap (λ (xs : List ℕ). list_all (covers xs c.args.after.now) (range_with_len 0 c.slots.result)) e
    ∙ ap (λ (n : ℕ). list_all (covers (called c.args.sources.now.galley.now.blocks c.args.sources.now.style.now to)
    c.args.after.now) (range_with_len 0 n)) c.slots.ensures.value)
