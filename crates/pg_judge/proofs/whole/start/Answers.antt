use Rattle.std.proofs.Common.{refl, ap, ◌∙◌, ℕ, length}
use Rattle.std.specs.Prelude.{replicate, reverse}
use Rattle.pg_rules.specs.Floats.{float_numbers}
use Rattle.pg_judge.proofs.Settling.{zeros_are}
use Rattle.pg_judge.proofs.whole.start.Goals as goal

pub returns-clause-start : goal.returns-clause-start
returns-clause-start c = λ galley. record {
  number = refl;
  broken = refl;
  going = λ e. record {
    chained = refl;
    column = refl;
    page = refl;
    at = refl;
    run = refl;
    wide = refl;
    placed = c.zeros.ensures ∙ (ap (λ (n : ℕ). replicate n 0) c.slots_of-slots.ensures.value
        ∙ zeros_are (length (float_numbers c.args.style.now)) 0);
    turns = ap reverse c.new.ensures.items;
    paid = λ f. record { fitness = refl; cost = refl };
  };
}
