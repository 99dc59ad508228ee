use Rattle.std.proofs.Common.{◌∙◌, ap, sym, Option, ℕ}
use Rattle.std.specs.Option.{option_or}
use Rattle.pg_floats.specs.Callouts.{unknown_blocks}
use Rattle.pg_floats.proofs.InParts.{unknown_in_parts}
use Rattle.pg_floats.proofs.list.unknown.Goals as goal

pub returns-in-Some : goal.returns-in-Some
returns-in-Some c =
    ap (λ (found : Option ℕ). option_or (option_or found (unknown_blocks c.args.style.now.classes c.args.fresh.now))
    (unknown_blocks c.args.style.now.classes c.args.behind.now)) c.in-Some.ensures
    ∙ sym (unknown_in_parts c.args.style.now c.args.before.now c.args.fresh.now c.args.behind.now)

pub returns-in-Some-unknown_of : goal.returns-in-Some-unknown_of
returns-in-Some-unknown_of c =
    ap (λ (found : Option ℕ). option_or found (unknown_blocks c.args.style.now.classes c.args.behind.now))
    (c.in-Some-unknown_of.ensures
    ∙ ap (λ (found : Option ℕ). option_or found (unknown_blocks c.args.style.now.classes c.args.fresh.now))
    c.in-None.ensures)
    ∙ sym (unknown_in_parts c.args.style.now c.args.before.now c.args.fresh.now c.args.behind.now)

pub returns-in-None-unknown_of : goal.returns-in-None-unknown_of
returns-in-None-unknown_of c =
    c.unknown_of-in-None-unknown_of.ensures
    ∙ (ap (λ (found : Option ℕ). option_or found (unknown_blocks c.args.style.now.classes c.args.behind.now))
    (c.in-None-unknown_of.ensures
    ∙ ap (λ (found : Option ℕ). option_or found (unknown_blocks c.args.style.now.classes c.args.fresh.now))
    c.in-None.ensures)
    ∙ sym (unknown_in_parts c.args.style.now c.args.before.now c.args.fresh.now c.args.behind.now))
