use Rattle.std.proofs.Common.{◌∙◌, ap, ◌==◌, ℕ}
use Rattle.std.specs.List.{position_from}
use Rattle.pg_style.specs.Classes.{float_numbers_of}
use Rattle.pg_style.specs.Values.{StyleValue}
use Rattle.pg_style.proofs.style.Style.float_slot.Goals as goal

pub returns : goal.returns
returns c =
    c.float_slot.ensures
    ∙ ap (λ (s : StyleValue). position_from (λ (n : ℕ). n == c.args.number) 0 (float_numbers_of s.classes)) c.self.view_is
