use Rattle.std.proofs.Common.{◌∙◌, sym, ap}
use Rattle.std.specs.Option.{option_map}
use Rattle.pg_labels.specs.Reading.{lines_left}
use Rattle.law_check.specs.Faults.{first_difference}
use Rattle.pg_labelcheck.proofs.Differing.{first_ends, second_ends}
use Rattle.pg_labelcheck.proofs.lines.first_other_line.Goals as goal

pub returns-in_default-other_rest : goal.returns-in_default-other_rest
returns-in_default-other_rest c = sym (c.loop-rest.invariant.differ
    ∙ ap (λ o. first_difference c.loop-rest.number (lines_left (option_map (λ t. t.now) o))
    (lines_left (option_map (λ t. t.now) c.loop-rest.other_rest))) c.in-Some.is
    ∙ second_ends (λ t. t.now) c.loop-rest.number c.in-Some.left c.loop-rest.other_rest
    c.in_default-other_rest.not-Some)

pub returns-then-is_some : goal.returns-then-is_some
returns-then-is_some c = sym (c.loop-rest.invariant.differ
    ∙ first_ends (λ t. t.now) c.loop-rest.number c.loop-rest.rest c.loop-rest.other_rest c.in_default.not-Some
    (sym c.is_some.ensures ∙ c.if-is_some.true))
