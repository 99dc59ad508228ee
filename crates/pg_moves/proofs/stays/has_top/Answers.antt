use Rattle.std.proofs.Common.{◌≡◌, ◌∙◌, ap, List, ℕ, length}
use Rattle.std.specs.Prelude.{nat_lt}
use Rattle.pg_floats.specs.Counts.{count_in}
use Rattle.law_columns.proofs.BoundCounts.{float_total}
use Rattle.pg_rules.specs.Floats.{float_numbers}
use Rattle.pg_moves.proofs.stays.has_top.Goals as goal

pub returns : goal.returns
returns c =
    let top = c.args.laid.now.layout.top in
    let e : c.count_floats.result ≡ count_in (length (float_numbers c.args.sources.now.style.now)) top =
    c.count_floats.ensures ∙ (ap (λ (n : ℕ). count_in n c.top.result.now) c.slots.ensures.value
    ∙ ap (λ (counts : List ℕ). count_in (length (float_numbers c.args.sources.now.style.now)) counts) c.top.ensures) in
    ap (λ (n : ℕ). nat_lt 0 n) (e ∙ float_total c.args.sources.now.style.now top c.requires)
