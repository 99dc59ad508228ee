use Rattle.std.proofs.Common.{◌≡◌, ◌∙◌, ap, List, ℕ, length}
use Rattle.std.specs.Prelude.{nat_lt}
use Rattle.pg_floats.specs.Counts.{count_in}
use Rattle.law_columns.proofs.BoundCounts.{float_total}
use Rattle.pg_rules.specs.Floats.{float_numbers}
use Rattle.pg_rooms.proofs.laid.has_floats.Goals as goal

pub returns : goal.returns
returns c =
    let e : c.count_floats.result ≡ count_in (length (float_numbers c.args.sources.now.style.now)) c.args.counts.now =
    c.count_floats.ensures ∙ (ap (λ (n : ℕ). count_in n c.as_slice.result.now) c.slots.ensures.value
    ∙ ap (λ (counts : List ℕ). count_in (length (float_numbers c.args.sources.now.style.now)) counts) c.as_slice.ensures) in
    ap (λ (n : ℕ). nat_lt 0 n) (e ∙ float_total c.args.sources.now.style.now c.args.counts.now c.requires)

pub count_floats-requires : goal.count_floats-requires
count_floats-requires c = c.slots.ensures.few
