use Rattle.std.proofs.Common.{◌≡◌, ◌++◌, ◌∙◌, ap, subst, sym, List, ℕ, OnOk}
use Rattle.pg_rules.specs.Floats.{plus_counts}
use Rattle.pg_layouts.specs.Behind.{areas_behind}
use Rattle.pg_layouts.specs.Fit.{Fit}
use Rattle.pg_layouts.proofs.Answered.{at_err}
use Rattle.pg_layouts.proofs.runs.push_wide.Goals as goal

pub plus_counts-requires-clause-slots : goal.plus_counts-requires-clause-slots
plus_counts-requires-clause-slots c = c.args.search.now.count

pub plus_counts-requires-clause-fit : goal.plus_counts-requires-clause-fit
plus_counts-requires-clause-fit c = subst (Fit c.args.placed.now) (sym c.as_slice.ensures) c.requires

pub returns-in_err-before : goal.returns-in_err-before
returns-in_err-before c = at_err _ c.from_residual.result c.from_residual.ensures.0

pub returns : goal.returns
returns c = subst (λ (counts : List ℕ). OnOk c.push_areas.result (c.push_areas.new.layouts.items
    ≡ c.args.layouts.now.items ++ areas_behind c.args.search.now.kind c.args.search.now.style.now counts
    c.args.search.now.ceiling.now c.args.run
    c.args.wide.now))
    (c.as_slice-2.ensures ∙ (c.in_ok-before.ensures
    ∙ ap (plus_counts c.args.search.now.style.now c.args.placed.now) c.as_slice.ensures))
    c.push_areas.ensures
