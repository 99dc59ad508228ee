use Rattle.std.proofs.Common.{◌≡◌, ◌++◌, ◌∙◌, ap, subst, sym, map, List, ℕ, OnOk}
use Rattle.pg_rules.specs.Floats.{plus_counts, takes_bottom}
use Rattle.pg_layouts.specs.Layouts.{area_lists, layout_of}
use Rattle.pg_layouts.specs.Fit.{Fit}
use Rattle.pg_layouts.proofs.Answered.{at_err}
use Rattle.pg_layouts.proofs.layouts.push_top.Goals as goal

pub plus_counts-requires-clause-slots : goal.plus_counts-requires-clause-slots
plus_counts-requires-clause-slots c = c.args.search.now.count

pub plus_counts-requires-clause-fit : goal.plus_counts-requires-clause-fit
plus_counts-requires-clause-fit c = subst (Fit c.args.before.now) (sym c.as_slice.ensures) c.requires

pub returns-in_err-behind : goal.returns-in_err-behind
returns-in_err-behind c = at_err _ c.from_residual.result c.from_residual.ensures.0

pub returns : goal.returns
returns c = subst (λ (counts : List ℕ). OnOk c.push_bottoms.result (c.push_bottoms.new.layouts.items
    ≡ c.args.layouts.now.items ++ map (layout_of c.args.run c.args.wide.now c.args.top.now)
    (area_lists c.args.search.now.style.now takes_bottom c.args.search.now.style.now.bottom.count counts
    c.args.search.now.ceiling.now)))
    (c.as_slice-2.ensures ∙ (c.in_ok-behind.ensures
    ∙ ap (plus_counts c.args.search.now.style.now c.args.before.now) c.as_slice.ensures))
    c.push_bottoms.ensures
