use Rattle.std.proofs.Common.{◌≡◌, ◌++◌, ◌∙◌, ap, subst, map, List, ℕ, OnOk}
use Rattle.pg_rules.specs.Floats.{takes_bottom}
use Rattle.pg_layouts.specs.Layouts.{area_lists, layout_of}
use Rattle.pg_layouts.proofs.Answered.{at_err}
use Rattle.pg_layouts.proofs.layouts.push_bottoms.Goals as goal

pub returns-in_err-bottoms : goal.returns-in_err-bottoms
returns-in_err-bottoms c = at_err _ c.from_residual.result c.from_residual.ensures.0

pub returns : goal.returns
returns c = subst (λ (bottoms : List (List ℕ)). OnOk c.push_each.result (c.push_each.new.layouts.items
    ≡ c.args.layouts.now.items ++ map (layout_of c.args.run c.args.wide.now c.args.top.now) bottoms))
    (c.as_slice.ensures.value ∙ (c.in_ok-bottoms.ensures ∙ ap (λ (most : ℕ). area_lists c.args.search.now.style.now
    takes_bottom most c.args.before.now c.args.search.now.ceiling.now) c.bottom_count.ensures))
    c.push_each.ensures
