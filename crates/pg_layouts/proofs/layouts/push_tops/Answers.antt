use Rattle.std.proofs.Common.{◌≡◌, ◌++◌, ◌∙◌, ap, subst, List, ℕ, OnOk}
use Rattle.std.specs.List.{flat_map}
use Rattle.std.specs.Prelude.{Contains}
use Rattle.pg_rules.specs.Floats.{takes_top}
use Rattle.pg_layouts.specs.Behind.{bottoms_behind}
use Rattle.pg_layouts.specs.Layouts.{area_lists}
use Rattle.pg_layouts.proofs.Fits.{fits_below, short_of}
use Rattle.pg_layouts.proofs.Answered.{at_err}
use Rattle.pg_layouts.proofs.layouts.push_tops.Goals as goal

pub returns-in_err-tops : goal.returns-in_err-tops
returns-in_err-tops c = at_err _ c.from_residual.result c.from_residual.ensures.0

pub push_each_top-requires : goal.push_each_top-requires
push_each_top-requires c = λ top m.
    let style = c.args.search.now.style.now in
    let before = c.args.before.now in
    let ceiling = c.args.search.now.ceiling.now in
    fits_below style takes_top style.top.count before ceiling (short_of before c.type_inv.before) c.args.search.now.short
    top (subst (λ (lists : List (List ℕ)). Contains lists top)
    (c.as_slice.ensures.value ∙ (c.in_ok-tops.ensures ∙ ap (λ (most : ℕ). area_lists style takes_top most before ceiling)
    c.top_count.ensures)) m)

pub returns : goal.returns
returns c =
    let style = c.args.search.now.style.now in
    let before = c.args.before.now in
    let ceiling = c.args.search.now.ceiling.now in
    subst (λ (tops : List (List ℕ)). OnOk c.push_each_top.result (c.push_each_top.new.layouts.items
    ≡ c.args.layouts.now.items ++ flat_map (bottoms_behind style before ceiling c.args.run c.args.wide.now) tops))
    (c.as_slice.ensures.value ∙ (c.in_ok-tops.ensures ∙ ap (λ (most : ℕ). area_lists style takes_top most before ceiling)
    c.top_count.ensures)) c.push_each_top.ensures
