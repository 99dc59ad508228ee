use Rattle.std.proofs.Common.{◌≡◌, ◌++◌, ◌∙◌, ap, subst, map, List, ℕ, OnOk}
use Rattle.pg_rules.specs.Floats.{takes_in_column}
use Rattle.pg_layouts.specs.Behind.{floats_alone}
use Rattle.pg_layouts.specs.Layouts.{area_lists}
use Rattle.pg_layouts.proofs.Fits.{zeros_made}
use Rattle.pg_layouts.proofs.Answered.{at_err}
use Rattle.pg_layouts.proofs.layouts.push_floats.Goals as goal

pub returns-in_err-tops : goal.returns-in_err-tops
returns-in_err-tops c = at_err _ c.from_residual.result c.from_residual.ensures.0

pub zeros-none-requires : goal.zeros-none-requires
zeros-none-requires c = c.args.search.now.few

pub returns : goal.returns
returns c =
    let tops : c.as_slice.result.now ≡ area_lists c.args.search.now.style.now takes_in_column
    c.args.search.now.style.now.float_column.count c.args.before.now c.args.search.now.ceiling.now =
    c.as_slice.ensures.value ∙ (c.in_ok-tops.ensures ∙ ap (λ (most : ℕ). area_lists c.args.search.now.style.now
    takes_in_column most c.args.before.now c.args.search.now.ceiling.now) c.float_count.ensures) in
    subst (λ (none : List ℕ). OnOk c.push_each_float.result (c.push_each_float.new.layouts.items
    ≡ c.args.layouts.now.items ++ map (floats_alone c.args.run c.args.wide.now none)
    (area_lists c.args.search.now.style.now takes_in_column c.args.search.now.style.now.float_column.count c.args.before.now
    c.args.search.now.ceiling.now)))
    (c.zeros-none.ensures ∙ zeros_made c.args.search.now.style.now c.args.search.now.slots c.args.search.now.count)
    (subst (λ (tops : List (List ℕ)). OnOk c.push_each_float.result (c.push_each_float.new.layouts.items
    ≡ c.args.layouts.now.items ++ map (floats_alone c.args.run c.args.wide.now c.zeros-none.result) tops))
    tops c.push_each_float.ensures)
