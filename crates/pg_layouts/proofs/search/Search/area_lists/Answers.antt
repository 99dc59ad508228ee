use Rattle.std.proofs.Common.{◌≡◌, ◌∙◌, subst, List, ℕ, IfOk}
use Rattle.std.proofs.lemmas.Result.{IfOk-from_err}
use Rattle.pg_layouts.specs.Counts.{count_lists}
use Rattle.pg_layouts.proofs.search.Search.area_lists.Goals as goal

pub area_limits-requires : goal.area_limits-requires
area_limits-requires c = c.args.self.now.count

pub returns-in_err-limits : goal.returns-in_err-limits
returns-in_err-limits c = IfOk-from_err c.from_residual.result _ c.from_residual.ensures.0

pub returns : goal.returns
returns c = subst (λ (limits : List ℕ). IfOk c.count_lists.result (λ lists. lists ≡ count_lists c.args.most limits))
    (c.as_slice.ensures ∙ c.in_ok-limits.ensures) c.count_lists.ensures
