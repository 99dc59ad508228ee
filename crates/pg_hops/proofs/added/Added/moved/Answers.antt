use Rattle.std.proofs.Common.{◌≡◌, ◌∙◌, sym, ap, subst, ◌+◌}
use Rattle.pg_sums.specs.SumsValue.{IsBounded}
use Rattle.pg_sums.specs.declared.totals.Totals.{Totals}
use Rattle.pg_hops.specs.Bounds.{AddedValue, IsLight}
use Rattle.pg_hops.specs.Shift.{shifted}
use Rattle.pg_hops.proofs.Light.{still_bounded}
use Rattle.pg_hops.proofs.added.Added.moved.Goals as goal

pub returns-clause-bounded : goal.returns-clause-bounded
returns-clause-bounded c = λ count bounded.
    let is : record { count = c.self.inside.count; shift = c.self.inside.shift } ≡ c.args.self.now = c.self.view_is in
    let light = subst (λ (v : AddedValue). IsLight v.shift v.count) is c.self.invariant.light in
    subst (λ (t : Totals). IsBounded t (count + c.args.self.now.count)) (sym (c.moved.ensures.value
    ∙ ap (λ (v : AddedValue). shifted c.args.totals v.shift) is))
    (still_bounded c.args.totals c.args.self.now.shift count c.args.self.now.count bounded light)
