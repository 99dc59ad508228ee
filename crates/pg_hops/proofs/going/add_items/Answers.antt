use Rattle.std.proofs.Common.{◌+◌, sym, subst}
use Rattle.pg_sums.specs.SumsValue.{IsBounded}
use Rattle.pg_sums.specs.declared.totals.Totals.{Totals}
use Rattle.pg_hops.proofs.going.add_items.Goals as goal

pub take_totals-requires-clause-bounded : goal.take_totals-requires-clause-bounded
take_totals-requires-clause-bounded c =
    let count = c.args.passed.now.sums.count in
    subst (λ n. IsBounded c.moved-totals.result (count + n)) (sym c.count.ensures.value)
    (c.moved-totals.ensures.bounded count
    (subst (λ (t : Totals). IsBounded t count) (sym c.totals.ensures) c.stays_bounded.ensures))
