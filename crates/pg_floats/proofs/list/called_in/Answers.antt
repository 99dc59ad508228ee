use Rattle.std.proofs.Common.{◌≡◌, ◌∙◌, ◌≤◌, ap, subst, length, List, true, false}
use Rattle.std.specs.Prelude.{nat_lt}
use Rattle.std.specs.List.Sorted.{IsPartitionedBy, IsPartitionPoint}
use Rattle.pg_floats.specs.declared.callouts.Callout.{Callout}
use Rattle.pg_floats.specs.FloatsValue.{ClassFloatsValue}
use Rattle.pg_floats.specs.Callouts.{callouts_from, no_barrier}
use Rattle.pg_floats.specs.Places.{places_from}
use Rattle.pg_floats.proofs.Called.{above_is, before_is}
use Rattle.pg_floats.proofs.list.called_in.Goals as goal

pub returns : goal.returns
returns c = λ blocks number all own.
    let P : List Callout → Type 0 = λ xs.
    IsPartitionedBy (λ (callout : Callout). nat_lt callout.block c.args.place.block) xs →
    IsPartitionPoint (λ (callout : Callout). nat_lt callout.block c.args.place.block ≡ true)
    (λ (callout : Callout). nat_lt callout.block c.args.place.block ≡ false) xs c.called_above-above.result in
    let Q : List Callout → Type 0 = λ xs. c.called_above-above.result ≤ length xs in
    let is = c.floats.view_is ∙ own in
    let same : c.as_slice.result.now ≡ callouts_from number no_barrier 0 blocks =
    c.as_slice.ensures.items ∙ ap (λ (v : ClassFloatsValue). v.callouts) is in
    let places-same : c.as_slice-2.result.now ≡ places_from number 0 blocks =
    c.as_slice-2.ensures.value ∙ ap (λ (v : ClassFloatsValue). v.places) is in
    before_is number c.called_above-above.result c.inserts_before-within.result blocks c.args.place
    (above_is number no_barrier c.args.place.block c.called_above-above.result blocks all
    (subst Q same c.called_above-above.ensures.within) (subst P same c.called_above-above.ensures.point))
    (c.inserts_before-within.ensures.value blocks number places-same)
