use Rattle.std.proofs.Common.{rules, w64, ap, ◌∙◌, ℤ}
use Rattle.std.specs.Prelude.{◌+ℤ◌}
use Rattle.std.proofs.lemmas.Int.{to_z-of_z}
use mir.Val.{SFits}
use Rattle.pg_sums.specs.declared.totals.Totals.{Totals}
use Rattle.pg_hops.specs.View.{view}
use Rattle.pg_hops.proofs.LeapBound.{bound_is}
use Rattle.pg_hops.proofs.leaping.bound_behind.Goals as goal

pub returns : goal.returns
returns c =
    let f0 : SFits w64 c.least_room-least.result = search rules in
    let f1 : SFits w64 c.totals-depth.result.depth = search rules in
    let f2 : SFits w64 c.plus.result = search rules in
    let f3 : SFits w64 c.highest.result = search rules in
    let f4 : SFits w64 c.plus-most.result = search rules in
    let f5 : SFits w64 c.raised.result = search rules in
    let f6 : SFits w64 c.raised-2.result = search rules in
    simp to_z-of_z (bound_is c.args.style.now (view c.args.passed.now) c.args.leap.now c.requires
    c.least_room-least.result c.totals-depth.result.depth c.plus.result c.plus-most.result c.raised.result
    c.raised-2.result c.least_room-least.ensures.value (ap (λ (t : Totals). t.depth) c.totals-depth.ensures)
    (simp to_z-of_z at c.plus.ensures.value)
    ((simp to_z-of_z at c.plus-most.ensures.value) ∙ ap (λ (z : ℤ). c.plus.result +ℤ z) c.highest.ensures.value)
    (simp to_z-of_z at c.raised.ensures) (simp to_z-of_z at c.raised-2.ensures))
