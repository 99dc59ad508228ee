use Rattle.std.proofs.Common.{◌∙◌, arith, rules, w64, to_z, of_z}
use Rattle.std.proofs.lemmas.Int.{ints, to_z-of_z}
use Rattle.pg_hops.specs.View.{view}
use Rattle.pg_hops.proofs.LeapBound.{least_not_over}
use Rattle.pg_hops.proofs.passed.Passed.least_with.Goals as goal

pub returns-else-over-shrunk-clause-value : goal.returns-else-over-shrunk-clause-value
returns-else-over-shrunk-clause-value c =
    let p = view c.args.self.now in
    let total = to_z-of_z w64 c.total.result (record { sfits = search rules }) in
    let notes = to_z-of_z w64 c.args.notes (record { sfits = search rules }) in
    let shrink = to_z-of_z w64 c.shrink.result (record { sfits = search rules }) in
    let full = to_z-of_z w64 c.plus-full.result (record { sfits = search rules }) in
    least_not_over p.totals.total c.args.notes p.totals.shrink (to_z w64 (of_z w64 c.plus-full.result)) _
    (to_z w64 (of_z w64 c.minus-shrunk.result))
    (omega (arith, ints, total, notes, full, c.plus-full.ensures.value, c.total.ensures.value))
    (to_z-of_z w64 c.plus-over.result (record { sfits = search rules }) ∙ c.plus-over.ensures.value)
    (to_z-of_z w64 c.minus-shrunk.result (record { sfits = search rules })
    ∙ omega (arith, ints, shrink, c.minus-shrunk.ensures.value, c.shrink.ensures.value))
    c.if-over-shrunk.false
