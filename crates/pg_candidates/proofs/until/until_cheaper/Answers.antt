use Rattle.std.proofs.Common.{rules, arith, IfSome, Option, subst, sym, ℤ, w64}
use Rattle.std.proofs.lemmas.Int.{ints, to_z-of_z}
use Rattle.pg_rules.specs.Legal.{document}
use Rattle.pg_candidates.specs.Nears.{IsServedFrom, IsWorst}
use Rattle.pg_candidates.specs.View.{candidate_of}
use Rattle.pg_candidates.proofs.Beside.{served_from}
use Rattle.pg_candidates.proofs.TooLow.{raised_above, raised_fits}
use Rattle.pg_candidates.proofs.until.until_cheaper.Goals as goal

pub returns : goal.returns
returns c = λ g same spent worst.
    let doc = document g c.args.style.now in
    let most = c.args.most.now.stretch in
    let one = candidate_of c.args.one.now in
    let other = candidate_of c.args.other.now in
    let own = to_z-of_z w64 c.in_ok-own.own (record { sfits = search rules }) in
    let its = to_z-of_z w64 c.in_ok-worst_from.field-0 (record { sfits = search rules }) in
    let room = to_z-of_z w64 c.greater-room.result (record { sfits = search rules }) in
    let raise = simp room at (sym c.raised.ensures) in
    let up = raised_above c.args.one.now.passed.bound c.greater-room.result c.raised.result raise in
    let worst_own = subst (λ (o : Option ℤ). IfSome o (IsWorst c.args.style.now most one)) c.in_ok-own.was worst in
    subst (IsServedFrom doc most one other) (sym (to_z-of_z w64 c.raised.result (record { sfits = search rules })))
    (served_from doc most c.stays_in_range.ensures.classes_in.each one other same spent (c.is_cheaper.ensures c.if-not-is_cheaper.false) c.in_ok-own.own
    c.in_ok-worst_from.field-0 c.raised.result worst_own c.in_ok-worst_from.ensures
    (omega (arith, ints, own, room, up, c.greater-room.ensures.first))
    (omega (arith, ints, its, room, up, c.greater-room.ensures.second)) (raised_fits c.args.one.now.passed.bound c.greater-room.result c.raised.result raise))
