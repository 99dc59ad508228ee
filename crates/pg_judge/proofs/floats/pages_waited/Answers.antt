use Rattle.std.proofs.Common.{arith, sym, ◌∙◌, ◌-◌, ◌≤◌, length}
use Rattle.std.specs.Prelude.{reverse}
use Rattle.std.proofs.lemmas.List.{length-take, length-take-le}
use Rattle.pg_list.specs.declared.galley.Place.{Place}
use Rattle.pg_rules.specs.History.{is_called}
use Rattle.pg_judge.specs.Bases.{doc_of}
use Rattle.pg_judge.proofs.Waiting.{wait_end, wait_limit, wait_on, wait_stop}
use Rattle.pg_judge.proofs.floats.pages_waited.Goals as goal

pub returns-then-left-eq0 : goal.returns-then-left-eq0
returns-then-left-eq0 c =
    let z = wait_limit (λ (turn : Place). is_called (doc_of c.args.basis.now) turn
    (c.args.slot, c.args.number)) c.turns.left (reverse c.turns.rest.now) c.if-left-eq0.true in
    omega (arith, z, c.turns.invariant.same)

pub returns-then-not-is_called : goal.returns-then-not-is_called
returns-then-not-is_called c =
    let z = wait_stop (λ (turn : Place). is_called (doc_of c.args.basis.now) turn
    (c.args.slot, c.args.number)) c.turns.left c.turns.rest.now _ c.if-left-eq0.false c.in-len1-up.len_at_least
    (sym c.is_called.ensures ∙ c.if-not-is_called.true) in
    omega (arith, z, c.turns.invariant.same)

pub turns-preserved : goal.turns-preserved
turns-preserved c =
    let z = wait_on (λ (turn : Place). is_called (doc_of c.args.basis.now) turn
    (c.args.slot, c.args.number)) c.turns.left c.turns.rest.now _ c.if-left-eq0.false c.in-len1-up.len_at_least
    (sym c.is_called.ensures ∙ c.if-not-is_called.false) in
    let l = length-take (length c.turns.rest.now - 1) c.turns.rest.now in
    let some : 1 ≤ c.turns.left = omega (arith, c.if-left-eq0.false) in
    record {
      few = omega (arith, c.turns.invariant.few);
      shorter = omega (arith, l, c.turns.invariant.shorter);
      same = omega (arith, z, some, c.turns.invariant.few, c.turns.invariant.same);
    }

pub returns : goal.returns
returns c =
    let z = wait_end (λ (turn : Place). is_called (doc_of c.args.basis.now) turn
    (c.args.slot, c.args.number)) c.turns.left c.turns.rest.now c.in_default.len_below in
    omega (arith, z, c.turns.invariant.same)

pub turns-init : goal.turns-init
turns-init c = record { few = omega arith; shorter = omega arith; same = omega arith }

pub overflow_sub-turn : goal.overflow_sub-turn
overflow_sub-turn c = c.in-len1-up.len_at_least

pub slice_bounds-before-count : goal.slice_bounds-before-count
slice_bounds-before-count c = c.in-len1-up.len_at_least

pub bounds-rest-rest : goal.bounds-rest-rest
bounds-rest-rest c = omega (arith, c.in-len1-up.len_at_least)

pub slice_bounds-before-length : goal.slice_bounds-before-length
slice_bounds-before-length c =
    sym (length-take-le (length c.turns.rest.now - 1) c.turns.rest.now (omega (arith, c.in-len1-up.len_at_least)))

pub overflow_sub-result : goal.overflow_sub-result
overflow_sub-result c = c.turns.invariant.few

pub is_called-requires : goal.is_called-requires
is_called-requires c = c.requires

pub overflow_sub-result-then-not-is_called : goal.overflow_sub-result-then-not-is_called
overflow_sub-result-then-not-is_called c = c.turns.invariant.few

pub overflow_sub-left : goal.overflow_sub-left
overflow_sub-left c = omega (arith, c.if-left-eq0.false)

pub turns-smaller : goal.turns-smaller
turns-smaller c =
    let l = length-take (length c.turns.rest.now - 1) c.turns.rest.now in
    omega (arith, l, c.in-len1-up.len_at_least)

pub overflow_sub-result-2 : goal.overflow_sub-result-2
overflow_sub-result-2 c = c.turns.invariant.few
