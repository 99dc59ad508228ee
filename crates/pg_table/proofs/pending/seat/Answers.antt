use Rattle.std.proofs.Common.{◌<◌, length, subst, arith}
use Rattle.std.specs.Prelude.{IfSome}
use Rattle.pg_table.specs.Pending.{IsMetAt}
use Rattle.pg_table.proofs.Store.{place_within}
use Rattle.pg_table.proofs.Seats.{met_seated, put_seated}
use Rattle.pg_table.proofs.pending.seat.Goals as goal

pub add_turn-requires-clause-within : goal.add_turn-requires-clause-within
add_turn-requires-clause-within g c =
    let w : c.in_ok-place.place < length c.place_of.new.self.buckets.items =
    place_within _ _ c.requires.stored.stored.long _ _ _ _ _ c.in_ok-place.ensures.placed in
    omega (arith, c.place_of.new.self.buckets.ok.0, w)

pub returns-in-Some : goal.returns-in-Some
returns-in-Some g c =
    met_seated _ g.met.S.Key.Eq.laws _ (g.met.S.Space.lawful c.args.space.now) _ _ _ _ c.requires.stored.stored _
    c.requires.own _ (subst (λ o. IfSome o (IsMetAt (g.S.Space.meaning c.args.space.now) c.args.state.now
    c.args.pending.now.buckets.items)) c.in-Some.is c.requires.known)

pub returns : goal.returns
returns g c =
    put_seated _ _ _ _ _ _ _ _ _ _ _ _ _ _ c.in_ok-key.ensures c.in_ok-place.ensures.placed
    c.in_ok-place.ensures.turns c.add_turn.ensures.keys c.add_turn.ensures.buckets c.in_ok-add_turn.ensures.turns
    c.in_ok-add_turn.ensures.heap
