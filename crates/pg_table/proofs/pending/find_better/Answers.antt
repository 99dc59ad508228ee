use Rattle.std.proofs.Common.{arith}
use Rattle.std.proofs.lemmas.List.Elements.{All-contains, AllWithin-more, at_read}
use Rattle.pg_table.specs.Label.{IsLabel, NotBetterLabel}
use Rattle.pg_table.proofs.Lists.{past_end, found_within, found_is, found_in}
use Rattle.pg_table.proofs.pending.find_better.Goals as goal

pub betters-requires-clause-grounded : goal.betters-requires-clause-grounded
betters-requires-clause-grounded g c = c.requires.grounded

pub betters-requires-clause-a : goal.betters-requires-clause-a
betters-requires-clause-a g c =
    All-contains (IsLabel (g.S.Space.meaning c.args.space.now) c.args.entries.now) c.args.pending.now.items
    c.in-Some.other.now c.requires.pending (found_in _ c.held.i _ c.in-Some.ensures.label)

pub betters-requires-clause-b : goal.betters-requires-clause-b
betters-requires-clause-b g c = c.requires.label

pub returns-then-betters-clause-some : goal.returns-then-betters-clause-some
returns-then-betters-clause-some g c = (
  c.in-Some.other.now,
  (found_in _ c.held.i _ c.in-Some.ensures.label, c.betters.ensures.yes c.if-betters.true),
)

pub held-smaller : goal.held-smaller
held-smaller g c = let l = found_within c.args.pending.now.items c.held.i _ c.in-Some.ensures.label in
    omega (arith, l)

pub held-preserved : goal.held-preserved
held-preserved g c =
    AllWithin-more (λ p. NotBetterLabel
    (g.S.Space.meaning c.args.space.now) c.args.entries.now p c.args.label.now) c.args.pending.now.items 0
    c.held.i c.held.invariant
    (at_read c.args.pending.now.items (λ p. NotBetterLabel
    (g.S.Space.meaning c.args.space.now) c.args.entries.now p c.args.label.now) c.held.i c.in-Some.other.now
    (found_within c.args.pending.now.items c.held.i _ c.in-Some.ensures.label)
    (found_is c.args.pending.now.items c.held.i _ c.in-Some.ensures.label)
    (c.betters.ensures.no c.if-betters.false))

pub returns-clause-none : goal.returns-clause-none
returns-clause-none g c = λ k d l.
    let n = past_end c.args.pending.now.items c.held.i c.in_default.ensures.label in
    c.held.invariant k d (omega arith) (omega (arith, l, n))
