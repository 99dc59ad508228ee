use Rattle.std.proofs.Common.{◌≡◌, ◌+◌, rules, arith, sym, ap, subst, refl, ◌∙◌, [], List, Option, IfSome, None, length, w64, to_z, of_z}
use Rattle.std.specs.Option.{option_copied}
use Rattle.std.proofs.lemmas.Int.{to_z-of_z}
use mir.Val.{SFits}
use Rattle.pg_rules.specs.Legal.{document}
use Rattle.pg_column.specs.Passed.{fits, is_end_here}
use Rattle.pg_hops.specs.Ahead.{front_ahead, items_ahead}
use Rattle.law_walk.specs.Candidates.{Candidate}
use Rattle.pg_hops.specs.Needs.{AreNeeds, AreNoted}
use Rattle.pg_hops.specs.Quiet.{is_quiet}
use Rattle.pg_notes.specs.declared.sums.NoteSum.{NoteSum}
use Rattle.pg_hops.specs.View.{IsFor, view}
use Rattle.pg_hops.specs.declared.passed.Passed.{Passed}
use Rattle.pg_hops.proofs.Along.{end_past, end_reach, last, none_left}
use Rattle.pg_hops.specs.Hop.{MayHop}
use Rattle.pg_hops.proofs.PlainOn.{hop_end}
use Rattle.pg_hops.proofs.Quiet.{end_along}
use Rattle.pg_hops.proofs.Stepped.{over_past, over_reach, step_past, step_reach, stop_reach}
use Rattle.pg_candidates.specs.View.{passed_of}
use Rattle.pg_candidates.specs.declared.along.Walked.{Walked}
use Rattle.pg_candidates.proofs.Stretched.{end_ends, over_ends, over_quiet, step_ends, step_quiet, stop_ends}
use Rattle.pg_candidates.proofs.Handed.{all_taken, handed, taking_on}
use Rattle.pg_candidates.proofs.along.walk_on.Goals as goal

-- nothing is said of no state
of_none : {S : Type 0} (P : S → Type 0) (o : Option S) → o ≡ None → IfSome o P
of_none P o e = subst (λ o. IfSome o P) (sym e) tt

pub hand_on-requires-clause-noted : goal.hand_on-requires-clause-noted
hand_on-requires-clause-noted g c =
    subst (λ (it : Candidate). AreNoted c.args.style.now it.passed.notes c.ahead.noted) (sym c.end_to-end.ensures)
    c.ahead.invariant.noted

pub hand_on-requires-clause-needs : goal.hand_on-requires-clause-needs
hand_on-requires-clause-needs g c =
    subst (λ (it : Candidate). AreNeeds c.args.style.now it.passed c.with-needs.result) (sym c.end_to-end.ensures)
    (c.with-needs.ensures c.args.style.now c.ahead.invariant.noted)

pub end_at-requires-clause-noted : goal.end_at-requires-clause-noted
end_at-requires-clause-noted g c =
    subst (λ (it : Candidate). AreNoted c.args.style.now it.passed.notes c.ahead.noted)
    (sym c.end_to-end-in-ahead.ensures) c.ahead.invariant.noted

pub end_at-requires-2-clause-noted : goal.end_at-requires-2-clause-noted
end_at-requires-2-clause-noted g c =
    subst (λ (it : Candidate). AreNoted c.args.style.now it.passed.notes c.ahead.noted) (sym c.end_to-last.ensures)
    c.ahead.invariant.noted

pub hop_on-at-requires-clause-needs : goal.hop_on-at-requires-clause-needs
hop_on-at-requires-clause-needs g c = c.with-needs.ensures c.args.style.now c.ahead.invariant.noted

pub go-requires-clause-end : goal.go-requires-clause-end
go-requires-clause-end g c =
    c.ends_at-is_end.ensures
    ∙ ap (is_end_here c.args.galley.now.blocks (view c.ahead.passed)) c.place-here-in-ahead.ensures

pub returns-in_default-go-clause-ends : goal.returns-in_default-go-clause-ends
returns-in_default-go-clause-ends g c =
    let f0 : SFits w64 c.args.top = search rules in
    let f1 : SFits w64 c.args.start.now.demerits = search rules in
    let doc = document c.args.galley.now c.args.style.now in
    let top = to_z w64 (of_z w64 c.args.top) in
    let demerits = c.args.start.now.demerits in
    simp to_z-of_z at (all_taken (g.T.TakesEnds.Took c.args.style.now) (g.met.T.TakesEnds.both_taken c.args.style.now) c.args.found.now c.ahead.found
    c.end_at.new.found _ _ _ c.ahead.invariant.ends
    (handed (g.T.TakesEnds.Took c.args.style.now) doc c.ahead.found c.end_at.new.found _ _ _ c.end_to-end-in-ahead.ensures
    (c.in_ok-end_at.ensures c.args.galley.now) c.ends_at-is_end.ensures)
    (stop_ends doc top c.ahead.at c.place-here-in-ahead.result c.place-here-in-ahead.ensures (view c.ahead.passed)
    c.args.start.now.picks.now demerits [] _ refl c.in_default-go.ensures.stops))

pub returns-in_default-go-clause-past : goal.returns-in_default-go-clause-past
returns-in_default-go-clause-past g c =
    let f0 : SFits w64 c.args.top = search rules in
    let doc = document c.args.galley.now c.args.style.now in
    ap (λ (w : Walked). passed_of w.state) c.stopped-in_default-go.ensures
    ∙ (sym (c.in_default-go.ensures.stops.past c.args.top)
    ∙ (simp to_z-of_z at c.ahead.invariant.past))

pub returns-then-not-fits-clause-ends : goal.returns-then-not-fits-clause-ends
returns-then-not-fits-clause-ends g c =
    let f0 : SFits w64 c.args.top = search rules in
    let f1 : SFits w64 c.args.start.now.demerits = search rules in
    let doc = document c.args.galley.now c.args.style.now in
    let top = to_z w64 (of_z w64 c.args.top) in
    let demerits = c.args.start.now.demerits in
    simp to_z-of_z at (all_taken (g.T.TakesEnds.Took c.args.style.now) (g.met.T.TakesEnds.both_taken c.args.style.now) c.args.found.now c.ahead.found
    c.hand_on.new.found _ _ _ c.ahead.invariant.ends
    (handed (g.T.TakesEnds.Took c.args.style.now) doc c.ahead.found c.hand_on.new.found _ _ _ c.end_to-end.ensures
    (c.in_ok-hand_on.ensures c.args.galley.now)
    (hop_end c.args.galley.now.blocks c.args.style.now.maxdepth (view c.ahead.passed) c.ahead.at c.place-here.result
    c.in-Some.hop.now c.place-here.ensures
    (subst (λ o. MayHop c.args.galley.now.blocks c.args.style.now.maxdepth (view c.ahead.passed) c.ahead.at
    (option_copied o)) c.in-Some.is (c.hop_ahead.ensures c.args.galley.now.blocks c.args.style.now.maxdepth
    c.requires.hops))))
    (over_ends doc top c.ahead.at c.place-here.result c.place-here.ensures (view c.ahead.passed)
    c.args.start.now.picks.now demerits [] _ refl c.hop_on-at.result (view c.hop_on-at.new.passed) c.hop_on-at.ensures.goes
    (sym c.fits.ensures ∙ c.if-not-fits.true)))

pub returns-then-not-fits-2-clause-ends : goal.returns-then-not-fits-2-clause-ends
returns-then-not-fits-2-clause-ends g c =
    let f0 : SFits w64 c.args.top = search rules in
    let f1 : SFits w64 c.args.start.now.demerits = search rules in
    let doc = document c.args.galley.now c.args.style.now in
    let top = to_z w64 (of_z w64 c.args.top) in
    let demerits = c.args.start.now.demerits in
    simp to_z-of_z at (all_taken (g.T.TakesEnds.Took c.args.style.now) (g.met.T.TakesEnds.both_taken c.args.style.now) c.args.found.now c.ahead.found
    c.end_at.new.found _ _ _ c.ahead.invariant.ends
    (handed (g.T.TakesEnds.Took c.args.style.now) doc c.ahead.found c.end_at.new.found _ _ _ c.end_to-end-in-ahead.ensures
    (c.in_ok-end_at.ensures c.args.galley.now) c.ends_at-is_end.ensures)
    (over_ends doc top c.ahead.at c.place-here-in-ahead.result c.place-here-in-ahead.ensures (view c.ahead.passed)
    c.args.start.now.picks.now demerits [] _ refl c.in-Some-go.next (view c.go.new.passed) c.in-Some-go.ensures.goes
    (sym c.fits-in-ahead.ensures ∙ c.if-not-fits-2.true)))

pub returns-then-not-fits-clause-past : goal.returns-then-not-fits-clause-past
returns-then-not-fits-clause-past g c =
    let f0 : SFits w64 c.args.top = search rules in
    let doc = document c.args.galley.now c.args.style.now in
    ap (λ (w : Walked). passed_of w.state) c.stopped.ensures
    ∙ (over_past doc c.args.top c.ahead.at c.hop_on-at.result (view c.ahead.passed) (view c.hop_on-at.new.passed)
    c.hop_on-at.ensures.goes
    (sym (c.fits.ensures
    ∙ ap (fits c.hop_on-at.new.passed.bound) (to_z-of_z w64 c.args.top (record { sfits = search rules })))
    ∙ c.if-not-fits.true)
    ∙ (simp to_z-of_z at c.ahead.invariant.past))

pub returns-then-not-fits-2-clause-past : goal.returns-then-not-fits-2-clause-past
returns-then-not-fits-2-clause-past g c =
    let f0 : SFits w64 c.args.top = search rules in
    let doc = document c.args.galley.now c.args.style.now in
    ap (λ (w : Walked). passed_of w.state) c.stopped-then-not-fits-2.ensures
    ∙ (over_past doc c.args.top c.ahead.at c.in-Some-go.next (view c.ahead.passed) (view c.go.new.passed)
    c.in-Some-go.ensures.goes
    (sym (c.fits-in-ahead.ensures
    ∙ ap (fits c.go.new.passed.bound) (to_z-of_z w64 c.args.top (record { sfits = search rules })))
    ∙ c.if-not-fits-2.true)
    ∙ (simp to_z-of_z at c.ahead.invariant.past))

pub ahead-init : goal.ahead-init
ahead-init g c = record {
  settled = c.requires.settled;
  front = refl;
  style = c.requires.style;
  bound = ap (fits c.args.start.now.passed.bound) (to_z-of_z w64 c.args.top (record { sfits = search rules }))
      ∙ c.requires.bound;
  sums = refl;
  notes = refl;
  noted = c.of-noted.ensures;
  past = refl;
  ends = ([], (g.met.T.TakesEnds.none_taken c.args.style.now c.args.found.now, refl));
  reach = grind (arith);
  quiet = refl;
}

pub ahead-preserved-in-Some : goal.ahead-preserved-in-Some
ahead-preserved-in-Some g c =
    let f1 : SFits w64 c.args.start.now.demerits = search rules in
    let doc = document c.args.galley.now c.args.style.now in
    let top = to_z w64 (of_z w64 c.args.top) in
    let demerits = c.args.start.now.demerits in
    let to = c.hop_on-at.result in
    let old = view c.ahead.passed in
    let new = view c.hop_on-at.new.passed in
    let went = c.hop_on-at.ensures.goes in
    let counts = c.hop_on-at.ensures.counts in
    let bound = sym c.fits.ensures ∙ c.if-not-fits.false in
    record {
      settled = went.settled;
      front = went.front ∙ c.ahead.invariant.front;
      style = c.hop_on-at.ensures.style;
      bound = bound;
      sums = counts.0.passed ∙ c.ahead.invariant.sums;
      notes = counts.1.passed ∙ c.ahead.invariant.notes;
      noted = subst (λ (notes : List NoteSum). AreNoted c.args.style.now notes c.ahead.noted)
          (sym c.hop_on-at.ensures.notes) c.ahead.invariant.noted;
      past = step_past doc top c.ahead.at to old new went bound ∙ c.ahead.invariant.past;
      ends = taking_on (g.T.TakesEnds.Took c.args.style.now) (g.met.T.TakesEnds.both_taken c.args.style.now) c.args.found.now c.ahead.found
          c.hand_on.new.found _ _ _ c.ahead.invariant.ends
          (handed (g.T.TakesEnds.Took c.args.style.now) doc c.ahead.found c.hand_on.new.found _ _ _ c.end_to-end.ensures
          (c.in_ok-hand_on.ensures c.args.galley.now)
          (hop_end c.args.galley.now.blocks c.args.style.now.maxdepth (view c.ahead.passed) c.ahead.at c.place-here.result
          c.in-Some.hop.now c.place-here.ensures
          (subst (λ o. MayHop c.args.galley.now.blocks c.args.style.now.maxdepth (view c.ahead.passed) c.ahead.at
          (option_copied o)) c.in-Some.is (c.hop_ahead.ensures c.args.galley.now.blocks c.args.style.now.maxdepth
          c.requires.hops)))) _
          (step_ends doc top c.ahead.at c.place-here.result c.place-here.ensures old c.args.start.now.picks.now demerits
          [] _ refl to new went bound);
      reach = step_reach c.ahead.at c.place-here.result c.place-here.ensures c.ahead.greatest
          c.max-greatest.result c.max-greatest.ensures doc top to old new went bound
          ∙ c.ahead.invariant.reach;
      quiet = step_quiet doc top c.ahead.at to old new went bound ∙ c.ahead.invariant.quiet;
    }

pub ahead-preserved : goal.ahead-preserved
ahead-preserved g c =
    let f1 : SFits w64 c.args.start.now.demerits = search rules in
    let doc = document c.args.galley.now c.args.style.now in
    let top = to_z w64 (of_z w64 c.args.top) in
    let demerits = c.args.start.now.demerits in
    let to = c.in-Some-go.next in
    let old = view c.ahead.passed in
    let new = view c.go.new.passed in
    let went = c.in-Some-go.ensures.goes in
    let counts = c.in-Some-go.ensures.counts in
    let bound = sym c.fits-in-ahead.ensures ∙ c.if-not-fits-2.false in
    record {
      settled = went.settled;
      front = went.front ∙ c.ahead.invariant.front;
      style = c.go.ensures.style;
      bound = bound;
      sums = counts.0.passed ∙ c.ahead.invariant.sums;
      notes = counts.1.passed ∙ c.ahead.invariant.notes;
      noted = c.of-noted-in-ahead.ensures;
      past = step_past doc top c.ahead.at to old new went bound ∙ c.ahead.invariant.past;
      ends = taking_on (g.T.TakesEnds.Took c.args.style.now) (g.met.T.TakesEnds.both_taken c.args.style.now) c.args.found.now c.ahead.found
          c.end_at.new.found _ _ _ c.ahead.invariant.ends
          (handed (g.T.TakesEnds.Took c.args.style.now) doc c.ahead.found c.end_at.new.found _ _ _ c.end_to-end-in-ahead.ensures
          (c.in_ok-end_at.ensures c.args.galley.now) c.ends_at-is_end.ensures) _
          (step_ends doc top c.ahead.at c.place-here-in-ahead.result c.place-here-in-ahead.ensures old c.args.start.now.picks.now demerits
          [] _ refl to new went bound);
      reach = step_reach c.ahead.at c.place-here-in-ahead.result c.place-here-in-ahead.ensures c.ahead.greatest
          c.max-greatest-in-ahead.result c.max-greatest-in-ahead.ensures doc top to old new went bound
          ∙ c.ahead.invariant.reach;
      quiet = step_quiet doc top c.ahead.at to old new went bound ∙ c.ahead.invariant.quiet;
    }

pub returns-clause-ends : goal.returns-clause-ends
returns-clause-ends g c =
    let f0 : SFits w64 c.args.top = search rules in
    let f1 : SFits w64 c.args.start.now.demerits = search rules in
    let doc = document c.args.galley.now c.args.style.now in
    let top = to_z w64 (of_z w64 c.args.top) in
    let demerits = c.args.start.now.demerits in
    simp to_z-of_z at (all_taken (g.T.TakesEnds.Took c.args.style.now) (g.met.T.TakesEnds.both_taken c.args.style.now) c.args.found.now c.ahead.found
    c.end_at-2.new.found _ _ _ c.ahead.invariant.ends
    (handed (g.T.TakesEnds.Took c.args.style.now) doc c.ahead.found c.end_at-2.new.found _ _ _ c.end_to-last.ensures
    (c.in_ok-end_at-2.ensures c.args.galley.now) c.is_end-is_end.ensures)
    (end_ends doc top c.ahead.at c.ahead.invariant.settled c.in_default-item.ensures.item (view c.ahead.passed)
    c.args.start.now.picks.now demerits c.place-front.result c.place-front.ensures [] _ refl))

pub returns-clause-past : goal.returns-clause-past
returns-clause-past g c =
    let f0 : SFits w64 c.args.top = search rules in
    let doc = document c.args.galley.now c.args.style.now in
    ap (λ (w : Walked). passed_of w.state) c.at_front.ensures
    ∙ (end_past doc c.args.top c.ahead.at c.ahead.invariant.settled c.in_default-item.ensures.item (view c.ahead.passed)
    (simp to_z-of_z at c.ahead.invariant.bound)
    ∙ (simp to_z-of_z at c.ahead.invariant.past))

pub returns-clause-front : goal.returns-clause-front
returns-clause-front g c =
    let doc = document c.args.galley.now c.args.style.now in
    let done = last doc c.args.top c.ahead.at c.ahead.invariant.settled c.in_default-item.ensures.item
    (view c.ahead.passed) in
    subst (λ (w : Walked). IfSome w.state (λ s. s.block ≡ front_ahead c.args.galley.now.blocks c.args.start.now.at))
    (sym c.at_front.ensures) (sym done.front ∙ c.ahead.invariant.front)

pub returns-clause-style : goal.returns-clause-style
returns-clause-style g c =
    subst (λ (w : Walked). IfSome w.state (λ s. IsFor c.args.style.now s.passed)) (sym c.at_front.ensures)
    c.ahead.invariant.style

pub returns-clause-counts : goal.returns-clause-counts
returns-clause-counts g c =
    let doc = document c.args.galley.now c.args.style.now in
    let none = none_left doc c.args.top c.ahead.at c.ahead.invariant.settled c.in_default-item.ensures.item
    (view c.ahead.passed) in
    let blocks = c.args.galley.now.blocks in
    let before = c.args.start.now.passed in
    subst (λ (w : Walked). IfSome w.state (λ s.
    (s.passed.sums.count ≡ before.sums.count + length (items_ahead blocks c.args.start.now.at))
    × (s.passed.notes.count ≡ before.notes.count + length (items_ahead blocks c.args.start.now.at)))) (sym c.at_front.ensures)
    (omega (arith, none, c.ahead.invariant.sums), omega (arith, none, c.ahead.invariant.notes))

pub returns-in_default-go-clause-reach : goal.returns-in_default-go-clause-reach
returns-in_default-go-clause-reach g c =
    let f0 : SFits w64 c.args.top = search rules in
    let doc = document c.args.galley.now c.args.style.now in
    ap (λ (w : Walked). w.greatest) c.stopped-in_default-go.ensures
    ∙ (stop_reach c.ahead.at c.place-here-in-ahead.result c.place-here-in-ahead.ensures c.ahead.greatest c.max-greatest-in-ahead.result
    c.max-greatest-in-ahead.ensures doc c.args.top (view c.ahead.passed) c.in_default-go.ensures.stops
    (front_ahead c.args.galley.now.blocks c.ahead.at)
    ∙ (simp to_z-of_z at c.ahead.invariant.reach))

pub returns-in_default-go-clause-quiet : goal.returns-in_default-go-clause-quiet
returns-in_default-go-clause-quiet g c =
    let f0 : SFits w64 c.args.top = search rules in
    ap (λ (w : Walked). w.is_quiet) c.stopped-in_default-go.ensures
    ∙ (ap (λ (p : Passed). is_quiet c.args.style.now (view p)) c.in_default-go.ensures.same
    ∙ (sym (c.in_default-go.ensures.stops.quiet c.args.top)
    ∙ (simp to_z-of_z at c.ahead.invariant.quiet)))

pub returns-then-not-fits-clause-reach : goal.returns-then-not-fits-clause-reach
returns-then-not-fits-clause-reach g c =
    let f0 : SFits w64 c.args.top = search rules in
    let doc = document c.args.galley.now c.args.style.now in
    ap (λ (w : Walked). w.greatest) c.stopped.ensures
    ∙ (over_reach c.ahead.at c.place-here.result c.place-here.ensures c.ahead.greatest c.max-greatest.result
    c.max-greatest.ensures doc c.args.top c.hop_on-at.result (view c.ahead.passed) (view c.hop_on-at.new.passed)
    c.hop_on-at.ensures.goes
    (sym (c.fits.ensures
    ∙ ap (fits c.hop_on-at.new.passed.bound) (to_z-of_z w64 c.args.top (record { sfits = search rules })))
    ∙ c.if-not-fits.true)
    ∙ (simp to_z-of_z at c.ahead.invariant.reach))

pub returns-then-not-fits-2-clause-reach : goal.returns-then-not-fits-2-clause-reach
returns-then-not-fits-2-clause-reach g c =
    let f0 : SFits w64 c.args.top = search rules in
    let doc = document c.args.galley.now c.args.style.now in
    ap (λ (w : Walked). w.greatest) c.stopped-then-not-fits-2.ensures
    ∙ (over_reach c.ahead.at c.place-here-in-ahead.result c.place-here-in-ahead.ensures c.ahead.greatest c.max-greatest-in-ahead.result
    c.max-greatest-in-ahead.ensures doc c.args.top c.in-Some-go.next (view c.ahead.passed) (view c.go.new.passed)
    c.in-Some-go.ensures.goes
    (sym (c.fits-in-ahead.ensures
    ∙ ap (fits c.go.new.passed.bound) (to_z-of_z w64 c.args.top (record { sfits = search rules })))
    ∙ c.if-not-fits-2.true)
    ∙ (simp to_z-of_z at c.ahead.invariant.reach))

pub returns-then-not-fits-clause-quiet : goal.returns-then-not-fits-clause-quiet
returns-then-not-fits-clause-quiet g c =
    let f0 : SFits w64 c.args.top = search rules in
    let doc = document c.args.galley.now c.args.style.now in
    ap (λ (w : Walked). w.is_quiet) c.stopped.ensures
    ∙ (over_quiet doc c.args.top c.ahead.at c.hop_on-at.result (view c.ahead.passed) (view c.hop_on-at.new.passed)
    c.hop_on-at.ensures.goes
    (sym (c.fits.ensures
    ∙ ap (fits c.hop_on-at.new.passed.bound) (to_z-of_z w64 c.args.top (record { sfits = search rules })))
    ∙ c.if-not-fits.true)
    ∙ (simp to_z-of_z at c.ahead.invariant.quiet))

pub returns-then-not-fits-2-clause-quiet : goal.returns-then-not-fits-2-clause-quiet
returns-then-not-fits-2-clause-quiet g c =
    let f0 : SFits w64 c.args.top = search rules in
    let doc = document c.args.galley.now c.args.style.now in
    ap (λ (w : Walked). w.is_quiet) c.stopped-then-not-fits-2.ensures
    ∙ (over_quiet doc c.args.top c.ahead.at c.in-Some-go.next (view c.ahead.passed) (view c.go.new.passed)
    c.in-Some-go.ensures.goes
    (sym (c.fits-in-ahead.ensures
    ∙ ap (fits c.go.new.passed.bound) (to_z-of_z w64 c.args.top (record { sfits = search rules })))
    ∙ c.if-not-fits-2.true)
    ∙ (simp to_z-of_z at c.ahead.invariant.quiet))

pub returns-clause-reach : goal.returns-clause-reach
returns-clause-reach g c =
    let f0 : SFits w64 c.args.top = search rules in
    let doc = document c.args.galley.now c.args.style.now in
    end_reach doc c.args.top c.ahead.at c.ahead.invariant.settled c.in_default-item.ensures.item (view c.ahead.passed)
    c.ahead.greatest c.at_front.result.greatest (ap (λ (w : Walked). w.greatest) c.at_front.ensures)
    ∙ (simp to_z-of_z at c.ahead.invariant.reach)

pub returns-clause-quiet : goal.returns-clause-quiet
returns-clause-quiet g c =
    let f0 : SFits w64 c.args.top = search rules in
    let doc = document c.args.galley.now c.args.style.now in
    ap (λ (w : Walked). w.is_quiet) c.at_front.ensures
    ∙ (ap (is_quiet c.args.style.now)
    (end_along doc c.args.top c.ahead.at c.ahead.invariant.settled c.in_default-item.ensures.item (view c.ahead.passed))
    ∙ (simp to_z-of_z at c.ahead.invariant.quiet))

pub returns-in_default-go-clause-front : goal.returns-in_default-go-clause-front
returns-in_default-go-clause-front g c = of_none _ c.stopped-in_default-go.result.state
    (ap (λ (w : Walked). w.state) c.stopped-in_default-go.ensures)

pub returns-in_default-go-clause-style : goal.returns-in_default-go-clause-style
returns-in_default-go-clause-style g c = of_none _ c.stopped-in_default-go.result.state
    (ap (λ (w : Walked). w.state) c.stopped-in_default-go.ensures)

pub returns-in_default-go-clause-counts : goal.returns-in_default-go-clause-counts
returns-in_default-go-clause-counts g c = of_none _ c.stopped-in_default-go.result.state
    (ap (λ (w : Walked). w.state) c.stopped-in_default-go.ensures)

pub returns-then-not-fits-clause-front : goal.returns-then-not-fits-clause-front
returns-then-not-fits-clause-front g c = of_none _ c.stopped.result.state
    (ap (λ (w : Walked). w.state) c.stopped.ensures)

pub returns-then-not-fits-clause-style : goal.returns-then-not-fits-clause-style
returns-then-not-fits-clause-style g c = of_none _ c.stopped.result.state
    (ap (λ (w : Walked). w.state) c.stopped.ensures)

pub returns-then-not-fits-clause-counts : goal.returns-then-not-fits-clause-counts
returns-then-not-fits-clause-counts g c = of_none _ c.stopped.result.state
    (ap (λ (w : Walked). w.state) c.stopped.ensures)

pub returns-then-not-fits-2-clause-front : goal.returns-then-not-fits-2-clause-front
returns-then-not-fits-2-clause-front g c = of_none _ c.stopped-then-not-fits-2.result.state
    (ap (λ (w : Walked). w.state) c.stopped-then-not-fits-2.ensures)

pub returns-then-not-fits-2-clause-style : goal.returns-then-not-fits-2-clause-style
returns-then-not-fits-2-clause-style g c = of_none _ c.stopped-then-not-fits-2.result.state
    (ap (λ (w : Walked). w.state) c.stopped-then-not-fits-2.ensures)

pub returns-then-not-fits-2-clause-counts : goal.returns-then-not-fits-2-clause-counts
returns-then-not-fits-2-clause-counts g c = of_none _ c.stopped-then-not-fits-2.result.state
    (ap (λ (w : Walked). w.state) c.stopped-then-not-fits-2.ensures)
