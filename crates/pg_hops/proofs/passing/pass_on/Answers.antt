use Rattle.std.proofs.Common.{rules, arith, sym, ap, subst, ◌∙◌, ◌+◌, length, w64, to_z, of_z}
use Rattle.std.proofs.lemmas.Int.{to_z-of_z}
use mir.Val.{SFits}
use Rattle.pg_rules.specs.Legal.{document}
use Rattle.pg_column.specs.Passed.{fits}
use Rattle.pg_hops.specs.Ahead.{front_ahead, items_ahead}
use Rattle.pg_hops.specs.View.{view}
use Rattle.pg_hops.specs.declared.passed.Passed.{Passed}
use Rattle.pg_hops.proofs.Along.{end_past, end_reach, last, none_left}
use Rattle.pg_hops.specs.Goes.{Goes, Stops}
use Rattle.pg_hops.proofs.Stepped.{over_past, over_reach, step_past, step_reach, stop_reach}
use Rattle.pg_hops.proofs.passing.pass_on.Goals as goal

pub go_by-requires-clause-hop : goal.go_by-requires-clause-hop
go_by-requires-clause-hop c = c.hop_ahead-hop.ensures c.args.galley.now.blocks c.args.style.now.maxdepth c.requires.hops

pub returns-in_default-go_by-clause-reach : goal.returns-in_default-go_by-clause-reach
returns-in_default-go_by-clause-reach c =
    let f0 : SFits w64 c.args.top = search rules in
    let doc = document c.args.galley.now c.args.style.now in
    let same = c.in_default-leap_over.ensures.same in
    stop_reach c.ahead.at c.place-here.result c.place-here.ensures c.ahead.greatest c.greater-greatest.result
    c.greater-greatest.ensures doc c.args.top (view c.ahead.passed)
    (subst (λ (p : Passed). Stops doc c.ahead.at (view p)) same c.in_default-go_by.ensures.stops)
    (front_ahead c.args.galley.now.blocks c.ahead.at)
    ∙ (simp to_z-of_z at c.ahead.invariant.reach)

pub returns-then-not-fits-clause-past : goal.returns-then-not-fits-clause-past
returns-then-not-fits-clause-past c =
    let f0 : SFits w64 c.args.top = search rules in
    let doc = document c.args.galley.now c.args.style.now in
    let went = subst (λ (p : Passed). Goes doc c.ahead.at c.in-Some-go_by.next (view p) (view c.go_by.new.passed))
    c.in_default-leap_over.ensures.same c.in-Some-go_by.ensures.goes in
    over_past doc c.args.top c.ahead.at c.in-Some-go_by.next (view c.ahead.passed) (view c.go_by.new.passed)
    went
    (sym (c.fits.ensures ∙ ap (fits c.go_by.new.passed.bound) (to_z-of_z w64 c.args.top (record { sfits = search rules })))
    ∙ c.if-not-fits.true)
    ∙ (simp to_z-of_z at c.ahead.invariant.past)

pub returns-then-not-fits-clause-reach : goal.returns-then-not-fits-clause-reach
returns-then-not-fits-clause-reach c =
    let f0 : SFits w64 c.args.top = search rules in
    let doc = document c.args.galley.now c.args.style.now in
    let went = subst (λ (p : Passed). Goes doc c.ahead.at c.in-Some-go_by.next (view p) (view c.go_by.new.passed))
    c.in_default-leap_over.ensures.same c.in-Some-go_by.ensures.goes in
    over_reach c.ahead.at c.place-here.result c.place-here.ensures c.ahead.greatest c.greater-greatest.result
    c.greater-greatest.ensures doc c.args.top c.in-Some-go_by.next (view c.ahead.passed) (view c.go_by.new.passed)
    went
    (sym (c.fits.ensures ∙ ap (fits c.go_by.new.passed.bound) (to_z-of_z w64 c.args.top (record { sfits = search rules })))
    ∙ c.if-not-fits.true)
    ∙ (simp to_z-of_z at c.ahead.invariant.reach)

pub ahead-preserved : goal.ahead-preserved
ahead-preserved c =
    let doc = document c.args.galley.now c.args.style.now in
    let top = to_z w64 (of_z w64 c.args.top) in
    let same = c.in_default-leap_over.ensures.same in
    let went = subst (λ (p : Passed). Goes doc c.ahead.at c.in-Some-go_by.next (view p) (view c.go_by.new.passed))
    c.in_default-leap_over.ensures.same c.in-Some-go_by.ensures.goes in
    let counts = c.in-Some-go_by.ensures.counts in
    let bound = sym c.fits.ensures ∙ c.if-not-fits.false in
    record {
      settled = went.settled;
      front = went.front ∙ c.ahead.invariant.front;
      style = c.go_by.ensures.style;
      bound = bound;
      sums = counts.0.passed
          ∙ (ap (λ (p : Passed). p.sums.count + length (items_ahead doc.blocks c.ahead.at)) same
          ∙ c.ahead.invariant.sums);
      notes = counts.1.passed
          ∙ (ap (λ (p : Passed). p.notes.count + length (items_ahead doc.blocks c.ahead.at)) same
          ∙ c.ahead.invariant.notes);
      past = step_past doc top c.ahead.at c.in-Some-go_by.next (view c.ahead.passed) (view c.go_by.new.passed) went bound
          ∙ c.ahead.invariant.past;
      reach = step_reach c.ahead.at c.place-here.result c.place-here.ensures c.ahead.greatest
          c.greater-greatest.result c.greater-greatest.ensures doc top c.in-Some-go_by.next (view c.ahead.passed)
          (view c.go_by.new.passed) went bound
          ∙ c.ahead.invariant.reach;
    }

pub returns-clause-past : goal.returns-clause-past
returns-clause-past c =
    let f0 : SFits w64 c.args.top = search rules in
    let doc = document c.args.galley.now c.args.style.now in
    end_past doc c.args.top c.ahead.at c.ahead.invariant.settled c.in_default.ensures.item (view c.ahead.passed)
    (simp to_z-of_z at c.ahead.invariant.bound)
    ∙ (simp to_z-of_z at c.ahead.invariant.past)

pub returns-clause-reach : goal.returns-clause-reach
returns-clause-reach c =
    let f0 : SFits w64 c.args.top = search rules in
    let doc = document c.args.galley.now c.args.style.now in
    end_reach doc c.args.top c.ahead.at c.ahead.invariant.settled c.in_default.ensures.item (view c.ahead.passed)
    c.ahead.greatest c.greater.result c.greater.ensures
    ∙ (simp to_z-of_z at c.ahead.invariant.reach)

pub returns-clause-counts : goal.returns-clause-counts
returns-clause-counts c =
    let doc = document c.args.galley.now c.args.style.now in
    let none = none_left doc c.args.top c.ahead.at c.ahead.invariant.settled c.in_default.ensures.item
    (view c.ahead.passed) in
    (omega (arith, none, c.ahead.invariant.sums), omega (arith, none, c.ahead.invariant.notes))

pub returns-clause-front : goal.returns-clause-front
returns-clause-front c =
    let doc = document c.args.galley.now c.args.style.now in
    let done = last doc c.args.top c.ahead.at c.ahead.invariant.settled c.in_default.ensures.item
    (view c.ahead.passed) in
    sym done.front ∙ c.ahead.invariant.front
