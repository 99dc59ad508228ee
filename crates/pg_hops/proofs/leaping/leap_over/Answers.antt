use Rattle.std.proofs.Common.{rules, ◌≡◌, sym, ap, subst, arith, length, true, Option, Some, ◌∙◌, w64, ℤ}
use Rattle.std.proofs.lemmas.Int.{to_z-of_z}
use mir.Val.{SFits}
use Rattle.std.specs.List.{AllByRecursion}
use Rattle.pg_list.specs.Shapes.{IsBlock}
use Rattle.pg_rules.specs.Legal.{document}
use Rattle.pg_column.specs.Passed.{Passed, fits}
use Rattle.pg_hops.specs.declared.cursor.Cursor.{Cursor}
use Rattle.pg_hops.specs.Ahead.{items_ahead}
use Rattle.pg_hops.specs.View.{view}
use Rattle.pg_hops.specs.Hop.{HopValue, moved}
use Rattle.pg_hops.specs.Leap.{GoesFar}
use Rattle.pg_hops.proofs.LeapOn.{leap_counts, leap_goes}
use Rattle.pg_hops.proofs.leaping.leap_over.Goals as goal

pub bound_behind-bound-requires : goal.bound_behind-bound-requires
bound_behind-bound-requires c =
    let serves = c.in_ok-leap.ensures c.args.galley.now.blocks c.args.style.now.maxdepth c.requires.hops in
    serves.shrink

pub take_leap-requires : goal.take_leap-requires
take_leap-requires c =
    let doc = document c.args.galley.now c.args.style.now in
    let serves = c.in_ok-leap.ensures doc.blocks doc.style.maxdepth c.requires.hops in
    let counts = leap_counts doc c.args.at c.in_ok-leap.leap.now serves.is in
    record { few = (omega (arith, counts.0, c.requires.few.0), omega (arith, counts.0, c.requires.few.1)) }

pub returns-clause-far : goal.returns-clause-far
returns-clause-far c =
    let f0 : SFits w64 c.args.top = search rules in
    let f1 : SFits w64 c.bound_behind-bound.result = search rules in
    let doc = document c.args.galley.now c.args.style.now in
    let old = view c.args.passed.now in
    let leap = c.in_ok-leap.leap.now in
    let all = subst (AllByRecursion IsBlock) c.blocks-2.ensures.blocks c.as_slice-shape.ensures.shape in
    let serves = c.in_ok-leap.ensures doc.blocks doc.style.maxdepth c.requires.hops in
    let fit : fits (Some c.bound_behind-bound.result) c.args.top ≡ true =
    sym (simp to_z-of_z at c.lets_pass.ensures) ∙ c.if-not-lets_pass.false in
    subst (λ (q : Cursor). GoesFar doc c.args.top c.args.at q old (view c.take_leap.new.passed))
    (sym (c.to.ensures ∙ ap (λ (way : HopValue). way.to) c.way.ensures))
    (subst (λ (p : Passed). GoesFar doc c.args.top c.args.at leap.way.to old p)
    (sym ((simp to_z-of_z at c.take_leap.ensures.value)
    ∙ ap (λ (o : Option ℤ). record (moved old leap.way.added.shift) { bound = o }) c.bound_behind-bound.ensures))
    (leap_goes doc c.args.top c.args.at old leap all serves
    (subst (λ (o : Option ℤ). fits o c.args.top ≡ true) c.bound_behind-bound.ensures fit)))

pub returns-clause-counts : goal.returns-clause-counts
returns-clause-counts c =
    let doc = document c.args.galley.now c.args.style.now in
    let serves = c.in_ok-leap.ensures doc.blocks doc.style.maxdepth c.requires.hops in
    let counts = leap_counts doc c.args.at c.in_ok-leap.leap.now serves.is in
    let same = ap (λ (q : Cursor). length (items_ahead c.args.galley.now.blocks q))
    (c.to.ensures ∙ ap (λ (way : HopValue). way.to) c.way.ensures) in
    let more = c.take_leap.ensures.counts in (
      record { passed = omega (arith, counts.0, same, more.0); more = omega (arith, counts.1, more.0) },
      record { passed = omega (arith, counts.0, same, more.1); more = omega (arith, counts.1, more.1) },
    )
