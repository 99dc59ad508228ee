use Rattle.std.proofs.Common.{◌∙◌, sym, ap, subst, arith, length}
use Rattle.std.specs.List.{AllByRecursion}
use Rattle.std.specs.Option.{option_copied}
use Rattle.pg_list.specs.Shapes.{IsBlock}
use Rattle.pg_rules.specs.Legal.{document}
use Rattle.pg_column.specs.Passed.{Passed, is_end_here}
use Rattle.pg_hops.specs.declared.cursor.Cursor.{Cursor}
use Rattle.pg_hops.specs.Ahead.{items_ahead}
use Rattle.pg_hops.specs.View.{view}
use Rattle.pg_hops.specs.Goes.{Goes}
use Rattle.pg_hops.specs.Hop.{MayHop}
use Rattle.pg_hops.proofs.PlainOn.{hop_counts, hop_goes}
use Rattle.pg_hops.proofs.going.go_by.Goals as goal

pub hop_over-requires-clause-few : goal.hop_over-requires-clause-few
hop_over-requires-clause-few c =
    let doc = document c.args.galley.now c.args.style.now in
    let hop = c.in-Some.hop.now in
    let may = subst (λ o. MayHop doc.blocks doc.style.maxdepth (view c.args.passed.now) c.args.at (option_copied o))
    c.in-Some.is c.requires.hop in
    let counts = hop_counts doc c.args.at c.args.item.now (sym c.requires.item) hop may.1 in
    (omega (arith, counts.0, c.requires.few.0), omega (arith, counts.0, c.requires.few.1))

pub returns-in-Some-clause-goes : goal.returns-in-Some-clause-goes
returns-in-Some-clause-goes c =
    let doc = document c.args.galley.now c.args.style.now in
    let hop = c.in-Some.hop.now in
    let old = view c.args.passed.now in
    let all = subst (AllByRecursion IsBlock) c.blocks-2.ensures.blocks c.as_slice-shape.ensures.shape in
    let may = subst (λ o. MayHop doc.blocks doc.style.maxdepth old c.args.at (option_copied o))
    c.in-Some.is c.requires.hop in
    subst (λ (q : Cursor). Goes doc c.args.at q old (view c.hop_over.new.passed)) (sym c.to.ensures)
    (subst (λ (p : Passed). Goes doc c.args.at hop.to old p) (sym c.hop_over.ensures.value)
    (hop_goes doc c.args.at c.args.item.now (sym c.requires.item) hop may.1 all old may.0))

pub returns-in-Some-clause-counts : goal.returns-in-Some-clause-counts
returns-in-Some-clause-counts c =
    let doc = document c.args.galley.now c.args.style.now in
    let hop = c.in-Some.hop.now in
    let may = subst (λ o. MayHop doc.blocks doc.style.maxdepth (view c.args.passed.now) c.args.at (option_copied o))
    c.in-Some.is c.requires.hop in
    let counts = hop_counts doc c.args.at c.args.item.now (sym c.requires.item) hop may.1 in
    let same = ap (λ (q : Cursor). length (items_ahead c.args.galley.now.blocks q)) c.to.ensures in
    let more = c.hop_over.ensures.counts in (
      record { passed = omega (arith, counts.0, same, more.0); more = omega (arith, counts.1, more.0) },
      record { passed = omega (arith, counts.0, same, more.1); more = omega (arith, counts.1, more.1) },
    )

pub go-requires-clause-end : goal.go-requires-clause-end
go-requires-clause-end c =
    c.ends_at-is_end.ensures
    ∙ ap (is_end_here c.args.galley.now.blocks (view c.args.passed.now)) c.place.ensures
