use Rattle.std.proofs.Common.{sym, ap, subst, arith, length}
use Rattle.std.specs.List.{AllByRecursion}
use Rattle.pg_list.specs.Shapes.{IsBlock}
use Rattle.pg_rules.specs.Legal.{document}
use Rattle.pg_column.specs.Passed.{Passed}
use Rattle.pg_hops.specs.declared.cursor.Cursor.{Cursor}
use Rattle.pg_hops.specs.Ahead.{item_ahead, items_ahead}
use Rattle.pg_hops.specs.View.{view}
use Rattle.pg_hops.specs.Goes.{Goes}
use Rattle.pg_hops.proofs.PlainOn.{hop_counts, hop_goes, hop_item}
use Rattle.pg_hops.proofs.going.hop_on.Goals as goal

pub hop_with-requires : goal.hop_with-requires
hop_with-requires c =
    let doc = document c.args.galley.now c.args.style.now in
    let hop = c.args.hop.now in
    let one = hop_item doc.blocks doc.style.maxdepth c.args.at hop (item_ahead doc.blocks c.args.at) c.requires.hop.1 in
    let counts = hop_counts doc c.args.at one.0 (sym one.1) hop c.requires.hop.1 in
    record { few = (omega (arith, counts.0, c.requires.few.0), omega (arith, counts.0, c.requires.few.1)) }

pub returns-clause-goes : goal.returns-clause-goes
returns-clause-goes c =
    let doc = document c.args.galley.now c.args.style.now in
    let hop = c.args.hop.now in
    let old = view c.args.passed.now in
    let one = hop_item doc.blocks doc.style.maxdepth c.args.at hop (item_ahead doc.blocks c.args.at) c.requires.hop.1 in
    let all = subst (AllByRecursion IsBlock) c.blocks-2.ensures.blocks c.as_slice-shape.ensures.shape in
    subst (λ (q : Cursor). Goes doc c.args.at q old (view c.hop_with.new.passed)) (sym c.to.ensures)
    (subst (λ (p : Passed). Goes doc c.args.at hop.to old p) (sym (c.hop_with.ensures.value c.args.style.now c.requires.needs))
    (hop_goes doc c.args.at one.0 (sym one.1) hop c.requires.hop.1 all old c.requires.hop.0))

pub returns-clause-counts : goal.returns-clause-counts
returns-clause-counts c =
    let doc = document c.args.galley.now c.args.style.now in
    let hop = c.args.hop.now in
    let one = hop_item doc.blocks doc.style.maxdepth c.args.at hop (item_ahead doc.blocks c.args.at) c.requires.hop.1 in
    let counts = hop_counts doc c.args.at one.0 (sym one.1) hop c.requires.hop.1 in
    let same = ap (λ (q : Cursor). length (items_ahead c.args.galley.now.blocks q)) c.to.ensures in
    let more = c.hop_with.ensures.counts in (
      record { passed = omega (arith, counts.0, same, more.0); more = omega (arith, counts.1, more.0) },
      record { passed = omega (arith, counts.0, same, more.1); more = omega (arith, counts.1, more.1) },
    )

pub returns-clause-style : goal.returns-clause-style
returns-clause-style c = c.hop_with.ensures.style c.args.style.now c.requires.style

pub returns-clause-notes : goal.returns-clause-notes
returns-clause-notes c = ap (λ (p : Passed). p.notes) (c.hop_with.ensures.value c.args.style.now c.requires.needs)
