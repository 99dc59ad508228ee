use Rattle.std.proofs.Common.{sym, ap, subst, ◌∙◌, ◌<◌, ◌^◌, arith}
use Rattle.std.specs.Prelude.{nat_abs}
use Rattle.std.proofs.lemmas.Int.{ints}
use Rattle.pg_style.specs.declared.style.Give.{Give}
use Rattle.pg_rules.specs.Floats.{gap_shrink, gap_stretch}
use Rattle.pg_sources.specs.Document.{doc_of}
use Rattle.law_columns.proofs.Gives.{shrink_part, stretch_part}
use Rattle.pg_rooms.proofs.LaidLemmas.{give_is, give_small}
use Rattle.pg_rooms.proofs.Undealt.{give_none, none_in}
use Rattle.pg_rooms.proofs.laid.area_give.Goals as goal

pub has_floats-requires : goal.has_floats-requires
has_floats-requires c = c.requires.there.long

pub returns-then-not-has_floats-clause-stretch : goal.returns-then-not-has_floats-clause-stretch
returns-then-not-has_floats-clause-stretch c = ap (λ (give : Give). give.stretch) c.none.ensures
    ∙ give_none gap_stretch (doc_of c.args.sources.now) c.args.rule.now c.args.before.now c.args.counts.now
    (none_in c.args.counts.now c.has_floats.result c.has_floats.ensures c.if-not-has_floats.true)

pub returns-then-not-has_floats-clause-shrink : goal.returns-then-not-has_floats-clause-shrink
returns-then-not-has_floats-clause-shrink c = ap (λ (give : Give). give.shrink) c.none.ensures
    ∙ give_none gap_shrink (doc_of c.args.sources.now) c.args.rule.now c.args.before.now c.args.counts.now
    (none_in c.args.counts.now c.has_floats.result c.has_floats.ensures c.if-not-has_floats.true)

pub returns-then-not-has_floats-clause-size : goal.returns-then-not-has_floats-clause-size
returns-then-not-has_floats-clause-size c =
    subst (λ (give : Give). (nat_abs give.stretch < 2 ^ 33) × (nat_abs give.shrink < 2 ^ 33)) (sym c.none.ensures)
    (omega (arith, ints), omega (arith, ints))

pub returns-clause-stretch : goal.returns-clause-stretch
returns-clause-stretch c = give_is gap_stretch (doc_of c.args.sources.now) c.args.rule.now c.args.before.now
    c.args.counts.now _ c.requires.there (c.checked_give.ensures.stretch c.args.sources.now.galley.now.blocks
    c.args.sources.now.style.now c.args.sources.now.list.floats)

pub returns-clause-shrink : goal.returns-clause-shrink
returns-clause-shrink c = give_is gap_shrink (doc_of c.args.sources.now) c.args.rule.now c.args.before.now
    c.args.counts.now _ c.requires.there (c.checked_give.ensures.shrink c.args.sources.now.galley.now.blocks
    c.args.sources.now.style.now c.args.sources.now.list.floats)

pub returns-clause-size : goal.returns-clause-size
returns-clause-size c =
    let doc = doc_of c.args.sources.now in
    let give = c.checked_give.result in (
      give_small gap_stretch stretch_part doc c.args.rule.now c.args.before.now c.args.counts.now give.stretch
          c.requires.range c.requires.there (give_is gap_stretch doc c.args.rule.now c.args.before.now c.args.counts.now
          give.stretch c.requires.there (c.checked_give.ensures.stretch c.args.sources.now.galley.now.blocks
          c.args.sources.now.style.now c.args.sources.now.list.floats)),
      give_small gap_shrink shrink_part doc c.args.rule.now c.args.before.now c.args.counts.now give.shrink
          c.requires.range c.requires.there (give_is gap_shrink doc c.args.rule.now c.args.before.now c.args.counts.now
          give.shrink c.requires.there (c.checked_give.ensures.shrink c.args.sources.now.galley.now.blocks
          c.args.sources.now.style.now c.args.sources.now.list.floats)),
    )
