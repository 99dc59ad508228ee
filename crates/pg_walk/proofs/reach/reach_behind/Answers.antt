use Rattle.std.proofs.Common.{rules, sym, subst, ◌∙◌, w64}
use Rattle.std.proofs.lemmas.Int.{to_z-of_z}
use Rattle.pg_rules.specs.Legal.{document}
use Rattle.pg_style.specs.Values.{StyleValue}
use Rattle.pg_hops.specs.Index.{AreHops}
use Rattle.pg_walk.proofs.Behind.{greatest_behind}
use Rattle.pg_walk.proofs.FurthestBlocks.{goes_quiet, own_quiet}
use Rattle.pg_walk.proofs.reach.reach_behind.Goals as goal

pub furthest-requires-clause-context : goal.furthest-requires-clause-context
furthest-requires-clause-context c = subst
    (λ (style : StyleValue). AreHops c.args.galley.now.blocks style.maxdepth c.args.index.now)
    (sym c.quiet_style-quiet.ensures) c.requires.hops

pub furthest-requires-clause-own : goal.furthest-requires-clause-own
furthest-requires-clause-own c =
    own_quiet c.args.galley.now c.args.style.now c.quiet_style-quiet.result _ c.quiet_style-quiet.ensures
    (to_z-of_z w64 c.tallest.result (record { sfits = search rules }) ∙ c.tallest.ensures) c.args.start
    c.requires.start.own

pub one_more-requires-clause-greatest : goal.one_more-requires-clause-greatest
one_more-requires-clause-greatest c =
    greatest_behind (document c.args.galley.now c.args.style.now) c.args.from c.args.start c.in_ok-block.block
    c.requires.start
    (goes_quiet c.args.galley.now c.args.style.now c.quiet_style-quiet.result _ c.quiet_style-quiet.ensures
    (to_z-of_z w64 c.tallest.result (record { sfits = search rules }) ∙ c.tallest.ensures) c.args.start
    c.args.start.block c.in_ok-block.block c.in_ok-block.ensures)

pub returns : goal.returns
returns c = record {
  greatest = c.in_ok-block.block;
  goes = goes_quiet c.args.galley.now c.args.style.now c.quiet_style-quiet.result _ c.quiet_style-quiet.ensures
      (to_z-of_z w64 c.tallest.result (record { sfits = search rules }) ∙ c.tallest.ensures) c.args.start
      c.args.start.block c.in_ok-block.block c.in_ok-block.ensures;
  is = c.one_more.ensures.value;
}
