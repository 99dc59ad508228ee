use Rattle.std.proofs.Common.{rules, sym, subst, ◌∙◌, w64}
use Rattle.std.proofs.lemmas.Int.{to_z-of_z}
use Rattle.pg_style.specs.Values.{StyleValue}
use Rattle.pg_hops.specs.Index.{AreHops}
use Rattle.pg_walk.proofs.FurthestBlocks.{greatest_quiet}
use Rattle.pg_walk.proofs.reach.reach_by.Goals as goal

pub one_more-requires-clause-greatest : goal.one_more-requires-clause-greatest
one_more-requires-clause-greatest c =
    greatest_quiet c.args.galley.now c.args.style.now c.quiet_style-quiet.result _ c.quiet_style-quiet.ensures
    (to_z-of_z w64 c.tallest.result (record { sfits = search rules }) ∙ c.tallest.ensures) c.args.from
    c.in_ok-block.block c.in_ok-block.ensures

pub greatest_block-requires-clause-context : goal.greatest_block-requires-clause-context
greatest_block-requires-clause-context c = subst
    (λ (style : StyleValue). AreHops c.args.galley.now.blocks style.maxdepth c.args.index.now)
    (sym c.quiet_style-quiet.ensures) c.requires.hops
