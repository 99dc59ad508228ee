use Rattle.std.proofs.Common.{rules, sym, subst, ◌∙◌, w64}
use Rattle.std.proofs.lemmas.Int.{to_z-of_z}
use Rattle.pg_style.specs.Values.{StyleValue}
use Rattle.pg_hops.specs.Index.{AreHops}
use Rattle.pg_walk.proofs.FurthestBlocks.{begun_quiet}
use Rattle.pg_walk.proofs.reach.quiet_state.Goals as goal

pub state_past-requires-clause-hops : goal.state_past-requires-clause-hops
state_past-requires-clause-hops c = subst
    (λ (style : StyleValue). AreHops c.args.galley.now.blocks style.maxdepth c.args.index.now)
    (sym c.quiet_style-quiet.ensures) c.requires.hops

pub returns : goal.returns
returns c =
    begun_quiet c.args.galley.now c.args.style.now c.quiet_style-quiet.result _ c.quiet_style-quiet.ensures
    (to_z-of_z w64 c.tallest.result (record { sfits = search rules }) ∙ c.tallest.ensures) c.args.from
    c.state_past.result c.state_past.ensures
