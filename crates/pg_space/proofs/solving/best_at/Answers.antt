use Rattle.std.proofs.Common.{◌≡◌, ◌∙◌, sym, subst, rules, to_z, of_z}
use Rattle.std.specs.Int.{w128}
use Rattle.std.proofs.lemmas.Int.{to_z-of_z}
use Rattle.std.proofs.lemmas.Option.{slice_get_within}
use Rattle.pg_plan.specs.declared.pages.Pagination.{Pagination}
use Rattle.pg_rules.specs.Best.{Best}
use Rattle.pg_rules.specs.Cost.{cost}
use Rattle.pg_space.proofs.solving.best_at.Goals as goal

pub moves_of-requires-clause-within : goal.moves_of-requires-clause-within
moves_of-requires-clause-within c =
    slice_get_within c.args.labels.now c.args.index c.requires.best.entry c.requires.best.is

pub cost_at-requires : goal.cost_at-requires
cost_at-requires c = slice_get_within c.args.labels.now c.args.index c.requires.best.entry c.requires.best.is

pub returns : goal.returns
returns c =
    let g = c.args.space.now.sources.galley.now in
    let s = c.args.space.now.sources.style.now in
    let best =
    (c.table_tells_all.ensures c.args.labels.now c.requires.table).best c.args.index c.requires.best.entry _
    c.requires.best c.requires.best.is (c.in_ok-moves.ensures c.requires.best.entry c.requires.best.is) in
    subst (λ (plan : Pagination). Best g s plan × (cost g s plan ≡ to_z w128 (of_z w128 c.cost_at.result)))
    (sym c.in_ok-plan.ensures) (
      best.0,
      best.1 ∙ sym (c.cost_at.ensures c.requires.best.entry c.requires.best.is)
          ∙ sym (to_z-of_z w128 c.cost_at.result (record { sfits = search rules })),
    )
