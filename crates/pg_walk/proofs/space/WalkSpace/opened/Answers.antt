use Rattle.std.proofs.Common.{rules, ◌≡◌, ◌∙◌, ◌+◌, ◌-◌, ap, sym, subst, List, ℕ, append-nil, ◌++◌, [], length, arith}
use Rattle.pg_list.specs.declared.variants.Variant.{Variant}
use Rattle.pg_list.proofs.Sizes.{blocks_le}
use Rattle.pg_lemmas.proofs.Lists.{no_items}
use Rattle.pg_rules.specs.Legal.{document}
use Rattle.pg_table.specs.Space.{AreMoves}
use Rattle.law_walk.specs.Reached.{greatest_from}
use Rattle.law_walk.specs.Walk.{variants_at}
use Rattle.pg_walk.specs.Meaning.{reach_by, space_meaning, state_of, steps_from}
use Rattle.pg_walk.specs.Reaching.{behind_few}
use Rattle.pg_walk.proofs.Moves.{are_moves, steps_more}
use Rattle.pg_walk.proofs.Reaches.{pick_more, pick_none}
use Rattle.pg_walk.proofs.space.WalkSpace.opened.Goals as goal

pub picks-preserved : goal.picks-preserved
picks-preserved c =
    let doc = document c.args.self.now.galley.now c.args.self.now.style.now in
    let by = reach_by doc c.args.self.now.top (state_of c.args.state.now) in
    let count = length (variants_at c.args.self.now.galley.now.blocks c.args.state.now.block) in
    let all : c.picks.pick + length c.picks.left.now ≡ count = c.picks.invariant.all in
    record {
      few = search rules;
      all = search rules;
      steps = steps_more doc c.args.self.now.top c.args.state.now c.picks.pick c.variant-item.result c.picks.left.now
          c.picks.found c.add_step.new.found _ c.in-len1-up.len_at_least c.variant-item.is
          c.in_ok-add_step.ensures.steps c.picks.invariant.steps;
      greatest = ap (λ (n : ℕ). greatest_from by n (c.picks.pick + 1) (count - (c.picks.pick + 1))) c.max-greatest.ensures
          ∙ pick_more by c.picks.greatest c.picks.pick count c.in_ok-add_step.field-0 _
          (omega (arith, all, c.in-len1-up.len_at_least)) (c.in_ok-add_step.ensures.greatest)
          c.picks.invariant.greatest;
    }

pub overflow_add-result : goal.overflow_add-result
overflow_add-result c =
    let doc = document c.args.self.now.galley.now c.args.self.now.style.now in
    let by = reach_by doc c.args.self.now.top (state_of c.args.state.now) in
    let count = length (variants_at c.args.self.now.galley.now.blocks c.args.state.now.block) in
    let all : c.picks.pick + length c.picks.left.now ≡ count = c.picks.invariant.all in
    let same = pick_none by c.picks.greatest c.picks.pick count _ (omega (arith, all, c.in_default.len_below))
    c.picks.invariant.greatest in
    let few = behind_few doc c.args.self.now.top (state_of c.args.state.now) c.requires.block in
    let long = blocks_le c.args.self.now.galley.now.blocks c.args.self.now.in_range.blocks in
    let limit = c.args.self.now.in_range.limit in
    record { fits = omega (arith, same, few, long, limit) }

pub returns-clause-reach : goal.returns-clause-reach
returns-clause-reach c =
    let doc = document c.args.self.now.galley.now c.args.self.now.style.now in
    let by = reach_by doc c.args.self.now.top (state_of c.args.state.now) in
    let count = length (variants_at c.args.self.now.galley.now.blocks c.args.state.now.block) in
    let all : c.picks.pick + length c.picks.left.now ≡ count = c.picks.invariant.all in
    ap (λ (n : ℕ). n + 1) (pick_none by c.picks.greatest c.picks.pick count _
    (omega (arith, all, c.in_default.len_below)) c.picks.invariant.greatest)

pub returns-clause-moves : goal.returns-clause-moves
returns-clause-moves c =
    let doc = document c.args.self.now.galley.now c.args.self.now.style.now in
    let top = c.args.self.now.top in
    let none : c.picks.left.now ≡ [] = no_items c.picks.left.now (omega (arith, c.in_default.len_below)) in
    let same = sym (append-nil c.picks.found)
    ∙ (ap (λ (vs : List Variant). c.picks.found ++ steps_from doc top c.args.state.now c.picks.pick vs) (sym none)
    ∙ c.picks.invariant.steps) in
    subst (AreMoves (space_meaning doc top c.args.self.now.start) c.args.state.now) (sym same)
    (are_moves doc top c.args.state.now c.args.self.now.start)
