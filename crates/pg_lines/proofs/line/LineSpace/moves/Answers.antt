use Rattle.std.proofs.Common.{◌≡◌, ◌∙◌, ◌++◌, [], sym, ap, subst, arith, append-nil, List, ℕ, length}
use Rattle.std.specs.List.{flat_map}
use Rattle.pg_lemmas.proofs.Lists.{no_items}
use Rattle.pg_table.specs.Space.{AreMoves}
use Rattle.pg_table.specs.declared.step.Step.{Step}
use Rattle.law_lines.specs.declared.state.LineState.{LineState}
use Rattle.law_lines.specs.LineSpace.{line_meaning}
use Rattle.pg_lines.specs.declared.ends.LineEnd.{LineEnd}
use Rattle.pg_lines.specs.Moves.{ends_at, line_step, low_by}
use Rattle.pg_lines.proofs.Moves.{line_moves, listed_at}
use Rattle.pg_lines.proofs.line.LineSpace.moves.Goals as goal

pub push_step-requires : goal.push_step-requires
push_step-requires c = let few = c.requires.few in let within = c.requires.within in omega (arith, few, within)

pub returns : goal.returns
returns c =
    let space = c.args.self.now in
    let state = c.args.state.now in
    let low = low_by (length space.items.now) space.low.now in
    let none : c.ends.rest.now ≡ [] = no_items c.ends.rest.now (omega (arith, c.in_default.len_below)) in
    let lists = ap (λ (ls : List (List LineEnd)). ends_at ls state.index) space.listed
    ∙ listed_at space.rule.now space.items.now state.index c.requires.within in
    let same = sym (append-nil c.ends.found)
    ∙ (ap (λ (es : List LineEnd). c.ends.found ++ flat_map (line_step low space.most state.lines) es) (sym none)
    ∙ (c.ends.invariant ∙ ap (flat_map (line_step low space.most state.lines)) lists)) in
    subst (AreMoves (line_meaning space.rule.now space.items.now low space.most) state) (sym same)
    (line_moves space.rule.now space.items.now low space.most state)
