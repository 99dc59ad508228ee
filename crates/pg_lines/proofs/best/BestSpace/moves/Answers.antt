use Rattle.std.proofs.Common.{◌≡◌, ◌∙◌, ◌++◌, [], sym, ap, subst, arith, append-nil, List, ℕ}
use Rattle.std.specs.List.{flat_map}
use Rattle.pg_lemmas.proofs.Lists.{no_items}
use Rattle.pg_table.specs.Space.{AreMoves}
use Rattle.law_lines.specs.BestSpace.{best_meaning}
use Rattle.pg_lines.specs.declared.ends.LineEnd.{LineEnd}
use Rattle.pg_lines.specs.Moves.{best_step, ends_at}
use Rattle.pg_lines.proofs.Moves.{best_moves, listed_at}
use Rattle.pg_lines.proofs.best.BestSpace.moves.Goals as goal

pub returns : goal.returns
returns c =
    let space = c.args.self.now in
    let none : c.ends.rest.now ≡ [] = no_items c.ends.rest.now (omega (arith, c.in_default.len_below)) in
    let lists = ap (λ (ls : List (List LineEnd)). ends_at ls c.args.place) space.listed
    ∙ listed_at space.rule.now space.items.now c.args.place c.requires in
    let same = sym (append-nil c.ends.found)
    ∙ (ap (λ (es : List LineEnd). c.ends.found ++ flat_map best_step es) (sym none)
    ∙ (c.ends.invariant ∙ ap (flat_map best_step) lists)) in
    subst (AreMoves (best_meaning space.rule.now space.items.now) c.args.place) (sym same)
    (best_moves space.rule.now space.items.now c.args.place)
