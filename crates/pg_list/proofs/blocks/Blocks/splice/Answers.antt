use Rattle.std.proofs.Common.{◌≡◌, ◌∙◌, ap, sym, subst, List, ◌++◌, take, drop, length}
use Rattle.std.specs.List.{AllByRecursion}
use Rattle.pg_list.specs.declared.blocks.Block.{Block}
use Rattle.pg_list.specs.Shapes.{IsBlock}
use Rattle.pg_list.proofs.SpliceLemmas.{drained, spliced_is, still_blocks_within}
use Rattle.pg_list.proofs.blocks.Blocks.splice.Goals as goal

-- the vector's blocks, with all the fresh ones in place of those that went
went_in : (c : goal.After-drop-branch) → c.splice.new.self.items ≡ take c.args.at c.self.inside.blocks.items ++ c.fresh.inside.blocks.items ++ drop c.args.end c.self.inside.blocks.items
went_in c =
    let i = c.in_ok-splice.ensures.items in
    let len = c.fresh.inside.blocks.ok in
    let given = i.2 in
    let drains = i.3 in
    let all = drained i.1 i.0 drains.1.0 drains.1.1 drains.1.2.0 (given.1 ∙ len.0 ∙ ap length (sym given.0)) ∙ given.0 in
    spliced_is c.args.at c.args.end c.self.inside.blocks.items c.splice.new.self.items c.fresh.inside.blocks.items i.1 all i.4

pub returns-clause-ok : goal.returns-clause-ok
returns-clause-ok c =
    subst (λ (bs : List Block). c.splice.new.self.items ≡ take c.args.at bs ++ c.args.fresh ++ drop c.args.end bs) c.self.view_is
    (subst (λ (bs : List Block). c.splice.new.self.items ≡ take c.args.at c.self.inside.blocks.items ++ bs ++ drop c.args.end c.self.inside.blocks.items) c.fresh.view_is (went_in c))

pub invariant_of-self-2 : goal.invariant_of-self-2
invariant_of-self-2 c = subst (AllByRecursion IsBlock) (sym (went_in c)) (still_blocks_within c.args.at c.args.end c.self.inside.blocks.items c.fresh.inside.blocks.items c.self.invariant c.fresh.invariant)
