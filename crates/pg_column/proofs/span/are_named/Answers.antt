use Rattle.std.proofs.Common.{rules, sym, ap, ◌∙◌, List}
use Rattle.pg_list.specs.declared.blocks.Block.{Block}
use Rattle.pg_column.proofs.Picks.{first_none, first_some, names, none_left}
use Rattle.pg_column.proofs.span.are_named.Goals as goal

pub returns-then-is_empty : goal.returns-then-is_empty
returns-then-is_empty c = sym (none_left c.choices.rest.now c.choices.left.now (search rules))
    ∙ c.choices.invariant.same

pub returns-in_default-picks_past : goal.returns-in_default-picks_past
returns-in_default-picks_past c =
    sym (first_none c.choices.rest.now c.in-Some.block.now c.choices.left.now c.in-Some.ensures.value
    c.in_default-picks_past.ensures)
    ∙ c.choices.invariant.same

pub choices-preserved : goal.choices-preserved
choices-preserved c = record {
  same = ap (λ (bs : List Block). names bs c.in-Some-picks_past.behind.now) c.from-rest.ensures
      ∙ first_some c.choices.rest.now c.in-Some.block.now c.choices.left.now c.in-Some-picks_past.behind.now
      c.in-Some.ensures.value c.in-Some-picks_past.ensures
      ∙ c.choices.invariant.same;
}
