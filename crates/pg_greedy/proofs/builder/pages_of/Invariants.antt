use Rattle.std.proofs.Common.{◌++◌, ◌-◌, ◌≤◌, length, List}
use Rattle.pg_plan.specs.declared.pages.Page.{Page}
use Rattle.pg_greedy.specs.FirstFit.{AreFirstFit}
use Rattle.pg_greedy.specs.Looking.{items_from, style_of}
use Rattle.pg_greedy.proofs.builder.pages_of.Given as goal

abbrev pub invariant-pages : goal.invariant-pages
invariant-pages l = record {
  within : l.from ≤ length l.builder.galley.now.blocks;
  fit : (more : List Page) → AreFirstFit (style_of l.builder) (items_from l.builder l.from) l.from more →
      AreFirstFit (style_of l.builder) (items_from l.builder 0) 0 (l.pages ++ more);
}

abbrev pub decreases-pages : goal.decreases-pages
decreases-pages l = length l.builder.galley.now.blocks - l.from
