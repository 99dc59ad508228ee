use Rattle.std.proofs.Common.{◌≡◌, ◌+◌, ◌-◌, suc, length, None, ℕ}
use Rattle.pg_greedy.specs.Ahead.{look}
use Rattle.pg_greedy.specs.Looking.{AreRead, IsPriced, counted, items_from, style_of}
use Rattle.pg_greedy.proofs.look.Builder.look_ahead.Given as goal

abbrev pub invariant-items : goal.invariant-items
invariant-items l = record {
  read : AreRead (style_of l.self) (items_from l.self l.from) l.read;
  priced : IsPriced (style_of l.self) (items_from l.self l.from) l.best;
  looks : (n : ℕ) → l.read.count + n ≡ length (items_from l.self l.from) →
      look (style_of l.self) (items_from l.self l.from) 0 (length (items_from l.self l.from) + 1) None
      ≡ look (style_of l.self) (items_from l.self l.from) l.read.count (suc n) (counted l.best);
}

abbrev pub decreases-items : goal.decreases-items
decreases-items l = length (items_from l.self l.from) - l.read.count
