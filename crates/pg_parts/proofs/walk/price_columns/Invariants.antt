use Rattle.std.proofs.Common.{◌≡◌, take}
use Rattle.std.specs.Prelude.{reverse}
use Rattle.pg_judge.specs.Progress.{IsKept, IsProgress}
use Rattle.pg_rules.specs.Legal.{document}
use Rattle.pg_parts.specs.Priced.{ArePriced}
use Rattle.pg_parts.proofs.walk.price_columns.Given as goal

abbrev pub invariant-loop-step : goal.invariant-loop-step
invariant-loop-step l = record {
  kept : IsKept l.style l.progress;
  number : l.progress.number ≡ l.step-index;
  progress : IsProgress (document l.galley l.style) (reverse (take l.step-index l.moves)) l.progress;
  priced : ArePriced (document l.galley l.style) (reverse (take l.step-index l.moves)) (reverse l.columns.items);
}
