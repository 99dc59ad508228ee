use Rattle.std.proofs.Common.{◌≡◌, ◌+◌, ◌++◌, List, map, take}
use Rattle.std.specs.Prelude.{reverse}
use Rattle.pg_plan.specs.declared.pages.Column.{Column}
use Rattle.pg_plan.specs.declared.pages.PageMove.{PageMove}
use Rattle.pg_judge.specs.Bases.{doc_of}
use Rattle.pg_judge.specs.Progress.{IsKept, IsProgress, the_move}
use Rattle.pg_judge.proofs.walk.judge_later.Given as goal

abbrev pub invariant-loop-column : goal.invariant-loop-column
invariant-loop-column l = record {
  kept : IsKept l.basis.style.now l.progress;
  number : l.progress.number ≡ l.initial.progress.number + l.column-index;
  next : (ms : List PageMove) → IsProgress (doc_of l.basis) ms l.initial.progress →
      IsProgress (doc_of l.basis)
      (reverse (map (λ (column : Column). the_move column l.run l.none) (take l.column-index l.later)) ++ ms) l.progress;
}
