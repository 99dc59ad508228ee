use Rattle.std.proofs.Common.{rules, arith, sym, subst, ◌≡◌, ◌++◌, List, length, map}
use Rattle.std.specs.Prelude.{reverse}
use Rattle.pg_plan.specs.declared.pages.Column.{Column}
use Rattle.pg_plan.specs.declared.pages.PageMove.{PageMove}
use Rattle.pg_judge.specs.Bases.{doc_of}
use Rattle.pg_judge.specs.Progress.{IsProgress, the_move}
use Rattle.pg_judge.proofs.Walks.{more_moves, take_whole}
use Rattle.pg_judge.proofs.walk.judge_later.Goals as goal

pub loop-column-preserved : goal.loop-column-preserved
loop-column-preserved c = record {
  kept = c.in_ok-judge.ensures.kept;
  number = (let n = c.in_ok-judge.ensures.number in let i = c.loop-column.invariant.number in omega (arith, n, i));
  next = λ ms p. subst (λ (xs : List PageMove). IsProgress (doc_of c.args.basis.now) xs
      c.judge.new.self)
      (more_moves (λ (column : Column). the_move column c.args.run c.args.none.now) c.args.later.now
      c.loop-column.column-index c.column-item.result c.loop-column-test.true (sym c.column-item.is) ms)
      (c.in_ok-judge.ensures.next _ (c.loop-column.invariant.next ms p));
}

pub returns-clause-next : goal.returns-clause-next
returns-clause-next c = λ ms p.
    let all : c.loop-column.column-index ≡ length c.args.later.now = search rules in
    subst (λ (xs : List Column). IsProgress (doc_of c.args.basis.now)
    (reverse (map (λ (column : Column). the_move column c.args.run c.args.none.now) xs) ++ ms) c.loop-column.progress)
    (take_whole c.args.later.now c.loop-column.column-index all) (c.loop-column.invariant.next ms p)
