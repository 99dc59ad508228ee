use Rattle.std.proofs.Common.{refl, sym, subst, ◌∙◌, ℤ, Option}
use Rattle.pg_rules.specs.History.{context, placed_after, placed_of, with_wide}
use Rattle.pg_rules.specs.Legal.{document}
use Rattle.pg_judge.specs.Seats.{seated}
use Rattle.pg_judge.specs.Moves.{JudgesMost, JudgesMove}
use Rattle.pg_judge.specs.Bases.{move_of}
use Rattle.pg_judge.specs.Seats.{IsSeat, seated}
use Rattle.pg_judge.proofs.Deals.{AreAdded}
use Rattle.pg_judge.proofs.MoveVerdict.{move_is, with_last}
use Rattle.pg_judge.proofs.Step.{added_move, run_is, the_few}
use Rattle.pg_judge.proofs.progress.Progress.judge_move.Goals as goal

pub returns : goal.returns
returns c = λ ms going h counted chained.
    let galley = c.args.basis.now.galley.now in
    let style = c.args.basis.now.style.now in
    let it = c.args.self.now in
    let m = move_of c.args.step.now in
    let doc = document galley style in
    let shape = c.requires.list.floats.shape in
    let few = the_few galley style c.args.basis.now.list.now c.requires.list in
    let seat = subst (λ (w : Option ℤ). IsSeat (seated galley style c.args.step.now.column.now c.args.step.now.run w
    (with_wide style (placed_of style ms) m)) c.seat_of-seat.result) h
    (c.seat_of-seat.ensures.seat (with_wide style (placed_of style ms) m) counted.before counted.below) in
    let added = subst (AreAdded doc shape few m ms) (sym c.judge_added-added.ensures)
    (added_move galley style c.args.basis.now.list.now c.requires.list m ms it going c.requires.kept c.args.counted.now counted
    c.seat_of-seat.result seat) in
    let most = subst (JudgesMost doc m ms) (sym c.decide-most.ensures)
    (move_is doc shape few m ms chained c.judge_own-own.result c.judge_added-added.result c.has_run.result
    (c.judge_own-own.ensures (context doc m ms) refl refl seat) added
    (run_is galley style c.args.basis.now.list.now c.requires.list m ms it going c.has_run.result c.has_run.ensures)) in
    subst (JudgesMove doc m ms) (sym c.with_barriers.ensures)
    (with_last doc m ms c.decide-most.result c.keeps_barriers-keeps.result most
    (c.keeps_barriers-keeps.ensures (placed_of style ms) (placed_after style (placed_of style ms) m)
    (c.as_slice-before.ensures ∙ going.placed) (c.as_slice-after.ensures ∙ counted.after)))
