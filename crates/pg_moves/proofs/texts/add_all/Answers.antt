use Rattle.std.proofs.Common.{◌≡◌, ◌∙◌, arith, sym, ap, length, take, ℕ}
use Rattle.std.specs.List.{flat_map}
use Rattle.std.proofs.Math.Seq.{take-length}
use Rattle.pg_column.specs.Numbers.{IsRoom}
use Rattle.pg_sources.specs.Document.{doc_of}
use Rattle.pg_rooms.specs.declared.laid.Laid.{Laid}
use Rattle.pg_rooms.proofs.Kept.{all_contain}
use Rattle.pg_moves.specs.Stepping.{all_steps_in}
use Rattle.pg_moves.proofs.AllSteps.{at_err}
use Rattle.pg_moves.proofs.Added.{adds_none, adds_same}
use Rattle.pg_moves.proofs.Stepped.{layouts_more}
use Rattle.pg_moves.proofs.texts.add_all.Goals as goal

pub loop-it-init : goal.loop-it-init
loop-it-init g c = λ right. adds_none (g.W.Wants.spares c.args.wants.now) c.args.steps.now

pub add_laid-requires-clause-room : goal.add_laid-requires-clause-room
add_laid-requires-clause-room g c = all_contain (λ (it : Laid). IsRoom it.room) c.args.laid.now c.it-item.result
    c.requires.rooms (c.loop-it.it-index, c.loop-it-test.true, sym c.it-item.is)

pub loop-it-preserved : goal.loop-it-preserved
loop-it-preserved g c = λ right. layouts_more
    (all_steps_in (doc_of c.args.opening.now.sources.now) c.args.opening.now.state.now c.args.kept.now)
    (g.W.Wants.spares c.args.wants.now) c.args.steps.now c.loop-it.steps c.add_laid.new.steps c.args.laid.now
    c.loop-it.it-index c.it-item.result c.loop-it-test.true (sym c.it-item.is) (c.loop-it.invariant right)
    (c.in_ok-add_laid.ensures right)

pub returns : goal.returns
returns g c = λ right.
    let e : c.loop-it.it-index ≡ length c.args.laid.now =
    omega (arith, c.loop-it-test.false, c.loop-it.auto.it-index-end) in
    adds_same (g.W.Wants.spares c.args.wants.now) c.args.steps.now c.loop-it.steps _ _
    (ap (flat_map (all_steps_in (doc_of c.args.opening.now.sources.now) c.args.opening.now.state.now c.args.kept.now))
    (ap (λ (n : ℕ). take n c.args.laid.now) e ∙ take-length c.args.laid.now)) (c.loop-it.invariant right)

pub add_laid-requires-clause-own : goal.add_laid-requires-clause-own
add_laid-requires-clause-own g c = c.requires.own

pub add_laid-requires-clause-known : goal.add_laid-requires-clause-known
add_laid-requires-clause-known g c = c.requires.known

pub add_laid-requires-clause-laid : goal.add_laid-requires-clause-laid
add_laid-requires-clause-laid g c = c.requires.laid c.it-item.result
    (c.loop-it.it-index, c.loop-it-test.true, sym c.it-item.is)

pub returns-in_err-add_laid : goal.returns-in_err-add_laid
returns-in_err-add_laid g c = at_err _ c.from_residual.result c.from_residual.ensures.0
