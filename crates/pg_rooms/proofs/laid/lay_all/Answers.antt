use Rattle.std.proofs.Common.{arith, ◌≡◌, ◌∙◌, ap, subst, sym, length, map, take, ℕ}
use Rattle.std.proofs.Math.Seq.{take-length}
use Rattle.pg_sources.specs.Document.{doc_of}
use Rattle.pg_rooms.specs.Laid.{IsLaid, laid_of}
use Rattle.pg_rooms.proofs.LaidLemmas.{laid_more}
use Rattle.std.proofs.lemmas.Result.{IfOk-from_err}
use Rattle.pg_rooms.proofs.laid.lay_all.Goals as goal

pub lay-requires-clause-own : goal.lay-requires-clause-own
lay-requires-clause-own c = c.requires.own

pub lay-requires-clause-laid : goal.lay-requires-clause-laid
lay-requires-clause-laid c = subst (IsLaid (doc_of c.args.sources.now) c.args.state.now) (sym c.in_ok-copy.ensures)
    (c.requires.laid c.layout-item.result (c.loop-layout.layout-index, c.loop-layout-test.true, sym c.layout-item.is))

pub loop-layout-preserved : goal.loop-layout-preserved
loop-layout-preserved c = laid_more (doc_of c.args.sources.now) c.args.state.now c.args.layouts.now
    c.loop-layout.layout-index c.layout-item.result c.in_ok-copy.field-0 c.in_ok-lay.field-0 c.loop-layout.laid.items
    c.push.new.self.items c.loop-layout-test.true c.layout-item.is c.in_ok-copy.ensures c.in_ok-lay.ensures.laid
    (record { size = c.in_ok-lay.ensures.low; small = c.in_ok-lay.ensures.size }) c.loop-layout.invariant.0
    c.loop-layout.invariant.1 c.in_ok-push.ensures.items

pub returns-clause-laid : goal.returns-clause-laid
returns-clause-laid c =
    let e : c.loop-layout.layout-index ≡ length c.args.layouts.now =
    omega (arith, c.loop-layout-test.false, c.loop-layout.auto.layout-index-end) in
    c.loop-layout.invariant.0
    ∙ ap (map (laid_of (doc_of c.args.sources.now) c.args.state.now))
    (ap (λ (n : ℕ). take n c.args.layouts.now) e ∙ take-length c.args.layouts.now)

pub returns-clause-low : goal.returns-clause-low
returns-clause-low c = c.loop-layout.invariant.1

pub returns-in_err-laid-clause-laid : goal.returns-in_err-laid-clause-laid
returns-in_err-laid-clause-laid c = IfOk-from_err c.from_residual.result _ c.from_residual.ensures.0

pub returns-in_err-laid-clause-low : goal.returns-in_err-laid-clause-low
returns-in_err-laid-clause-low c = IfOk-from_err c.from_residual.result _ c.from_residual.ensures.0

pub returns-in_err-copy-clause-laid : goal.returns-in_err-copy-clause-laid
returns-in_err-copy-clause-laid c =
    IfOk-from_err c.from_residual-in_err-copy.result _ c.from_residual-in_err-copy.ensures.0

pub returns-in_err-copy-clause-low : goal.returns-in_err-copy-clause-low
returns-in_err-copy-clause-low c =
    IfOk-from_err c.from_residual-in_err-copy.result _ c.from_residual-in_err-copy.ensures.0

pub returns-in_err-lay-clause-laid : goal.returns-in_err-lay-clause-laid
returns-in_err-lay-clause-laid c =
    IfOk-from_err c.from_residual-in_err-lay.result _ c.from_residual-in_err-lay.ensures.0

pub returns-in_err-lay-clause-low : goal.returns-in_err-lay-clause-low
returns-in_err-lay-clause-low c = IfOk-from_err c.from_residual-in_err-lay.result _ c.from_residual-in_err-lay.ensures.0

pub returns-in_err-push-clause-laid : goal.returns-in_err-push-clause-laid
returns-in_err-push-clause-laid c =
    IfOk-from_err c.from_residual-in_err-push.result _ c.from_residual-in_err-push.ensures.0

pub returns-in_err-push-clause-low : goal.returns-in_err-push-clause-low
returns-in_err-push-clause-low c =
    IfOk-from_err c.from_residual-in_err-push.result _ c.from_residual-in_err-push.ensures.0
