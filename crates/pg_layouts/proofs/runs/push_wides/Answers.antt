use Rattle.std.proofs.Common.{arith, append-nil, sym}
use Rattle.pg_layouts.specs.Behind.{with_areas}
use Rattle.pg_layouts.proofs.OneMore.{flat_all, flat_next}
use Rattle.pg_layouts.proofs.Answered.{at_err}
use Rattle.pg_layouts.proofs.runs.push_wides.Goals as goal

pub loop-wide-init : goal.loop-wide-init
loop-wide-init c = sym (append-nil c.args.layouts.now.items)

pub push_wide-requires : goal.push_wide-requires
push_wide-requires c = c.requires c.wide-item.result (c.loop-wide.wide-index, c.loop-wide-test.true, sym c.wide-item.is)

pub returns-in_err-push_wide : goal.returns-in_err-push_wide
returns-in_err-push_wide c = at_err _ c.from_residual.result c.from_residual.ensures.0

pub loop-wide-preserved : goal.loop-wide-preserved
loop-wide-preserved c = flat_next (with_areas c.args.search.now.kind c.args.search.now.style.now c.args.placed.now
    c.args.search.now.ceiling.now c.args.run)
    c.args.layouts.now.items c.loop-wide.layouts.items c.push_wide.new.layouts.items c.args.wides.now
    c.loop-wide.wide-index c.wide-item.result c.loop-wide-test.true (sym c.wide-item.is) c.loop-wide.invariant
    c.in_ok-push_wide.ensures

pub returns : goal.returns
returns c = flat_all (with_areas c.args.search.now.kind c.args.search.now.style.now c.args.placed.now
    c.args.search.now.ceiling.now c.args.run)
    c.args.layouts.now.items c.loop-wide.layouts.items c.args.wides.now c.loop-wide.wide-index
    (omega (arith, c.loop-wide-test.false)) c.loop-wide.invariant
