use Rattle.std.proofs.Common.{rules, ◌≡◌, ◌++◌, ◌∙◌, ap, append-nil, length, sym, ℕ}
use Rattle.std.specs.List.{filter, flat_map, range_with_len}
use Rattle.pg_layouts.specs.Layouts.{takes_run}
use Rattle.pg_layouts.specs.Behind.{of_run}
use Rattle.pg_layouts.proofs.OneMore.{taken_next}
use Rattle.pg_layouts.proofs.Answered.{at_err}
use Rattle.pg_layouts.proofs.runs.push_runs.Goals as goal

pub loop-run-init : goal.loop-run-init
loop-run-init c = sym (append-nil c.args.layouts.now.items)

pub push_run-requires : goal.push_run-requires
push_run-requires c = c.requires

pub returns-in_err-push_run : goal.returns-in_err-push_run
returns-in_err-push_run c = at_err _ c.from_residual.result c.from_residual.ensures.0

pub loop-run-preserved : goal.loop-run-preserved
loop-run-preserved c = taken_next
    (of_run c.args.search.now.kind c.args.search.now.style.now c.args.placed.now c.args.search.now.ceiling.now
    c.args.wides.now) (takes_run c.args.must)
    c.args.layouts.now.items c.loop-run.layouts.items c.push_run.new.layouts.items c.loop-run.run
    c.loop-run.invariant c.in_ok-push_run.ensures

pub returns : goal.returns
returns c = c.loop-run.invariant
    ∙ ap (λ (n : ℕ). c.args.layouts.now.items ++ flat_map
    (of_run c.args.search.now.kind c.args.search.now.style.now c.args.placed.now c.args.search.now.ceiling.now
    c.args.wides.now)
    (filter (takes_run c.args.must) (range_with_len 0 n)))
    (let e : c.loop-run.run ≡ length c.args.search.now.style.now.runs = search rules in e)
