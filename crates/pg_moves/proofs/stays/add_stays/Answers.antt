use Rattle.std.proofs.Common.{rules, ◌≡◌, ◌++◌, ◌∙◌, ap, sym, length, take, ℕ}
use Rattle.std.specs.List.{flat_map}
use Rattle.std.proofs.Math.Seq.{take-length}
use Rattle.pg_layouts.proofs.OneMore.{flat_next}
use Rattle.pg_sources.specs.Document.{doc_of}
use Rattle.pg_moves.specs.Stepping.{stay_in}
use Rattle.pg_moves.proofs.stays.add_stays.Goals as goal

pub add_stay-requires-clause-laid : goal.add_stay-requires-clause-laid
add_stay-requires-clause-laid c = c.requires.laid c.it-item.result
    (c.loop-it.it-index, c.loop-it-test.true, sym c.it-item.is)

pub loop-it-preserved : goal.loop-it-preserved
loop-it-preserved c = flat_next (stay_in (doc_of c.args.sources.now) c.args.state.now) c.args.steps.now c.loop-it.steps
    c.add_stay.new.steps c.args.laid.now c.loop-it.it-index c.it-item.result c.loop-it-test.true (sym c.it-item.is)
    c.loop-it.invariant c.in_ok-add_stay.ensures

pub returns : goal.returns
returns c =
    let e : c.loop-it.it-index ≡ length c.args.laid.now = search rules in
    c.loop-it.invariant
    ∙ ap (λ xs. c.args.steps.now ++ flat_map (stay_in (doc_of c.args.sources.now) c.args.state.now) xs)
    (ap (λ (n : ℕ). take n c.args.laid.now) e ∙ take-length c.args.laid.now)
