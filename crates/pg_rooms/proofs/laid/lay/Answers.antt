use Rattle.pg_sources.specs.Document.{doc_of}
use Rattle.pg_rooms.specs.Laid.{IsLaidBy, IsThere}
use Rattle.pg_rooms.proofs.LaidLemmas.{laid_is}
use Rattle.std.proofs.Common.{ap, subst, sym, ◌∙◌, List, ℕ}
use Rattle.pg_rules.specs.Floats.{plus_counts}
use Rattle.std.proofs.lemmas.Result.{IfOk-from_err}
use Rattle.pg_rooms.proofs.laid.lay.Goals as goal

pub returns-clause-laid : goal.returns-clause-laid
returns-clause-laid c =
    let by : IsLaidBy (doc_of c.args.sources.now) c.args.state.now c.args.layout c.wide_height-wide.result
    c.in_ok-before.before c.in_ok-below.below = record {
      wide_is = c.wide_height-wide.ensures.value;
      before_is = c.in_ok-before.ensures.value;
      below_is = c.in_ok-below.ensures.value;
    } in
    laid_is (doc_of c.args.sources.now) c.args.state.now c.args.layout c.in_ok-of.field-0 c.wide_height-wide.result c.in_ok-before.before
    c.in_ok-below.below c.in_ok-after.after c.count-placed.result c.room-room.result by c.in_ok-after.ensures.value
    c.count-placed.ensures (c.room-room.ensures.value c.args.state.now by) c.in_ok-of.ensures

pub plus-requires-clause-there : goal.plus-requires-clause-there
plus-requires-clause-there c = c.requires.laid.wide

pub plus-requires-2-clause-long : goal.plus-requires-2-clause-long
plus-requires-2-clause-long c = c.in_ok-before.ensures.long

pub plus-requires-2-clause-there : goal.plus-requires-2-clause-there
plus-requires-2-clause-there c =
    subst (λ (before : List ℕ). IsThere (doc_of c.args.sources.now) before c.args.layout.top)
    (sym c.in_ok-before.ensures.value) c.requires.laid.top

pub plus-requires-3-clause-long : goal.plus-requires-3-clause-long
plus-requires-3-clause-long c = c.in_ok-below.ensures.long

pub plus-requires-3-clause-there : goal.plus-requires-3-clause-there
plus-requires-3-clause-there c =
    subst (λ (below : List ℕ). IsThere (doc_of c.args.sources.now) below c.args.layout.bottom)
    (sym (c.in_ok-below.ensures.value
    ∙ ap (λ (before : List ℕ). plus_counts c.args.sources.now.style.now before c.args.layout.top)
    c.in_ok-before.ensures.value))
    c.requires.laid.bottom

pub count-placed-requires : goal.count-placed-requires
count-placed-requires c = c.in_ok-after.ensures.long

pub wide_height-wide-requires-clause-own : goal.wide_height-wide-requires-clause-own
wide_height-wide-requires-clause-own c = c.requires.own

pub wide_height-wide-requires-clause-there : goal.wide_height-wide-requires-clause-there
wide_height-wide-requires-clause-there c = c.requires.laid.wide

pub room-room-requires-clause-wide : goal.room-room-requires-clause-wide
room-room-requires-clause-wide c = c.wide_height-wide.ensures.size

pub room-room-requires-clause-top : goal.room-room-requires-clause-top
room-room-requires-clause-top c =
    subst (λ (before : List ℕ). IsThere (doc_of c.args.sources.now) before c.args.layout.top)
    (sym c.in_ok-before.ensures.value) c.requires.laid.top

pub room-room-requires-clause-bottom : goal.room-room-requires-clause-bottom
room-room-requires-clause-bottom c =
    subst (λ (below : List ℕ). IsThere (doc_of c.args.sources.now) below c.args.layout.bottom)
    (sym (c.in_ok-below.ensures.value
    ∙ ap (λ (before : List ℕ). plus_counts c.args.sources.now.style.now before c.args.layout.top)
    c.in_ok-before.ensures.value))
    c.requires.laid.bottom

pub returns-in_err-before-clause-laid : goal.returns-in_err-before-clause-laid
returns-in_err-before-clause-laid c = IfOk-from_err c.from_residual.result _ c.from_residual.ensures.0

pub returns-in_err-before-clause-size : goal.returns-in_err-before-clause-size
returns-in_err-before-clause-size c = IfOk-from_err c.from_residual.result _ c.from_residual.ensures.0

pub returns-in_err-before-clause-low : goal.returns-in_err-before-clause-low
returns-in_err-before-clause-low c = IfOk-from_err c.from_residual.result _ c.from_residual.ensures.0

pub returns-in_err-below-clause-laid : goal.returns-in_err-below-clause-laid
returns-in_err-below-clause-laid c =
    IfOk-from_err c.from_residual-in_err-below.result _ c.from_residual-in_err-below.ensures.0

pub returns-in_err-below-clause-size : goal.returns-in_err-below-clause-size
returns-in_err-below-clause-size c =
    IfOk-from_err c.from_residual-in_err-below.result _ c.from_residual-in_err-below.ensures.0

pub returns-in_err-below-clause-low : goal.returns-in_err-below-clause-low
returns-in_err-below-clause-low c =
    IfOk-from_err c.from_residual-in_err-below.result _ c.from_residual-in_err-below.ensures.0

pub returns-in_err-after-clause-laid : goal.returns-in_err-after-clause-laid
returns-in_err-after-clause-laid c =
    IfOk-from_err c.from_residual-in_err-after.result _ c.from_residual-in_err-after.ensures.0

pub returns-in_err-after-clause-size : goal.returns-in_err-after-clause-size
returns-in_err-after-clause-size c =
    IfOk-from_err c.from_residual-in_err-after.result _ c.from_residual-in_err-after.ensures.0

pub returns-in_err-after-clause-low : goal.returns-in_err-after-clause-low
returns-in_err-after-clause-low c =
    IfOk-from_err c.from_residual-in_err-after.result _ c.from_residual-in_err-after.ensures.0

pub returns-in_err-of-clause-laid : goal.returns-in_err-of-clause-laid
returns-in_err-of-clause-laid c = IfOk-from_err c.from_residual-in_err-of.result _ c.from_residual-in_err-of.ensures.0

pub returns-in_err-of-clause-size : goal.returns-in_err-of-clause-size
returns-in_err-of-clause-size c = IfOk-from_err c.from_residual-in_err-of.result _ c.from_residual-in_err-of.ensures.0

pub returns-in_err-of-clause-low : goal.returns-in_err-of-clause-low
returns-in_err-of-clause-low c = IfOk-from_err c.from_residual-in_err-of.result _ c.from_residual-in_err-of.ensures.0

pub returns-clause-size : goal.returns-clause-size
returns-clause-size c = c.room-room.ensures.size

pub returns-clause-low : goal.returns-clause-low
returns-clause-low c = c.room-room.ensures.low
