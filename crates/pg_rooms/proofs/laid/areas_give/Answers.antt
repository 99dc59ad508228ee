use Rattle.std.proofs.Common.{◌≡◌, ◌∙◌, ap, subst, sym}
use Rattle.pg_style.specs.Ranges.{IsAreaRule}
use Rattle.pg_style.specs.Values.{AreaRuleValue, StyleValue}
use Rattle.pg_rules.specs.Floats.{gap_shrink, gap_stretch}
use Rattle.law_moves.specs.Steps.{give_of}
use Rattle.pg_sources.specs.Document.{doc_of}
use Rattle.pg_rooms.proofs.LaidLemmas.{gives_are}
use Rattle.pg_rooms.proofs.laid.areas_give.Goals as goal

pub area_give-top-requires-clause-range : goal.area_give-top-requires-clause-range
area_give-top-requires-clause-range c =
    let rule : c.style.inside.top ≡ c.args.sources.now.style.now.top =
    ap (λ (style : StyleValue). style.top) c.style.view_is in
    subst IsAreaRule (sym rule) c.args.sources.now.in_range.style_in.top_in

pub area_give-bottom-requires-clause-range : goal.area_give-bottom-requires-clause-range
area_give-bottom-requires-clause-range c =
    let rule : c.style.inside.bottom ≡ c.args.sources.now.style.now.bottom =
    ap (λ (style : StyleValue). style.bottom) c.style.view_is in
    subst IsAreaRule (sym rule) c.args.sources.now.in_range.style_in.bottom_in

pub returns-clause-value : goal.returns-clause-value
returns-clause-value c = λ u wide by.
    let doc = doc_of c.args.sources.now in
    let layout = c.args.layout.now in
    let top : c.style.inside.top ≡ c.args.sources.now.style.now.top =
    ap (λ (style : StyleValue). style.top) c.style.view_is in
    let bottom : c.style.inside.bottom ≡ c.args.sources.now.style.now.bottom =
    ap (λ (style : StyleValue). style.bottom) c.style.view_is in
    c.plus.ensures.value ∙ gives_are doc u layout wide c.args.before.now c.args.below.now c.area_give-top.result
    c.area_give-bottom.result by
    (c.area_give-top.ensures.stretch
    ∙ ap (λ (rule : AreaRuleValue). give_of gap_stretch doc rule c.args.before.now layout.top) top)
    (c.area_give-top.ensures.shrink
    ∙ ap (λ (rule : AreaRuleValue). give_of gap_shrink doc rule c.args.before.now layout.top) top)
    (c.area_give-bottom.ensures.stretch
    ∙ ap (λ (rule : AreaRuleValue). give_of gap_stretch doc rule c.args.below.now layout.bottom) bottom)
    (c.area_give-bottom.ensures.shrink
    ∙ ap (λ (rule : AreaRuleValue). give_of gap_shrink doc rule c.args.below.now layout.bottom) bottom)

pub area_give-top-requires-clause-there : goal.area_give-top-requires-clause-there
area_give-top-requires-clause-there c = c.requires.top

pub area_give-bottom-requires-clause-there : goal.area_give-bottom-requires-clause-there
area_give-bottom-requires-clause-there c = c.requires.bottom
