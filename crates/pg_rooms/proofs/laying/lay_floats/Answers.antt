use Rattle.std.proofs.Common.{◌≡◌, ◌∙◌, ap, subst, map, List}
use Rattle.std.specs.Prelude.{Contains}
use Rattle.pg_plan.specs.declared.states.State.{State}
use Rattle.pg_layouts.proofs.Fits.{short_of}
use Rattle.pg_layouts.specs.Layouts.{float_layouts}
use Rattle.pg_layouts.specs.declared.layout.Layout.{Layout}
use Rattle.law_places.proofs.Members.{contains_among}
use Rattle.pg_sources.specs.Document.{doc_of}
use Rattle.pg_rooms.specs.Laid.{laid_of}
use Rattle.pg_rooms.specs.Runs.{first_run}
use Rattle.pg_rooms.proofs.Dealt.{placed_short, float_laid}
use Rattle.pg_rooms.proofs.Running.{laid_first, on_floats}
use Rattle.std.proofs.lemmas.Result.{IfOk-from_err}
use Rattle.pg_rooms.proofs.laying.lay_floats.Goals as goal

pub lay_all-requires-clause-laid : goal.lay_all-requires-clause-laid
lay_all-requires-clause-laid c = λ layout m.
    let doc = doc_of c.args.sources.now in
    let u = c.args.state.now in
    let is : c.as_slice.result.now ≡ float_layouts doc (first_run u) c.args.ceiling.now =
    c.as_slice.ensures.value ∙ (c.in_ok-layouts.ensures c.args.sources.now.galley.now.blocks
    ∙ ap (λ (it : State). float_layouts doc it c.args.ceiling.now) c.in_ok-first.ensures) in
    laid_first doc u layout (float_laid doc c.args.sources.now.in_range.style_in c.args.sources.now.in_range.blocks
    c.args.ceiling.now c.requires.ceiling (short_of c.args.ceiling.now c.type_inv.ceiling) (first_run u) layout
    (placed_short doc u c.args.sources.now.floats.now c.args.sources.now.list c.requires.own)
    (contains_among (float_layouts doc (first_run u) c.args.ceiling.now) layout
    (subst (λ (xs : List Layout). Contains xs layout) is m)))

pub returns-clause-laid : goal.returns-clause-laid
returns-clause-laid c =
    let doc = doc_of c.args.sources.now in
    let u = c.args.state.now in
    let is : c.as_slice.result.now ≡ float_layouts doc (first_run u) c.args.ceiling.now =
    c.as_slice.ensures.value ∙ (c.in_ok-layouts.ensures c.args.sources.now.galley.now.blocks
    ∙ ap (λ (it : State). float_layouts doc it c.args.ceiling.now) c.in_ok-first.ensures) in
    on_floats (λ all. all.items) c.on_runs.result doc u c.args.ceiling.now c.in_ok-laid.laid.items
    (c.in_ok-laid.ensures.laid ∙ ap (map (laid_of doc u)) is) c.on_runs.ensures.value

pub float_layouts-requires-clause-slots : goal.float_layouts-requires-clause-slots
float_layouts-requires-clause-slots c = c.slots.ensures.value

pub float_layouts-requires-clause-few : goal.float_layouts-requires-clause-few
float_layouts-requires-clause-few c = c.slots.ensures.few

pub lay_all-requires-clause-own : goal.lay_all-requires-clause-own
lay_all-requires-clause-own c = c.requires.own

pub on_runs-requires : goal.on_runs-requires
on_runs-requires c = c.in_ok-laid.ensures.low

pub returns-clause-small : goal.returns-clause-small
returns-clause-small c = c.on_runs.ensures.small

pub returns-in_err-first-clause-laid : goal.returns-in_err-first-clause-laid
returns-in_err-first-clause-laid c = IfOk-from_err c.from_residual.result _ c.from_residual.ensures.0

pub returns-in_err-first-clause-small : goal.returns-in_err-first-clause-small
returns-in_err-first-clause-small c = IfOk-from_err c.from_residual.result _ c.from_residual.ensures.0

pub returns-in_err-layouts-clause-laid : goal.returns-in_err-layouts-clause-laid
returns-in_err-layouts-clause-laid c =
    IfOk-from_err c.from_residual-in_err-layouts.result _ c.from_residual-in_err-layouts.ensures.0

pub returns-in_err-layouts-clause-small : goal.returns-in_err-layouts-clause-small
returns-in_err-layouts-clause-small c =
    IfOk-from_err c.from_residual-in_err-layouts.result _ c.from_residual-in_err-layouts.ensures.0

pub returns-in_err-laid-clause-laid : goal.returns-in_err-laid-clause-laid
returns-in_err-laid-clause-laid c =
    IfOk-from_err c.from_residual-in_err-laid.result _ c.from_residual-in_err-laid.ensures.0

pub returns-in_err-laid-clause-small : goal.returns-in_err-laid-clause-small
returns-in_err-laid-clause-small c =
    IfOk-from_err c.from_residual-in_err-laid.result _ c.from_residual-in_err-laid.ensures.0
