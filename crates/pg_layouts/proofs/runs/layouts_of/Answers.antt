use Rattle.std.proofs.Common.{◌∙◌, sym, subst, List, ℕ}
use Rattle.std.specs.Prelude.{Contains}
use Rattle.pg_layouts.specs.Behind.{bare}
use Rattle.pg_layouts.specs.Fit.{Fit}
use Rattle.pg_layouts.specs.Layouts.{runs_of, wides_of}
use Rattle.pg_layouts.proofs.Fits.{Short, fits_wides, short_of}
use Rattle.pg_layouts.proofs.Answered.{grown_from}
use Rattle.std.proofs.lemmas.Result.{IfOk-from_err}
use Rattle.pg_layouts.proofs.runs.layouts_of.Goals as goal

pub returns-in_err-wides : goal.returns-in_err-wides
returns-in_err-wides c = IfOk-from_err c.from_residual.result _ c.from_residual.ensures.0

pub push_runs-requires : goal.push_runs-requires
push_runs-requires c = λ wide m.
    let wides = c.as_slice.ensures.value ∙ c.in_ok-wides.ensures in
    subst (λ (counts : List ℕ). Fit counts wide) (sym c.requires)
    (fits_wides c.args.search.now.style.now c.args.state.now c.args.search.now.ceiling.now
    (subst Short c.requires (short_of c.args.placed.now c.type_inv.placed))
    c.args.search.now.short wide
    (subst (λ (lists : List (List ℕ)). Contains lists wide) wides m))

pub returns-in_err-push_runs : goal.returns-in_err-push_runs
returns-in_err-push_runs c = IfOk-from_err c.from_residual-in_err-push_runs.result _
    c.from_residual-in_err-push_runs.ensures.0

pub returns : goal.returns
returns c = grown_from c.args.search.now.kind c.args.search.now.style.now c.args.state.now.placed
    c.args.search.now.ceiling.now c.args.placed.now
    (wides_of (bare c.args.search.now.style.now) c.args.state.now c.args.search.now.ceiling.now) c.as_slice.result.now
    (runs_of c.args.search.now.style.now c.args.state.now.run) c.new-layouts.result.items c.push_runs.new.layouts.items
    c.new-layouts.ensures.items c.requires (c.as_slice.ensures.value ∙ c.in_ok-wides.ensures) c.in_ok-push_runs.ensures
