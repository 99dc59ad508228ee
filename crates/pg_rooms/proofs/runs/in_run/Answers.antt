use Rattle.std.proofs.Common.{refl, rules, ◌∙◌, ap, ℕ, w64}
use Rattle.std.specs.Prelude.{◌-ℤ◌}
use Rattle.std.proofs.lemmas.Int.{to_z-of_z}
use Rattle.pg_rooms.specs.Runs.{full_in}
use Rattle.pg_rooms.proofs.Running.{in_run_is}
use Rattle.std.proofs.lemmas.Result.{IfOk-from_err}
use Rattle.pg_rooms.proofs.runs.in_run.Goals as goal

pub returns-clause-value : goal.returns-clause-value
returns-clause-value c =
    let style = c.args.sources.now.style.now in
    in_run_is style c.args.run c.args.it.now c.in_ok-in_run.field-0 c.in_ok-copy.field-0 c.args.it.now.placed
    c.raised-room.result _ c.in_ok-in_run.ensures c.in_ok-copy.ensures refl
    (to_z-of_z w64 c.higher-more.result (record { sfits = search rules }) ∙ (c.higher-more.ensures.value
    ∙ ap (λ (n : ℕ). full_in style c.args.run -ℤ full_in style n) c.run.ensures))
    c.raised-room.ensures.size c.raised-room.ensures.give

pub raised-room-requires-clause-room : goal.raised-room-requires-clause-room
raised-room-requires-clause-room c = c.requires

pub returns-in_err-in_run-clause-value : goal.returns-in_err-in_run-clause-value
returns-in_err-in_run-clause-value c = IfOk-from_err c.from_residual.result _ c.from_residual.ensures.0

pub returns-in_err-in_run-clause-small : goal.returns-in_err-in_run-clause-small
returns-in_err-in_run-clause-small c = IfOk-from_err c.from_residual.result _ c.from_residual.ensures.0

pub returns-in_err-copy-clause-value : goal.returns-in_err-copy-clause-value
returns-in_err-copy-clause-value c =
    IfOk-from_err c.from_residual-in_err-copy.result _ c.from_residual-in_err-copy.ensures.0

pub returns-in_err-copy-clause-small : goal.returns-in_err-copy-clause-small
returns-in_err-copy-clause-small c =
    IfOk-from_err c.from_residual-in_err-copy.result _ c.from_residual-in_err-copy.ensures.0

pub returns-clause-small : goal.returns-clause-small
returns-clause-small c = c.raised-room.ensures.small
