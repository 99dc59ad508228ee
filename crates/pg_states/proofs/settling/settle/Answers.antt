use Rattle.std.proofs.Common.{◌≡◌, ◌≤◌, ◌^◌}
use Rattle.std.proofs.lemmas.Result.{IfOk-weaker}
use Rattle.std.specs.Prelude.{IfSome}
use Rattle.pg_list.specs.declared.galley.Place.{Place}
use Rattle.pg_rules.specs.Floats.{called}
use Rattle.pg_sources.specs.Document.{doc_of}
use Rattle.pg_states.specs.Lines.{line_in}
use Rattle.pg_states.specs.Settling.{Settles, SettlesBy}
use Rattle.pg_states.proofs.Settles.{few_paid, settles}
use Rattle.pg_states.proofs.settling.settle.Goals as goal

pub returns-clause-settles : goal.returns-clause-settles
returns-clause-settles c = IfOk-weaker c.settle.result
    (SettlesBy c.args.sources.now.style.now (line_in c.as_slice.result.now c.as_slice-ages.result.now
    c.as_slice-2.result.now c.args.reached.now) c.as_slice-3.result.now c.as_slice-4.result.now c.turns.result
    c.slots-slots.result)
    (λ settled. (to : Place) →
    c.args.reached.now ≡ called c.args.sources.now.galley.now.blocks c.args.sources.now.style.now to →
    Settles (doc_of c.args.sources.now) c.args.state.now to c.args.after.now settled)
    (λ settled h to e. settles (doc_of c.args.sources.now) c.args.state.now to c.args.known.now c.as_slice.result.now
    c.as_slice-ages.result.now c.as_slice-2.result.now c.args.reached.now c.as_slice-3.result.now
    c.as_slice-4.result.now c.args.after.now c.slots-slots.result c.turns.result settled c.requires
    c.as_slice.ensures c.as_slice-ages.ensures c.as_slice-2.ensures e c.as_slice-3.ensures c.as_slice-4.ensures
    c.slots-slots.ensures.few c.slots-slots.ensures.value c.turns.ensures h) c.settle.ensures

pub returns-clause-small : goal.returns-clause-small
returns-clause-small c = IfOk-weaker c.settle.result
    (SettlesBy c.args.sources.now.style.now (line_in c.as_slice.result.now c.as_slice-ages.result.now
    c.as_slice-2.result.now c.args.reached.now) c.as_slice-3.result.now c.as_slice-4.result.now c.turns.result
    c.slots-slots.result)
    (λ settled. IfSome settled (λ it. it.price ≤ 2 ^ 51))
    (λ settled h. few_paid c.args.sources.now.style.now _ c.as_slice-3.result.now c.as_slice-4.result.now
    c.turns.result c.slots-slots.result settled c.slots-slots.ensures.few h) c.settle.ensures
