use Rattle.std.proofs.Common.{rules, ◌≡◌, ◌∙◌, ◌<◌, ap, subst, sym, length, ℕ}
use Rattle.std.specs.List.{list_all, range_with_len}
use Rattle.pg_floats.proofs.Ranges.{next_all, not_all}
use Rattle.pg_rules.specs.Floats.{float_numbers}
use Rattle.pg_sources.specs.Document.{doc_of}
use Rattle.pg_states.specs.Called.{is_slot_called}
use Rattle.pg_states.proofs.called.calls_all.Goals as goal

pub returns-then-not-calls : goal.returns-then-not-calls
returns-then-not-calls c =
    sym (not_all (is_slot_called (doc_of c.args.sources.now) c.args.to c.args.counts.now)
    (length (float_numbers c.args.sources.now.style.now)) c.loop-slot.slot
    (subst (λ (n : ℕ). c.loop-slot.slot < n) c.slots-slots.ensures.value c.loop-slot-test.true)
    (sym c.calls.ensures ∙ c.if-not-calls.true))

pub loop-slot-preserved : goal.loop-slot-preserved
loop-slot-preserved c = next_all (is_slot_called (doc_of c.args.sources.now) c.args.to c.args.counts.now) c.loop-slot.slot
    c.loop-slot.invariant (sym c.calls.ensures ∙ c.if-not-calls.false)

pub returns : goal.returns
returns c =
    let e : c.loop-slot.slot ≡ length (float_numbers c.args.sources.now.style.now) = search rules in
    sym (ap (λ (n : ℕ). list_all (is_slot_called (doc_of c.args.sources.now) c.args.to c.args.counts.now)
    (range_with_len 0 n)) (sym e) ∙ c.loop-slot.invariant)
