use Rattle.std.proofs.Common.{◌≡◌, ◌∙◌, ap, sym, subst, length, List, ℕ}
use Rattle.std.specs.Prelude.{sum}
use Rattle.pg_rules.specs.Floats.{distance_table}
use Rattle.pg_floats.specs.QueueValue.{QueueValue, late_by, late_of}
use Rattle.pg_floats.proofs.Queues.{small, none_is}
use Rattle.pg_floats.proofs.queue.Queue.late.Goals as goal

pub returns-clause-small : goal.returns-clause-small
returns-clause-small c = λ none.
    let style = c.args.style.now in
    let f : ℕ → ℕ = λ slot. length (distance_table style slot) in
    let P : QueueValue → Type 0 = λ q. sum q.waiting ≡ length q.ages in
    let waits : sum c.args.self.now.waiting ≡ length c.args.self.now.ages =
    subst P c.self.view_is c.self.invariant.each_waits in
    let value : c.late_in_queue.result ≡ late_of style c.args.self.now =
    c.late_in_queue.ensures.value
    ∙ (ap (λ (xs : List ℕ). late_by f 0 xs c.as_slice-2.result.now) c.as_slice.ensures
    ∙ (ap (λ (xs : List ℕ). late_by f 0 c.self.inside.waiting xs) c.as_slice-2.ensures
    ∙ ap (λ (q : QueueValue). late_of style q) c.self.view_is)) in
    small style c.args.self.now c.late_in_queue.ensures.range waits
    (sym value ∙ none_is c.late_in_queue.result none)
