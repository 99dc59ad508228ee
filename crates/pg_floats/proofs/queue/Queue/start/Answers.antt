use Rattle.std.proofs.Common.{◌≡◌, ◌∙◌, ap, sym, subst, List, ℕ, [], length}
use Rattle.std.specs.Prelude.{replicate}
use Rattle.pg_rules.specs.Floats.{float_numbers}
use Rattle.pg_floats.specs.QueueValue.{IsOf}
use Rattle.pg_floats.proofs.Queues.{of_none}
use Rattle.pg_floats.proofs.queue.Queue.start.Goals as goal

pub returns-clause-of : goal.returns-clause-of
returns-clause-of c =
    let style = c.args.style.now in
    let zeros : List ℕ = replicate (length (float_numbers style)) 0 in
    let waiting : zeros ≡ c.zeros-2.result =
    sym (c.zeros-2.ensures ∙ ap (λ (n : ℕ). replicate n 0) c.count_of-slots.ensures.value) in
    let P : List ℕ → Type 0 = λ xs. IsOf style (record { placed = c.zeros.result; waiting = xs; ages = [] }) in
    let Q : List ℕ → Type 0 =
    λ xs. IsOf style (record { placed = c.zeros.result; waiting = c.zeros-2.result; ages = xs }) in
    let start : IsOf style (record { placed = c.zeros.result; waiting = zeros; ages = [] }) =
    record { slots = (of_none style).slots; young = (of_none style).young } in
    subst Q (sym c.new.ensures) (subst P waiting start)
