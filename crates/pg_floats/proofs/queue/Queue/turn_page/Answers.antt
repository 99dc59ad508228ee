use Rattle.std.proofs.Common.{sym, subst, List, ℕ}
use Rattle.pg_floats.specs.QueueValue.{IsOf, QueueValue, turned}
use Rattle.pg_floats.proofs.Queues.{of_turned}
use Rattle.pg_floats.proofs.queue.Queue.turn_page.Goals as goal

pub returns-clause-of : goal.returns-clause-of
returns-clause-of c = λ old.
    let style = c.args.style.now in
    let P : QueueValue → Type 0 = λ q. IsOf style (turned q) in
    let Q : List ℕ → Type 0 =
    λ ages. IsOf style (record {
      placed = c.self.inside.placed;
      waiting = c.self.inside.waiting;
      ages =
          ages;
    }) in
    subst Q (sym c.rise.ensures)
    (subst P (sym c.self.view_is) (of_turned style c.args.self.now old.slots (sym c.in_default.ensures.value)))
