use Rattle.std.proofs.Common.{◌∙◌, sym, ap, rules, Some, w32, w64}
use Rattle.std.proofs.lemmas.Int.{to_z-of_z}
use Rattle.pg_greedy.specs.Looking.{items_from}
use Rattle.pg_greedy.proofs.Places.{last_here, not_last, penalty_here}
use Rattle.pg_greedy.proofs.Seen.{break_at_end, break_inside, no_break}
use Rattle.pg_greedy.proofs.look.Builder.penalty.Goals as goal

pub returns-in_err-penalty-clause-value : goal.returns-in_err-penalty-clause-value
returns-in_err-penalty-clause-value c = λ some. c.from_residual.ensures
    ∙ no_break (items_from c.args.self.now c.args.from) c.args.count
    (penalty_here c.args.self.now c.requires.builder c.args.from c.args.count c.requires.within c.place_at.result
    c.place_at.ensures _ c.in_err-penalty.ensures.column some)

pub returns-then-from-count-clause-value : goal.returns-then-from-count-clause-value
returns-then-from-count-clause-value c = λ some.
    break_at_end (items_from c.args.self.now c.args.from) c.args.count c.in_ok-penalty.penalty
    (penalty_here c.args.self.now c.requires.builder c.args.from c.args.count c.requires.within c.place_at.result
    c.place_at.ensures _ c.in_ok-penalty.ensures.column some)
    (last_here c.args.self.now c.requires.builder c.args.from c.args.count
    (c.if-from-count.true ∙ c.end-end.ensures.value))

pub returns-else-from-count-clause-value : goal.returns-else-from-count-clause-value
returns-else-from-count-clause-value c = λ some.
    ap Some (to_z-of_z w64 c.from.result (record { sfits = search rules }) ∙ (c.from.ensures
    ∙ to_z-of_z w32 c.in_ok-penalty.penalty (record { sfits = search rules })))
    ∙ break_inside (items_from c.args.self.now c.args.from) c.args.count c.in_ok-penalty.penalty
    (penalty_here c.args.self.now c.requires.builder c.args.from c.args.count c.requires.within c.place_at.result
    c.place_at.ensures _ c.in_ok-penalty.ensures.column some)
    (not_last c.args.self.now c.requires.builder c.args.from c.args.count c.requires.within
    (λ e. c.if-from-count.false (e ∙ sym c.end-end.ensures.value)))
