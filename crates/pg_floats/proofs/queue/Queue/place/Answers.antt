use Rattle.std.proofs.Common.{◌≡◌, ◌<◌, ◌+◌, refl, subst, sym, length, arith, ℕ, get_or, take}
use Rattle.std.specs.Prelude.{sum}
use Rattle.pg_rules.specs.Floats.{distance_table}
use Rattle.pg_floats.specs.QueueValue.{IsOf}
use Rattle.pg_floats.proofs.Queues.{of_placed, young_first, positive}
use Rattle.pg_floats.proofs.queue.Queue.place.Goals as goal

pub entry_of-requires : goal.entry_of-requires
entry_of-requires c =
    let style = c.args.style.now in
    let some : 0 < get_or c.args.self.now.waiting c.args.slot 0 =
    positive (get_or c.args.self.now.waiting c.args.slot 0) (λ e. let no = c.in-Some.ensures.none.1 e in cc) in
    let first = young_first style 0 c.args.slot c.args.self.now.waiting c.args.self.now.ages c.requires.slot some
    c.take_first.ensures.kept.each_waits c.requires.of.young in
    let z : 0 + c.args.slot ≡ c.args.slot = omega arith in
    let P : ℕ → Type 0 = λ n. n < length (distance_table style c.args.slot) in
    subst P (sym c.in-Some.ensures.age)
    (subst (λ n. get_or c.args.self.now.ages (sum (take c.args.slot c.args.self.now.waiting)) 0 < length
    (distance_table style n)) z first)

pub returns-in-None-clause-of : goal.returns-in-None-clause-of
returns-in-None-clause-of c = subst (IsOf c.args.style.now) (sym (c.in-None.ensures.same refl)) c.requires.of

pub returns-in-Some-clause-of : goal.returns-in-Some-clause-of
returns-in-Some-clause-of c =
    let some : 0 < get_or c.args.self.now.waiting c.args.slot 0 =
    positive (get_or c.args.self.now.waiting c.args.slot 0) (λ e. let no = c.in-Some.ensures.none.1 e in cc) in
    subst (IsOf c.args.style.now) (sym c.in-Some.ensures.placed)
    (of_placed c.args.style.now c.args.self.now c.args.slot c.take_first.ensures.kept c.requires.of c.requires.slot some)
