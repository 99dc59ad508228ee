use Rattle.std.proofs.Common.{◌≡◌, rules, arith, IfSome, Option, subst, sym, w64, ℤ, pos, ◌-ℤ◌, to_z, of_z}
use Rattle.std.proofs.lemmas.Int.{ints, to_z-of_z}
use Rattle.pg_notes.specs.NotesValue.{heights, skips}
use Rattle.pg_candidates.specs.Nears.{IsWorstAt, IsWorstGoal}
use Rattle.pg_candidates.proofs.until.room_for.Goals as goal

pub returns-in-Some : goal.returns-in-Some
returns-in-Some c = λ style most it high worst.
    let given = skips style.classes it.passed.notes in
    let far = subst (λ (o : Option ℤ). IfSome o (IsWorstGoal style most it.passed.totals given)) c.in-Some.is worst in
    let least : to_z w64 (of_z w64 c.in-Some.least) ≡ c.in-Some.least =
    to_z-of_z w64 c.in-Some.least (record { sfits = omega (arith, far.size) }) in
    let room = to_z-of_z w64 c.plus.result (record { sfits = search rules }) in
    let notes = to_z-of_z w64 c.args.notes (record { sfits = search rules }) in
    let left : (to_z w64 (of_z w64 c.plus.result) -ℤ pos (heights style.classes it.passed.notes)) ≡ c.in-Some.least =
    omega (arith, ints, least, room, notes, high, c.plus.ensures.value) in
    subst (IsWorstAt style most it.passed.totals given) (sym left) far.worst
