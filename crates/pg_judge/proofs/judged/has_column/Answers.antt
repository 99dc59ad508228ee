use Rattle.std.proofs.Common.{rules, refl, ◌≡◌, ◌+ℤ◌, ◌-ℤ◌, w64, to_z, of_z}
use Rattle.pg_judge.proofs.judged.has_column.Goals as goal

pub returns : goal.returns
returns c =
    let a : to_z w64 (of_z w64 c.minus.result) ≡ c.minus.result = search rules in
    let b : to_z w64 (of_z w64 c.args.seat.now.full) ≡ c.args.seat.now.full = search rules in
    let d : c.minus.result ≡ c.plus.result -ℤ c.gap_below.result = search rules in
    let e : c.plus.result ≡ c.args.seat.now.wide +ℤ c.args.seat.now.top = search rules in
    rw (a, b, d, e, c.gap_below.ensures.value) refl
