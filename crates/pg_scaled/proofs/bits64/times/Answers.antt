use Rattle.std.proofs.Common.{◌^◌, arith, rules, lit<}
use Rattle.std.proofs.lemmas.Int.{to_z-of_z, fits_signed_mul, unsigned_abs-mul}
use Rattle.std.specs.Prelude.{◌*ℤ◌}
use mir.Val.{SFits}
use mir.Syntax.{w64}
use Rattle.pg_scaled.proofs.bits64.times.Goals as goal

pub returns-clause-value : goal.returns-clause-value
returns-clause-value c =
    let fa : SFits w64 c.args.a = search rules in
    let fb : SFits w64 c.args.b = search rules in
    let f : SFits w64 (c.args.a *ℤ c.args.b) = fits_signed_mul w64 c.args.a c.args.b (2 ^ 31) (2 ^ 31) (omega (arith, c.requires.a)) (omega (arith, c.requires.b)) (lit< tt) in
    simp to_z-of_z

pub returns-clause-size : goal.returns-clause-size
returns-clause-size c =
    let fa : SFits w64 c.args.a = search rules in
    let fb : SFits w64 c.args.b = search rules in
    let f : SFits w64 (c.args.a *ℤ c.args.b) = fits_signed_mul w64 c.args.a c.args.b (2 ^ 31) (2 ^ 31) (omega (arith, c.requires.a)) (omega (arith, c.requires.b)) (lit< tt) in
    simp to_z-of_z (unsigned_abs-mul c.args.a c.args.b)
