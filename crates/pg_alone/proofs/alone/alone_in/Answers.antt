use Rattle.std.proofs.Common.{rules, arith, ◌≡◌}
use Rattle.pg_alone.specs.Alone.{IsPlain}
use Rattle.pg_alone.proofs.Finding.{all_plain, one_more}
use Rattle.pg_alone.proofs.alone.alone_in.Goals as goal

pub loop-number-preserved : goal.loop-number-preserved
loop-number-preserved c = one_more (IsPlain c.args.galley.now c.args.style.now c.args.slot) c.loop-number.number
    c.loop-number.invariant c.in-None.ensures

pub returns : goal.returns
returns c =
    let all : c.loop-number.number ≡ 4096 = search rules in
    all_plain c.args.galley.now c.args.style.now c.args.slot
    (c.stays_few.ensures c.args.galley.now.blocks c.args.style.now c.requires)
    (λ n less. c.loop-number.invariant n (omega (arith, less, all)))
