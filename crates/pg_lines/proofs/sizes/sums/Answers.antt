use Rattle.std.proofs.Common.{◌≡◌, ◌∙◌, ◌+◌, sym, ap, subst, arith, take, List}
use Rattle.pg_lemmas.proofs.Lists.{one_more}
use Rattle.pg_lines.specs.declared.sums.LineSums.{LineSums}
use Rattle.pg_lines.specs.Sums.{AreSmall, sums_of, sums_with}
use Rattle.pg_lines.proofs.SumsLaws.{sums_front, sums_push}
use Rattle.pg_lines.proofs.sizes.sums.Goals as goal

pub add-requires-clause-small : goal.add-requires-clause-small
add-requires-clause-small c = subst AreSmall (sym c.loop-item.invariant)
    (sums_front c.args.line.now c.loop-item.item-index c.requires.ranges c.requires.few)

pub loop-item-preserved : goal.loop-item-preserved
loop-item-preserved c =
    c.add.ensures ∙ ap (λ (s : LineSums). sums_with s c.item-item.result) c.loop-item.invariant
    ∙ sym (sums_push (take c.loop-item.item-index c.args.line.now) c.item-item.result)
    ∙ ap sums_of (sym (one_more c.args.line.now c.loop-item.item-index c.item-item.result c.loop-item-test.true
    c.item-item.is))

pub returns-clause-small : goal.returns-clause-small
returns-clause-small c = subst AreSmall (sym c.loop-item.invariant)
    (sums_front c.args.line.now c.loop-item.item-index c.requires.ranges c.requires.few)
