use Rattle.std.proofs.Common.{◌∙◌, sym, ap, subst, arith, ◌++◌}
use Rattle.pg_fold.specs.Imposed.{layout_of, signature_of}
use Rattle.pg_fold.specs.Laws.{ReadsInOrder}
use Rattle.pg_fold.proofs.LayoutSizes.{all_imposed, signature_same, size_is, size_small}
use Rattle.pg_fold.proofs.ReadSheets.{folded_read}
use Rattle.pg_fold.proofs.Runs.{joined_next}
use Rattle.pg_fold.proofs.layout.impose.Goals as goal

pub times-requires-clause-small : goal.times-requires-clause-small
times-requires-clause-small c =
    size_small c.args.folds c.args.nest c.times-size.result
    (size_is c.args.folds c.args.nest c.from.result c.from-2.result c.pow.result c.times-size.result c.from.ensures
    c.from-2.ensures c.pow.ensures c.times-size.ensures)
    c.requires.few_folds c.requires.few_nest

pub loop-signature-preserved : goal.loop-signature-preserved
loop-signature-preserved c =
    joined_next
    (signature_of
    (layout_of c.args.folds c.args.nest c.args.pages)) c.loop-signature.signature c.loop-signature.sheets
    c.push_signature.new.sheets
    c.loop-signature.invariant
    (c.in_ok-push_signature.ensures ∙ ap (λ more. c.loop-signature.sheets ++ more)
    (signature_same c.args.folds c.args.nest c.args.pages c.from.result c.from-2.result c.times-size.result
    c.times.result c.loop-signature.signature
    c.from.ensures c.from-2.ensures
    (size_is c.args.folds c.args.nest c.from.result c.from-2.result c.pow.result c.times-size.result c.from.ensures
    c.from-2.ensures c.pow.ensures c.times-size.ensures)
    c.times.ensures))

pub returns-clause-reads : goal.returns-clause-reads
returns-clause-reads c =
    subst (ReadsInOrder c.args.folds c.args.nest c.args.pages)
    (sym (all_imposed c.args.folds c.args.nest c.args.pages c.times-size.result c.loop-signature.signature
    c.loop-signature.sheets
    (size_is c.args.folds c.args.nest c.from.result c.from-2.result c.pow.result c.times-size.result c.from.ensures
    c.from-2.ensures c.pow.ensures c.times-size.ensures)
    c.loop-signature.invariant (omega (arith, c.loop-signature-test.false, c.loop-signature.auto.signature-end))))
    (folded_read c.args.folds c.args.nest c.args.pages c.requires.some_folds c.requires.few_folds c.requires.some_nest)
