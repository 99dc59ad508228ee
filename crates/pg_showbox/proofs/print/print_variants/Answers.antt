use Rattle.std.proofs.Common.{sym, refl, arith, append-nil}
use Rattle.pg_showbox.specs.Text.{variant_text}
use Rattle.pg_showbox.proofs.Grown.{grows_on, grows_same, text_more, text_all}
use Rattle.pg_showbox.proofs.print.print_variants.Goals as goal

pub loop-variant-init : goal.loop-variant-init
loop-variant-init c = record {
  text = sym (append-nil c.args.out.now.items);
  grows = grows_same c.args.out.now.items c.args.out.now.items refl;
}

pub returns-in_err-print_variant-clause-grows : goal.returns-in_err-print_variant-clause-grows
returns-in_err-print_variant-clause-grows c = grows_on c.args.out.now.items c.loop-variant.out.items
    c.print_variant.new.out.items c.loop-variant.invariant.grows c.print_variant.ensures.grows

pub loop-variant-preserved : goal.loop-variant-preserved
loop-variant-preserved c = record {
  text = text_more variant_text c.args.variants.now c.loop-variant.variant-index c.variant-item.result
      c.args.out.now.items c.loop-variant.out.items c.print_variant.new.out.items c.loop-variant-test.true
      c.variant-item.is c.loop-variant.invariant.text c.in_ok-print_variant.ensures.ok;
  grows = grows_on c.args.out.now.items c.loop-variant.out.items c.print_variant.new.out.items
      c.loop-variant.invariant.grows c.in_ok-print_variant.ensures.grows;
}

pub returns-clause-ok : goal.returns-clause-ok
returns-clause-ok c = text_all variant_text c.args.variants.now c.loop-variant.variant-index c.args.out.now.items
    c.loop-variant.out.items (omega (arith, c.loop-variant-test.false)) c.loop-variant.invariant.text

pub returns-clause-grows : goal.returns-clause-grows
returns-clause-grows c = c.loop-variant.invariant.grows
