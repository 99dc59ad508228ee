use Rattle.std.proofs.Common.{sym, refl, arith, append-nil}
use Rattle.pg_showbox.specs.Text.{block_text}
use Rattle.pg_showbox.proofs.Grown.{grows_on, grows_same, text_more, text_all}
use Rattle.pg_showbox.proofs.print.print_blocks.Goals as goal

pub loop-block-init : goal.loop-block-init
loop-block-init c = record {
  text = sym (append-nil c.args.out.now.items);
  grows = grows_same c.args.out.now.items c.args.out.now.items refl;
}

pub returns-in_err-print_block-clause-grows : goal.returns-in_err-print_block-clause-grows
returns-in_err-print_block-clause-grows c = grows_on c.args.out.now.items c.loop-block.out.items
    c.print_block.new.out.items c.loop-block.invariant.grows c.print_block.ensures.grows

pub loop-block-preserved : goal.loop-block-preserved
loop-block-preserved c = record {
  text = text_more block_text c.args.blocks.now c.loop-block.block-index c.block-item.result
      c.args.out.now.items c.loop-block.out.items c.print_block.new.out.items c.loop-block-test.true
      c.block-item.is c.loop-block.invariant.text c.in_ok-print_block.ensures.ok;
  grows = grows_on c.args.out.now.items c.loop-block.out.items c.print_block.new.out.items
      c.loop-block.invariant.grows c.in_ok-print_block.ensures.grows;
}

pub returns-clause-ok : goal.returns-clause-ok
returns-clause-ok c = text_all block_text c.args.blocks.now c.loop-block.block-index c.args.out.now.items
    c.loop-block.out.items (omega (arith, c.loop-block-test.false)) c.loop-block.invariant.text

pub returns-clause-grows : goal.returns-clause-grows
returns-clause-grows c = c.loop-block.invariant.grows
