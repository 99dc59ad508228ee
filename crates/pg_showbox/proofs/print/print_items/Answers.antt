use Rattle.std.proofs.Common.{◌∙◌, ap, sym, refl, arith, append-nil, List, ℕ, ◌++◌}
use Rattle.pg_list.specs.Bodies.{body_of}
use Rattle.pg_list.specs.declared.item.Item.{Item}
use Rattle.pg_showbox.specs.Text.{body_text}
use Rattle.pg_showbox.proofs.Grown.{grows_on, grows_same, text_more, text_all}
use Rattle.pg_showbox.proofs.print.print_items.Goals as goal

pub loop-item-init : goal.loop-item-init
loop-item-init c = record {
  text = sym (append-nil c.args.out.now.items);
  grows = grows_same c.args.out.now.items c.args.out.now.items refl;
}

pub returns-in_err-print_body-clause-grows : goal.returns-in_err-print_body-clause-grows
returns-in_err-print_body-clause-grows c = grows_on c.args.out.now.items c.loop-item.out.items
    c.print_body.new.out.items c.loop-item.invariant.grows c.print_body.ensures.grows

pub loop-item-preserved : goal.loop-item-preserved
loop-item-preserved c =
    let said = c.in_ok-print_body.ensures.ok
    ∙ ap (λ (body : List ℕ). c.loop-item.out.items ++ body_text body) c.body.ensures in
    record {
      text = text_more (λ (item : Item). body_text (body_of item)) c.args.items.now c.loop-item.item-index
          c.item-item.result c.args.out.now.items c.loop-item.out.items c.print_body.new.out.items
          c.loop-item-test.true c.item-item.is c.loop-item.invariant.text said;
      grows = grows_on c.args.out.now.items c.loop-item.out.items c.print_body.new.out.items
          c.loop-item.invariant.grows c.in_ok-print_body.ensures.grows;
    }

pub returns-clause-ok : goal.returns-clause-ok
returns-clause-ok c = text_all (λ (item : Item). body_text (body_of item)) c.args.items.now c.loop-item.item-index
    c.args.out.now.items c.loop-item.out.items (omega (arith, c.loop-item-test.false)) c.loop-item.invariant.text

pub returns-clause-grows : goal.returns-clause-grows
returns-clause-grows c = c.loop-item.invariant.grows
