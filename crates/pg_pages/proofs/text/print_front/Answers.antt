use Rattle.std.proofs.Common.{sym, ◌∙◌}
use Rattle.pg_pages.proofs.Printed.{front_text}
use Rattle.pg_pages.proofs.Grown.{grows_on}
use Rattle.pg_pages.proofs.text.print_front.Goals as goal

pub front-preserved : goal.front-preserved
front-preserved c = record {
  text = front_text c.args.out.now.items c.front.out.items c.print_plain.new.out.items c.front.rest.now
      c.args.items.now c.item-item.result _ c.in-len1-up.len_at_least c.item-item.is
      (sym c.item_is_box.ensures ∙ c.if-item_is_box.false) c.in_ok-print_plain.ensures.ok c.front.invariant.text;
  grows = grows_on c.args.out.now.items c.front.out.items c.print_plain.new.out.items c.front.invariant.grows
      c.in_ok-print_plain.ensures.grows;
}

pub returns-clause-grows : goal.returns-clause-grows
returns-clause-grows c = c.front.invariant.grows

pub returns-in_err-print_plain-clause-grows : goal.returns-in_err-print_plain-clause-grows
returns-in_err-print_plain-clause-grows c = grows_on c.args.out.now.items c.front.out.items
    c.print_plain.new.out.items c.front.invariant.grows c.print_plain.ensures.grows
