use Rattle.pg_lines.proofs.Texts.{three}
use Rattle.pg_lines.proofs.text.print_box_front.Goals as goal

pub returns : goal.returns
returns c = three c.args.out.now.items c.print_size.new.out.items c.print_size-2.new.out.items
    c.print_size-3.new.out.items _ _ _ c.in_ok-print_size.ensures c.in_ok-print_size-2.ensures c.in_ok-print_size-3.ensures
