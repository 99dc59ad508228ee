use Rattle.std.proofs.Common.{◌∙◌, sym, subst}
use Rattle.std.specs.List.{AllByRecursion}
use Rattle.pg_lines.proofs.Widths.{line_printable}
use Rattle.pg_glue.specs.Widths.{IsPrintable}
use Rattle.pg_lines.proofs.boxes.print_line.Goals as goal

pub print_items-requires : goal.print_items-requires
print_items-requires c = subst (AllByRecursion IsPrintable) (sym (c.as_slice.ensures.value ∙ c.in_ok-widths.ensures))
    (line_printable c.args.rule.now c.args.line.now c.requires.rule c.requires.ranges c.requires.few)
