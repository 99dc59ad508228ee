use Rattle.std.proofs.Common.{◌≡◌, ◌∙◌, ap, sym, subst, drop}
use Rattle.pg_hlist.specs.Items.{IsPara}
use Rattle.law_lines.specs.Lines.{from_box, line_items}
use Rattle.pg_lines.proofs.LineRanges.{line_keeps}
use Rattle.pg_lines.proofs.lines.line_between.Goals as goal

is_line : (c : goal.After-from_box) → c.from_box.result.now ≡ line_items c.args.items.now c.args.start c.args.end
is_line c = c.from_box.ensures ∙ ap from_box (c.from.ensures ∙ ap (drop c.args.start) c.up_to.ensures)

pub returns-clause-para : goal.returns-clause-para
returns-clause-para c = subst IsPara (sym (is_line c))
    (line_keeps c.args.items.now c.args.start c.args.end c.requires)
