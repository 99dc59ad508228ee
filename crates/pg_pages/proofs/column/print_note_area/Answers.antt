use Rattle.pg_pages.proofs.Grown.{grows_on, two_parts}
use Rattle.std.proofs.Common.{◌≡◌, ◌∙◌, ◌++◌, ap, arith, length, vec_len}
use Rattle.std.specs.Prelude.{codes}
use Rattle.pg_words.specs.Written.{line}
use Rattle.pg_pages.specs.Printed.{notes_area, notes_set}
use Rattle.pg_column.specs.Between.{behind}
use Rattle.pg_pages.proofs.column.print_note_area.Goals as goal

pub returns-in_err-start-clause-grows : goal.returns-in_err-start-clause-grows
returns-in_err-start-clause-grows c = c.open_area.ensures.grows

pub returns-in_err-print_set_notes-clause-grows : goal.returns-in_err-print_set_notes-clause-grows
returns-in_err-print_set_notes-clause-grows c = grows_on c.args.out.now.items c.open_area.new.out.items
    c.print_set_notes.new.out.items c.in_ok-start.ensures.grows c.print_set_notes.ensures.grows

pub returns-clause-ok : goal.returns-clause-ok
unfolding notes_area
returns-clause-ok c =
    let name = codes "notes" in
    let old = c.args.out.now.items in
    let opened = c.open_area.new.out in
    let text = notes_set c.args.style.now (behind c.args.items.now) c.args.widths.now in
    let long : vec_len opened ≡ length opened.items = opened.ok.0 in
    c.close_area.ensures.text old name text
    (two_parts old opened.items c.print_set_notes.new.out.items (line (codes "area " ++ name)) text
    c.in_ok-start.ensures.ok c.in_ok-print_set_notes.ensures.ok)
    c.in_ok-start.ensures.start (c.len-filled.ensures ∙ long ∙ ap length c.in_ok-start.ensures.ok)

pub returns-clause-grows : goal.returns-clause-grows
returns-clause-grows c =
    let start = c.in_ok-start.ensures.start in
    c.close_area.ensures.grows c.args.out.now.items (omega (arith, start)) (grows_on c.args.out.now.items
    c.open_area.new.out.items c.print_set_notes.new.out.items c.in_ok-start.ensures.grows c.in_ok-print_set_notes.ensures.grows)
