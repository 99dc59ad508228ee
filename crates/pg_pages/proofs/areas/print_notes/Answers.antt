use Rattle.std.proofs.Common.{◌≡◌, ◌∙◌, ◌++◌, ◌-◌, ◌∷◌, ap, List, ℕ, take, drop, length, append_assoc}
use Rattle.pg_style.specs.declared.style.Class.{Class}
use Rattle.pg_pages.specs.Printed.{class_notes_text, notes_by}
use Rattle.pg_pages.proofs.Printed.{split_first}
use Rattle.pg_pages.proofs.Grown.{grows_on}
use Rattle.pg_column.specs.Between.{behind}
use Rattle.pg_pages.proofs.areas.print_notes.Goals as goal

pub each-preserved : goal.each-preserved
each-preserved c =
    let rest = c.each.rest.now in
    let items = behind c.args.items.now in
    let class = c.class-item.result in
    let after = take (length rest - 1) (drop 1 rest) in
    let opened : class ∷ after ≡ rest = split_first rest class _ c.in-len1-up.len_at_least c.class-item.is in
    record {
      text = ap (λ (front : List ℕ). front ++ notes_by after items) c.in_ok-print_class_notes.ensures.ok
          ∙ append_assoc c.each.out.items (class_notes_text class items) (notes_by after items)
          ∙ ap (λ (classes : List Class). c.each.out.items ++ notes_by classes items) opened
          ∙ c.each.invariant.text;
      grows = grows_on c.args.out.now.items c.each.out.items c.print_class_notes.new.out.items c.each.invariant.grows
          c.in_ok-print_class_notes.ensures.grows;
    }

pub returns-clause-grows : goal.returns-clause-grows
returns-clause-grows c = c.each.invariant.grows

pub returns-in_err-print_class_notes-clause-grows : goal.returns-in_err-print_class_notes-clause-grows
returns-in_err-print_class_notes-clause-grows c = grows_on c.args.out.now.items c.each.out.items
    c.print_class_notes.new.out.items c.each.invariant.grows c.print_class_notes.ensures.grows
