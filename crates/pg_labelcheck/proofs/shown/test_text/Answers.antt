use Rattle.std.proofs.Common.{◌≡◌, ◌∙◌, sym, ap, subst, ℕ, List, [], Some}
use Rattle.std.specs.Int.{w128}
use Rattle.std.proofs.lemmas.Int.{to_z-of_z}
use Rattle.pg_scan.specs.Parts.{parts_of}
use Rattle.pg_pages.specs.PageText.{page_text}
use Rattle.law_check.specs.Faults.{first_difference}
use Rattle.pg_labelcheck.proofs.Differing.{text_same}
use Rattle.pg_labelcheck.proofs.Shows.{printed_is}
use Rattle.pg_labelcheck.proofs.shown.test_text.Goals as goal

pub print_pages-requires-clause-legal : goal.print_pages-requires-clause-legal
print_pages-requires-clause-legal c = record { unbroken = (c.requires.before []).before.rules }

pub returns-in-None : goal.returns-in-None
returns-in-None c = λ labels. record {
  before = c.requires.before labels;
  text = text_same c.args.text.now c.as_slice.result.now (sym c.first_other_line.ensures ∙ c.in-None.is)
      ∙ printed_is _ _ _ _ c.new-printed.ensures.items c.in-Ok.ensures.ok c.as_slice.ensures.value
      ∙ ap (page_text c.args.basis.now.galley.now c.args.basis.now.style.now c.args.plan.now)
      (to_z-of_z w128 c.args.cost (record { sfits = c.ranges.cost.sfits }));
}

pub returns-in-Ok : goal.returns-in-Ok
returns-in-Ok c = λ labels. (
  c.requires.before labels,
  subst (λ (text : List ℕ). first_difference 1 (parts_of 10 c.args.text.now) (parts_of 10 text) ≡ Some c.in-Some.line)
      (printed_is _ _ _ _ c.new-printed.ensures.items c.in-Ok.ensures.ok c.as_slice.ensures.value
      ∙ ap (page_text c.args.basis.now.galley.now c.args.basis.now.style.now c.args.plan.now)
      (to_z-of_z w128 c.args.cost (record { sfits = c.ranges.cost.sfits })))
      (sym c.first_other_line.ensures ∙ c.in-Some.is),
)
