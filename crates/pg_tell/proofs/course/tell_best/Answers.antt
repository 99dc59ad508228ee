use Rattle.std.proofs.Common.{◌≡◌, length, subst, sym, List, ℕ, ℤ}
use Rattle.pg_parts.specs.Parts.{part_sum}
use Rattle.pg_parts.specs.Priced.{amounts}
use Rattle.pg_parts.specs.declared.part.Part.{Part}
use Rattle.pg_plan.specs.Order.{columns}
use Rattle.pg_rules.specs.Cost.{cost}
use Rattle.pg_rules.specs.Legal.{document}
use Rattle.pg_tell.specs.Lines.{Begins, pages_front}
use Rattle.pg_tell.proofs.Fronts.{front_is}
use Rattle.pg_tell.proofs.course.tell_best.Goals as goal

pub returns-in-Ok : goal.returns-in-Ok
returns-in-Ok g c =
    let galley = c.args.galley.now in
    let style = c.args.style.now in
    let pages = c.args.pages.now in
    let sums : Part → ℤ = part_sum (document galley style) (columns pages.plan) in
    let front = front_is c.args.form (amounts pages.pricing.columns.items) sums
    (λ part. c.columns_add_up.ensures (document galley style) (columns pages.plan) pages.pricing.columns.items part
    c.requires.priced) (length pages.plan.pages) pages.cost (cost galley style pages.plan) (sym c.requires.cost) in
    c.write_text.ensures (pages_front c.args.form (length pages.plan.pages) (cost galley style pages.plan) sums)
    (subst (Begins (pages_front c.args.form (length pages.plan.pages) (cost galley style pages.plan) sums))
    (sym c.deref.ensures.value)
    (subst (λ (text : List ℕ). Begins text c.in-Ok.text.items) front c.in-Ok.ensures))
