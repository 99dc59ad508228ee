use Rattle.std.proofs.Common.{rules, sym, subst, ap, ◌∙◌, ◌≡◌, ℕ, List, Some, w64}
use Rattle.std.proofs.lemmas.Int.{to_z-of_z}
use Rattle.pg_rules.specs.Floats.{is_area_allowed, takes_wide}
use Rattle.pg_floats.specs.Counts.{count_in}
use Rattle.pg_floats.specs.Given.{IsAreaHeight}
use Rattle.pg_judge.proofs.Seating.{is_made_wide, wide_size}
use Rattle.pg_judge.proofs.added.wide_height.Goals as goal

pub returns-clause-value : goal.returns-clause-value
returns-clause-value c = λ all e.
    let count : c.count_floats.result ≡ count_in c.args.slots c.args.wide.now = search rules in
    let allowed = c.is_wide_allowed-is_wide.ensures ∙ ap (λ (xs : List ℕ). is_area_allowed c.args.style.now takes_wide c.args.style.now.wide.count xs)
    c.as_slice-2.ensures in
    ap Some (to_z-of_z w64 c.wide_area.result (record { sfits = search rules }))
    ∙ is_made_wide c.args.galley.now c.args.style.now c.args.list.now c.requires.list c.args.slots
    c.count_floats.result c.args.wide.now c.requires.slots count c.if-count_floats-eq0.false all c.args.placed.now e
    c.is_wide_allowed-is_wide.result allowed c.wide_area.result (c.wide_area.ensures c.args.galley.now.blocks
    c.requires.list.floats)

pub returns-clause-size : goal.returns-clause-size
returns-clause-size c =
    let allowed = c.is_wide_allowed-is_wide.ensures ∙ ap (λ (xs : List ℕ). is_area_allowed c.args.style.now takes_wide c.args.style.now.wide.count xs)
    c.as_slice-2.ensures in
    subst IsAreaHeight (sym (to_z-of_z w64 c.wide_area.result (record { sfits = search rules })))
    (wide_size c.args.galley.now c.args.style.now c.args.list.now c.requires.list c.stays_in_range.ensures
    c.is_wide_allowed-is_wide.result c.args.placed.now c.args.wide.now c.wide_area.result allowed
    (c.wide_area.ensures c.args.galley.now.blocks c.requires.list.floats))
