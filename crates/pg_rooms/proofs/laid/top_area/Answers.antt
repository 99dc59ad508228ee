use Rattle.std.proofs.Common.{rules, ◌≡◌, ◌∙◌, ap, w64, true}
use Rattle.std.proofs.lemmas.Int.{to_z-of_z}
use Rattle.pg_style.specs.Values.{AreaRuleValue, StyleValue}
use Rattle.pg_rules.specs.Floats.{floats}
use Rattle.pg_rules.specs.Room.{checked_height}
use Rattle.pg_sources.specs.Document.{doc_of}
use Rattle.pg_rooms.proofs.LaidLemmas.{height_is, height_small}
use Rattle.pg_rooms.proofs.Undealt.{area_none, none_in}
use Rattle.pg_rooms.proofs.laid.top_area.Goals as goal

pub has_floats-requires : goal.has_floats-requires
has_floats-requires c = c.requires.long

pub returns-then-not-has_floats-clause-value : goal.returns-then-not-has_floats-clause-value
returns-then-not-has_floats-clause-value c =
    area_none (doc_of c.args.sources.now) c.args.sources.now.style.now.top c.args.before.now c.args.counts.now
    (none_in c.args.counts.now c.has_floats.result c.has_floats.ensures c.if-not-has_floats.true)

pub returns-clause-value : goal.returns-clause-value
returns-clause-value c =
    let rule : c.style.inside.top ≡ c.args.sources.now.style.now.top =
    ap (λ (style : StyleValue). style.top) c.style.view_is in
    to_z-of_z w64 c.checked_area.result (record { sfits = search rules })
    ∙ height_is (doc_of c.args.sources.now) c.args.sources.now.style.now.top c.args.before.now c.args.counts.now
    c.checked_area.result c.requires
    (c.checked_area.ensures c.args.sources.now.galley.now.blocks c.args.sources.now.style.now c.args.sources.now.list.floats
    ∙ ap (λ (it : AreaRuleValue). checked_height (floats c.args.sources.now.galley.now.blocks c.args.sources.now.style.now)
    true it c.args.before.now c.args.counts.now) rule)

pub returns-clause-size : goal.returns-clause-size
returns-clause-size c =
    let rule : c.style.inside.top ≡ c.args.sources.now.style.now.top =
    ap (λ (style : StyleValue). style.top) c.style.view_is in
    height_small (doc_of c.args.sources.now) c.args.sources.now.style.now.top c.args.before.now c.args.counts.now _
    c.args.sources.now.in_range.blocks c.args.sources.now.in_range.style_in.top_in c.requires
    (to_z-of_z w64 c.checked_area.result (record { sfits = search rules })
    ∙ height_is (doc_of c.args.sources.now) c.args.sources.now.style.now.top c.args.before.now c.args.counts.now
    c.checked_area.result c.requires
    (c.checked_area.ensures c.args.sources.now.galley.now.blocks c.args.sources.now.style.now c.args.sources.now.list.floats
    ∙ ap (λ (it : AreaRuleValue). checked_height (floats c.args.sources.now.galley.now.blocks c.args.sources.now.style.now)
    true it c.args.before.now c.args.counts.now) rule))
