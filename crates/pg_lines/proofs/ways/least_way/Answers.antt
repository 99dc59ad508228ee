use Rattle.std.proofs.Common.{◌≡◌, ◌∙◌, sym, subst, length, rules, List, ℕ}
use Rattle.std.specs.Int.{w128}
use Rattle.std.proofs.lemmas.Int.{to_z-of_z}
use Rattle.pg_table.specs.Label.{IsTable}
use Rattle.pg_table.specs.declared.table.Entry.{Entry}
use Rattle.law_lines.specs.declared.state.LineState.{LineState}
use Rattle.law_lines.specs.LineSpace.{line_meaning}
use Rattle.pg_lines.specs.Moves.{low_by}
use Rattle.pg_lines.proofs.Counted.{no_way_told, way_told}
use Rattle.pg_lines.proofs.ways.least_way.Goals as goal

pub returns-in-None : goal.returns-in-None
returns-in-None c =
    let space = c.args.space.now in
    let low = low_by (length space.items.now) space.low.now in
    let table = subst (λ (es : List (Entry LineState ℕ)). IsTable (line_meaning space.rule.now space.items.now low space.most) es)
    (sym c.labels-labels.ensures) c.requires.table in
    no_way_told space.rule.now space.items.now low space.most c.requires.para c.requires.low c.labels-labels.result.now
    table c.args.lines c.requires.most c.in-None.ensures.none

pub returns-in_ok-ends-in-Some : goal.returns-in_ok-ends-in-Some
returns-in_ok-ends-in-Some c =
    let space = c.args.space.now in
    let low = low_by (length space.items.now) space.low.now in
    let table = subst (λ (es : List (Entry LineState ℕ)). IsTable (line_meaning space.rule.now space.items.now low space.most) es)
    (sym c.labels-labels.ensures) c.requires.table in
    let label = c.in-Some.ensures.some in
    let told = way_told space.rule.now space.items.now low space.most c.requires.para c.requires.low
    c.labels-labels.result.now table c.args.lines c.in-Some.index c.requires.some label
    c.in_ok-ends-in-Some.ends.items (c.in_ok-ends-in-Some.ensures label.entry label.is) in (
      told.0,
      to_z-of_z w128 c.cost_at-demerits.result (record { sfits = search rules })
          ∙ c.cost_at-demerits.ensures label.entry label.is ∙ told.1,
    )
