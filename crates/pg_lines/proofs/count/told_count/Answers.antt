use Rattle.std.proofs.Common.{◌≡◌, ◌∙◌, ◌^◌, ◌<◌, sym, ap, subst, arith, length, List, ℕ, Some}
use Rattle.std.specs.Prelude.{slice_get}
use Rattle.std.proofs.lemmas.Option.{slice_get_within}
use Rattle.pg_table.specs.Label.{Grounded, IsBestOf, RunOf}
use Rattle.pg_table.specs.declared.table.Entry.{Entry}
use Rattle.law_lines.proofs.BestCount.{tells_best_count}
use Rattle.pg_lines.proofs.Counted.{best_told, way_short}
use Rattle.pg_lines.proofs.count.told_count.Goals as goal

pub best-requires : goal.best-requires
best-requires c = record { grounded = c.requires.table.grounded; labels = c.requires.table.labels }

pub returns-in-None : goal.returns-in-None
returns-in-None c =
    (tells_best_count c.args.space.now.rule.now c.args.space.now.items.now c.requires.para c.args.table.now
    c.requires.table).none c.in-None.ensures.none

pub moves_back-requires-clause-within : goal.moves_back-requires-clause-within
moves_back-requires-clause-within c =
    let b = c.in-Some.ensures.some in
    let w = slice_get_within c.args.table.now c.in-Some.index b.entry b.is in
    subst (λ (es : List (Entry ℕ ℕ)). c.in-Some.index < length es) (sym c.labels.ensures) w

pub moves_back-requires-clause-grounded : goal.moves_back-requires-clause-grounded
moves_back-requires-clause-grounded c =
    subst (λ (es : List (Entry ℕ ℕ)). Grounded es) (sym c.labels.ensures) c.requires.table.grounded

pub overflow_cast-result : goal.overflow_cast-result
overflow_cast-result c =
    let b = c.in-Some.ensures.some in
    let way = c.in_ok-way-in-Some.way.items in
    let run = subst (λ (es : List (Entry ℕ ℕ)). RunOf es b.entry way) c.labels.ensures (c.in_ok-way-in-Some.ensures b.entry
    (subst (λ (es : List (Entry ℕ ℕ)). slice_get es c.in-Some.index ≡ Some b.entry) (sym c.labels.ensures) b.is)) in
    let best = best_told c.args.space.now.rule.now c.args.space.now.items.now c.requires.para c.args.table.now
    c.requires.table c.in-Some.index b way run in
    let short = way_short c.args.space.now.rule.now c.args.space.now.items.now way best.legal in
    let few = c.requires.para.few in
    omega (arith, short, few, ap length c.as_slice.ensures.value)

pub returns-in_ok-way-in-Some : goal.returns-in_ok-way-in-Some
returns-in_ok-way-in-Some c =
    let b = c.in-Some.ensures.some in
    let way = c.in_ok-way-in-Some.way.items in
    let run = subst (λ (es : List (Entry ℕ ℕ)). RunOf es b.entry way) c.labels.ensures (c.in_ok-way-in-Some.ensures b.entry
    (subst (λ (es : List (Entry ℕ ℕ)). slice_get es c.in-Some.index ≡ Some b.entry) (sym c.labels.ensures) b.is)) in
    let best = best_told c.args.space.now.rule.now c.args.space.now.items.now c.requires.para c.args.table.now
    c.requires.table c.in-Some.index b way run in
    (way, (best, sym (ap length c.as_slice.ensures.value)))
