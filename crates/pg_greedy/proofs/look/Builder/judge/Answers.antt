use Rattle.std.proofs.Common.{◌≡◌, ◌∙◌, sym, ap, rules, Some, true, take, w64}
use Rattle.std.proofs.lemmas.Int.{to_z-of_z}
use Rattle.std.specs.List.{list_any}
use Rattle.pg_list.specs.Shapes.{is_box}
use Rattle.pg_rules.specs.Floats.{gap_shrink, gap_stretch}
use Rattle.pg_greedy.specs.Looking.{items_from, style_of}
use Rattle.pg_greedy.proofs.Places.{goal_here, some_read, spent_here}
use Rattle.pg_greedy.proofs.Seen.{judged_seen, judged_unseen}
use Rattle.pg_greedy.proofs.look.Builder.judge.Goals as goal

pub returns-in_err-penalty : goal.returns-in_err-penalty
returns-in_err-penalty c =
    let style = style_of c.args.self.now in
    let items = items_from c.args.self.now c.args.from in
    let box : list_any is_box (take c.args.read.now.count items) ≡ true =
    sym (c.has_box.ensures.sums style.topskip style.maxdepth (take c.args.read.now.count items) c.requires.read.sums)
    ∙ c.if-not-has_box.false in
    c.from_residual.ensures
    ∙ judged_unseen style items c.args.read.now.count
    (c.in_err-penalty.ensures.value (some_read items c.args.read.now.count box))

pub returns : goal.returns
returns c =
    let style = style_of c.args.self.now in
    let items = items_from c.args.self.now c.args.from in
    let count = c.args.read.now.count in
    let box : list_any is_box (take count items) ≡ true =
    sym (c.has_box.ensures.sums style.topskip style.maxdepth (take count items) c.requires.read.sums)
    ∙ c.if-not-has_box.false in
    judged_seen style items count _ _ c.is_spent-is_spent.result c.give-give.result c.judge_break.result
    (ap Some (to_z-of_z w64 c.in_ok-penalty.penalty (record { sfits = search rules }))
    ∙ c.in_ok-penalty.ensures.value (some_read items count box))
    box
    (to_z-of_z w64 c.minus-goal.result (record { sfits = search rules })
    ∙ goal_here c.args.self.now c.requires.builder c.args.from count c.minus-goal.result _ _
    (to_z-of_z w64 c.args.self.now.room (record { sfits = search rules }))
    (to_z-of_z w64 c.height.result (record { sfits = search rules })
    ∙ c.height.ensures.sums (take count items) c.requires.read.notes)
    (c.front_has_no_notes.ensures.notes style (take count items))
    c.minus-goal.ensures.value)
    (spent_here c.args.self.now c.requires.builder c.args.from count c.requires.within c.place_at.result
    c.place_at.ensures c.is_spent-is_spent.result c.is_spent-is_spent.ensures.column)
    (c.give-give.ensures.stretch (take count items) c.requires.read.notes
    ∙ sym (c.front_has_no_notes.ensures.skips gap_stretch style (take count items)))
    (c.give-give.ensures.shrink (take count items) c.requires.read.notes
    ∙ sym (c.front_has_no_notes.ensures.skips gap_shrink style (take count items)))
    (c.judge_break.ensures.cost style.topskip style.maxdepth (take count items) c.requires.read.sums)
    (c.judge_break.ensures.stops style.topskip style.maxdepth (take count items) c.requires.read.sums)
