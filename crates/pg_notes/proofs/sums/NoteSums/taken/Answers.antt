use Rattle.std.proofs.Common.{◌∙◌, ◌+◌, ◌*◌, ◌^◌, ◌<◌, ◌≤◌, sym, ap, subst, arith, List, length, ℕ}
use Rattle.std.specs.List.{sum_by}
use Rattle.pg_style.specs.declared.style.Class.{Class}
use Rattle.pg_notes.specs.declared.sums.NoteSum.{NoteSum}
use Rattle.pg_notes.specs.NotesValue.{heights, NotesValue}
use Rattle.pg_notes.proofs.Kept.{heights_few}
use Rattle.pg_notes.proofs.sums.NoteSums.taken.Goals as goal

few : (n count s h : ℕ) → n ≤ 8 → count ≤ 2 ^ 20 → s ≤ 2 ^ 30 * count → h ≤ 2 ^ 30 * n + s → h < 2 ^ 51
few n count s h a b c d = omega (arith, a, b, c, d)

pub heights-requires : goal.heights-requires
heights-requires c =
    let classes : List Class = c.args.style.now.classes in
    let P : List Class → Type 0 = λ list. heights list c.self.inside.sums < 2 ^ 62 in
    let h = few (length classes) c.self.inside.count (sum_by (λ (sum : NoteSum). sum.size) c.self.inside.sums)
    (heights classes c.self.inside.sums)
    c.classes_of.ensures.range.few c.self.invariant.few c.self.invariant.bounded
    (heights_few classes c.self.inside.sums c.classes_of.ensures.range.each) in
    subst P (sym c.classes_of.ensures.classes) (omega (arith, h))

pub returns-clause-value : goal.returns-clause-value
returns-clause-value c =
    c.heights.ensures ∙ (ap (λ (list : List Class). heights list c.self.inside.sums) c.classes_of.ensures.classes
    ∙ ap (λ (v : NotesValue). heights c.args.style.now.classes v.sums) c.self.view_is)

pub returns-clause-size : goal.returns-clause-size
returns-clause-size c =
    let classes : List Class = c.args.style.now.classes in
    let h = few (length classes) c.self.inside.count (sum_by (λ (sum : NoteSum). sum.size) c.self.inside.sums)
    (heights classes c.self.inside.sums)
    c.classes_of.ensures.range.few c.self.invariant.few c.self.invariant.bounded
    (heights_few classes c.self.inside.sums c.classes_of.ensures.range.each) in
    let e = c.heights.ensures
    ∙ ap (λ (list : List Class). heights list c.self.inside.sums) c.classes_of.ensures.classes in
    omega (arith, h, e)
