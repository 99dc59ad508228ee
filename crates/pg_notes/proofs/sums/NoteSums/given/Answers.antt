use Rattle.std.proofs.Common.{◌∙◌, ◌≤◌, sym, ap, subst, List, length}
use Rattle.pg_style.specs.declared.style.Class.{Class}
use Rattle.pg_notes.specs.NotesValue.{NotesValue, skips}
use Rattle.pg_notes.proofs.sums.NoteSums.given.Goals as goal

pub gives-requires : goal.gives-requires
gives-requires c =
    subst (λ (list : List Class). length list ≤ 8) (sym c.classes_of.ensures.classes) c.classes_of.ensures.range.few

pub returns-clause-value : goal.returns-clause-value
returns-clause-value c =
    c.gives.ensures.value ∙ (ap (λ (list : List Class). skips list c.self.inside.sums) c.classes_of.ensures.classes
    ∙ ap (λ (v : NotesValue). skips c.args.style.now.classes v.sums) c.self.view_is)
