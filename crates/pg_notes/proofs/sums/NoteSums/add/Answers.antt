use Rattle.std.proofs.Common.{sym, ap, refl, subst, List, ◌++◌, ◌∷◌, [], ◌+◌}
use Rattle.pg_style.specs.declared.style.Class.{Class}
use Rattle.pg_notes.specs.NotesValue.{NotesValue}
use Rattle.pg_style.specs.Ranges.{AreInOrder}
use Rattle.pg_notes.specs.AreNotes.{AreNoteSums}
use Rattle.pg_notes.proofs.Kept.{notes_push}
use Rattle.pg_notes.proofs.sums.NoteSums.add.Goals as goal

pub returns-clause-notes : goal.returns-clause-notes
returns-clause-notes c = λ items are.
    let Q : List Class → Type 0 = λ classes. AreInOrder classes in
    let order = subst Q (sym c.classes_of.ensures.classes) c.classes_of.ensures.range.in_order in
    let P : List Class → Type 0 = λ classes. AreNoteSums items classes c.self.inside.sums →
    AreNoteSums (items ++ c.args.item.now ∷ []) classes c.add_item.new.sums in
    notes_push c.args.style.now items c.args.item.now c.self.inside.sums c.add_item.new.sums c.args.self.now
    (record { sums = c.add_item.new.sums; count = c.self.inside.count + 1 })
    (sym (ap (λ (v : NotesValue). v.sums) c.self.view_is)) refl
    (ap (λ (v : NotesValue). v.count + 1) c.self.view_is)
    (subst P c.classes_of.ensures.classes (c.add_item.ensures.sums items order)) are
