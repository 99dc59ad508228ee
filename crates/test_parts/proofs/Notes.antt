-- What notes take of a column, and the class that is above its limit, worked by hand. The note of 9 points leaves 45 of
-- a column of 58.
use Rattle.std.proofs.Common.{refl, ℕ, ℤ, pos, List, [], ◌∷◌, Option, Some, None}
use Rattle.pg_list.specs.declared.item.Item.{Item}
use Rattle.pg_notes.specs.AreNotes.{first_over}
use Rattle.pg_rules.specs.Room.{notes}
use Rattle.test_parts.proofs.Cases.{AreTold, gap, insert, line, note_style, points}

abbrev noted : List Item → ℤ × Option ℕ
noted list = (notes note_style list, first_over note_style list)

-- the height of the notes, and the class
notes_take : AreTold (
    (noted (line ∷ gap ∷ line ∷ []), (points 0, None))
    ∷ (noted (line ∷ gap ∷ line ∷ insert 200 (points 9) ∷ []), (points 13, None))
    ∷ (noted (line ∷ insert 200 (points 9) ∷ gap ∷ line ∷ insert 200 (points 1) ∷ []), (points 14, None))
    ∷ (noted (line ∷ insert 200 (points 0) ∷ []), (points 4, None))
    ∷ (noted (line ∷ insert 200 (points 100) ∷ []), (points 104, None))
    ∷ (noted (line ∷ insert 200 (points 60) ∷ gap ∷ line ∷ insert 200 (points 40) ∷ []), (points 104, None))
    ∷ (noted (line ∷ insert 200 (points 60) ∷ gap ∷ line ∷ insert 200 (pos 2621441) ∷ []), (pos 6815745, Some 200))
    ∷ (noted (line ∷ insert 201 (points 5) ∷ gap ∷ line ∷ insert 200 (points 9) ∷ []), (points 20, None))
    ∷ (noted (line ∷ insert 201 (points 6) ∷ gap ∷ line ∷ insert 200 (points 9) ∷ []), (points 21, Some 201))
    ∷ (noted (line ∷ insert 201 (points 6) ∷ gap ∷ line ∷ insert 200 (points 101) ∷ []), (points 113, Some 200))
    ∷ (noted (line ∷ insert 100 (points 50) ∷ gap ∷ line ∷ insert 200 (points 9) ∷ []), (points 13, None))
    ∷ [])
notes_take = refl
