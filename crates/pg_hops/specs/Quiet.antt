-- Whether the notes along a stretch take room.
use Rattle.std.specs.Prelude.{Bool, if◌then◌else◌, List, [], ◌∷◌, ℤ, pos}
use Rattle.std.specs.Option.{option_map_or}
use Rattle.std.specs.Ordering.{int_eq}
use Rattle.pg_list.specs.Flat.{FlatItem}
use Rattle.pg_rules.specs.Room.{Document}
use Rattle.pg_style.specs.Values.{StyleValue}
use Rattle.pg_notes.specs.NotesValue.{heights}
use Rattle.pg_column.specs.Passed.{Passed, fits, pass_item}

-- the notes passed take no room
abbrev pub is_quiet : StyleValue → Passed → Bool
is_quiet style p = int_eq (pos (heights style.classes p.notes)) (pos 0)

-- what is passed of these items, up to a break that is forced or that no room up to the greatest one lets pass
abbrev pub passed_along : Document → ℤ → Passed → List FlatItem → Passed
passed_along doc top p [] = p
passed_along doc top p (x ∷ xs) =
    option_map_or (λ (q : Passed). if fits q.bound top then passed_along doc top q xs else q) (pass_item doc p x) p
