-- Edits, and how many labels a show opens, worked on ten lines.
use Rattle.std.proofs.Common.{◌≡◌, refl, ℕ, List, [], ◌∷◌, map, Some, None}
use Rattle.std.specs.Prelude.{pos}
use Rattle.pg_list.specs.declared.blocks.Block.TheVariants.{One}
use Rattle.pg_list.specs.declared.galley.Edit.{Edit}
use Rattle.pg_plan.specs.declared.states.Label.{Label}
use Rattle.pg_plan.specs.declared.states.Side.TheVariants.{S}
use Rattle.pg_rules.proofs.Examples.{at, insert, line, plain, ten_lines}
use Rattle.law_space.specs.ReachAt.{reach_at}
use Rattle.pg_session.specs.Edits.{edit_fault}
use Rattle.pg_session.specs.Sessions.{above_all, labels_reaching}
use Rattle.pg_edits.specs.declared.script.ScriptStep.TheVariants.{Change, Show as Shows}
use Rattle.pg_session.specs.Shows.{shows}
use Rattle.pg_edits.specs.declared.fault.EditFault.TheVariants.{Range, Class}

-- ---- steps

abbrev places : List ℕ
places = 0 ∷ 1 ∷ 3 ∷ 5 ∷ 7 ∷ 9 ∷ 11 ∷ 13 ∷ 15 ∷ 17 ∷ 19 ∷ []

-- the labels of ten lines on pages of five
abbrev labels : List Label
labels = map (λ (n : ℕ). record {
  state = record {
    place = at n;
    column = 1;
    side = S;
    run = None;
    wide = None;
    fitness = None;
    placed = [];
    ages = [];
  };
  cost = pos 0;
}) places

-- behind an edit of the last line eight of the eleven labels are opened
last_line-opened : labels_reaching 18 ten_lines (plain 58) labels ≡ 8
unfolding reach_at
last_line-opened = refl

all-opened : labels_reaching 0 ten_lines (plain 58) labels ≡ 11
unfolding reach_at
all-opened = refl

none-opened : labels_reaching above_all ten_lines (plain 58) labels ≡ 0
unfolding reach_at
none-opened = refl

-- ---- edits

abbrev last_line : Edit
last_line = record { at = 18; gone = 1; fresh = One line ∷ [] }

abbrev too_far : Edit
too_far = record { at = 20; gone = 0; fresh = [] }

abbrev with_note : Edit
with_note = record { at = 19; gone = 0; fresh = One (insert 100 9) ∷ One (insert 200 9) ∷ [] }

last_line-fine : edit_fault ten_lines (plain 58) last_line ≡ None
last_line-fine = refl

too_far-refused : edit_fault ten_lines (plain 58) too_far ≡ Some (Range 20 0 19)
too_far-refused = refl

-- the style has no classes: the first insert's is named
with_note-refused : edit_fault ten_lines (plain 58) with_note ≡ Some (Class 100)
with_note-refused = refl

-- ---- shows

-- a show, an edit of the last line, and two shows
shows-touched : shows ten_lines (plain 58) (Shows ∷ Change last_line ∷ Shows ∷ Shows ∷ [])
    ≡ record { galley = ten_lines; touched = 0 } ∷ record { galley = ten_lines; touched = 18 }
    ∷ record { galley = ten_lines; touched = above_all } ∷ []
shows-touched = refl

-- an edit before the first show touches nothing that was solved, and one that is refused ends the shows
shows-refused : shows ten_lines (plain 58) (Change last_line ∷ Shows ∷ Change too_far ∷ Shows ∷ [])
    ≡ record { galley = ten_lines; touched = 0 } ∷ []
shows-refused = refl
