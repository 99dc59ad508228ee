-- A layout with what it makes of its page.
use Rattle.std.specs.Prelude.{◌≡◌, ℕ, ◌≤◌, ◌<◌, true, List, length, Option, ℤ}
use Rattle.pg_plan.specs.declared.states.State.{State}
use Rattle.pg_rules.specs.Floats.{dealt, entry, float_numbers, floats, has_all, plus_counts, total_count}
use Rattle.pg_rules.specs.Room.{Document}
use Rattle.pg_column.specs.Numbers.{IsRoom}
use Rattle.pg_layouts.specs.Fit.{Fit}
use Rattle.pg_layouts.specs.Layouts.{zeros}
use Rattle.pg_layouts.specs.declared.layout.Layout.{Layout}
use Rattle.law_moves.specs.Listed.{placed_with}
use Rattle.law_moves.specs.Steps.{float_counts, text_room, wide_of}
use Rattle.pg_rooms.specs.declared.laid.Laid.{Laid}

-- the galley has so many floats of each class
abbrev pub HasSoMany : Document → List ℕ → Type 0
HasSoMany doc counts = (slot : ℕ) → slot < length (float_numbers doc.style) →
    entry counts slot ≤ entry (float_counts doc) slot

-- an area deals out floats that are there, and four at most
pub record IsThere (doc : Document) (before counts : List ℕ) : Type 0 where
  pub there : has_all (floats doc.blocks doc.style) before counts ≡ true
  pub few : length (dealt (floats doc.blocks doc.style) before counts) ≤ 4
  pub fits : Fit before counts
  pub long : length counts ≡ length (float_numbers doc.style)

-- each area of a layout behind a state does
pub record IsLaid (doc : Document) (u : State) (layout : Layout) : Type 0 where
  pub wide : IsThere doc u.placed layout.wide
  pub top : IsThere doc (plus_counts doc.style u.placed layout.wide) layout.top
  pub bottom : IsThere doc (plus_counts doc.style (plus_counts doc.style u.placed layout.wide) layout.top) layout.bottom

-- the height of a layout's wide area, and the counts that are placed with it and before its bottom area
pub record IsLaidBy (doc : Document) (u : State) (layout : Layout) (wide : Option ℤ) (before below : List ℕ) :
    Type 0 where
  pub wide_is : wide ≡ wide_of doc u layout.wide
  pub before_is : before ≡ plus_counts doc.style u.placed layout.wide
  pub below_is : below ≡ plus_counts doc.style before layout.top

-- the height of its page's wide area, the floats that are placed behind it, how many these are, and what it leaves to a
-- text
abbrev pub laid_of : Document → State → Layout → Laid
laid_of doc u layout = record {
  layout = layout;
  wide = wide_of doc u layout.wide;
  after = placed_with doc.style u.placed layout;
  placed = total_count (placed_with doc.style u.placed layout);
  room = text_room doc u layout;
}

-- such a layout of a column without text: a count of each class at the top, and none at the bottom
pub record IsFloatLaid (doc : Document) (u : State) (it : Laid) : Type 0 where
  pub is : it ≡ laid_of doc u it.layout
  pub small : IsRoom it.room
  pub long : length it.layout.top ≡ length (float_numbers doc.style)
  pub bottom : it.layout.bottom ≡ zeros doc.style
