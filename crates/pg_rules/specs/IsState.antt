-- The test of a state: what the state of each beginning of a pagination keeps.
use Rattle.std.specs.Prelude.{◌≡◌, ℕ, ◌≤◌, ◌<◌, ◌^◌, ◌⊎◌, Bool, true, false, ◌==◌, ◌&&◌, ◌||◌, not, nat_le, nat_lt, int_le, int_lt, if◌then◌else◌, List, [], ◌∷◌, length, Option, Some, None, ℤ, pos, is_some, slice_get}
use Rattle.std.specs.List.{list_all}
use Rattle.std.specs.Option.{option_map_or}
use Rattle.pg_list.specs.declared.galley.Place.{Place}
use Rattle.pg_list.specs.declared.blocks.Block.{Block}
use Rattle.pg_list.specs.Places.{items_around}
use Rattle.pg_plan.specs.declared.states.Side.{Side}
use Rattle.pg_plan.specs.declared.states.Side.TheVariants.{L, R, S}
use Rattle.pg_plan.specs.declared.states.State.{State}
use Rattle.pg_style.specs.Ranges.{max_columns}
use Rattle.pg_style.specs.declared.style.First.{First}
use Rattle.pg_style.specs.declared.style.First.TheVariants.{Left, Right, Single}
use Rattle.pg_list.specs.Flat.{is_same_place, end_of}
use Rattle.pg_rules.specs.Floats.{entry, called, float_numbers, slots}
use Rattle.pg_rules.specs.Follow.{waiting_in}
use Rattle.pg_rules.specs.Floats.{distance_table}
use Rattle.pg_rules.specs.NoWorse.{is_same_side}
use Rattle.pg_rules.specs.Room.{Document}

-- a place of the galley: an item stands there, or it is the end; the front of a choice has variant 0
pub record IsPlace (blocks : List Block) (at : Place) : Type 0 where
  pub within : (is_same_place at (end_of blocks) ≡ true) ⊎ (at.index < length (items_around blocks at))
  pub front : at.index ≡ 0 → at.variant ≡ 0

-- the sides that pages have, where the first page has this one
abbrev pub has_side : First → Side → Bool
has_side Single S = true
has_side Left L = true
has_side Left R = true
has_side Right L = true
has_side Right R = true
has_side _ _ = false

-- the number is absent
abbrev pub not_some : Option ℕ → Bool
not_some None = true
not_some (Some n) = false

-- the number is not 1
abbrev pub not_first : ℕ → Bool
not_first n = not (n == 1)

-- each age is below the length of its float's table
abbrev pub are_young : Document → List ℕ → List (ℕ × ℕ) → Bool
are_young doc [] [] = true
are_young doc (age ∷ ages) (float ∷ floats) = nat_lt age (length (distance_table doc.style float.0)) && are_young doc ages floats
are_young doc _ _ = false

-- what the state of each beginning keeps, field by field
pub record IsState (doc : Document) (u : State) : Type 0 where
  pub place : IsPlace doc.blocks u.place
  pub column : (1 ≤ u.column) × ((u.column ≤ doc.style.columns) × (u.column ≤ max_columns))
  pub side : has_side doc.style.first u.side ≡ true
  -- the run exists where one is due; one is due in a second column, and may be in the first of a right page
  pub run : option_map_or (λ (run : ℕ). is_some (slice_get doc.style.runs run)) u.run true ≡ true
  pub run_free : (if u.column == 1 then (is_same_side u.side R || not_some u.run) else is_some u.run) ≡ true
  -- a page that has begun may have a wide area
  pub wide : option_map_or (λ (z : ℤ). not_first u.column
      && (int_le (pos 0) z && int_lt z (pos (2 ^ 33)))) u.wide true ≡ true
  pub fitness : option_map_or (λ (f : ℕ). not_first doc.style.version && nat_le f 3) u.fitness true ≡ true
  pub placed : length u.placed ≡ length (float_numbers doc.style)
  pub called : list_all (λ (slot : ℕ). nat_le (entry u.placed slot)
      (entry (called doc.blocks doc.style u.place) slot)) (slots doc.style) ≡ true
  pub waiting : length u.ages ≡ length (waiting_in doc u)
  pub young : are_young doc u.ages (waiting_in doc u) ≡ true
