-- What contracts see of a list of floats.
use Rattle.std.specs.Prelude.{ℕ, ◌<◌, ◌≤◌, ◌^◌, List, length, Option, None, slice_get}
use Rattle.std.specs.Option.{option_map_or}
use Rattle.std.specs.List.{sum_by}
use Rattle.pg_list.specs.Counts.{item_limit}
use Rattle.pg_list.specs.declared.galley.Place.{Place}
use Rattle.pg_floats.specs.declared.callouts.Callout.{Callout}

-- the floats of a class, in order, and the places of their inserts in every variant
pub record ClassFloatsValue : Type 0 where
  pub number : ℕ
  pub callouts : List Callout
  pub places : List Place

-- there are no more places than a galley has items
abbrev pub AreFewPlaces : List Place → Type 0
AreFewPlaces places = length places ≤ item_limit

abbrev pub IsInRange : Callout → Type 0
IsInRange callout = callout.size < 2 ^ 30

-- how many floats there are
abbrev pub total_of : List ClassFloatsValue → ℕ
total_of list = sum_by (λ (floats : ClassFloatsValue). length floats.callouts) list

-- a float, by the position of its class and its number
abbrev pub callout_at : List ClassFloatsValue → ℕ → ℕ → Option Callout
callout_at list slot number =
    option_map_or (λ (floats : ClassFloatsValue). slice_get floats.callouts number) (slice_get list slot) None

-- a style has at most 8 classes, and there are at most 2^12 floats
pub record AreKept (list : List ClassFloatsValue) : Type 0 where
  pub few_classes : length list ≤ 8
  pub few : total_of list ≤ 2 ^ 12
