-- The laws of places, each in the words of its contract.
use Rattle.std.specs.Prelude.{◌≡◌, ◌⊎◌, ℕ, ◌+◌, ◌≤◌, ◌<◌, List, [], length, Some}
use Rattle.pg_list.specs.declared.blocks.Block.{Block}
use Rattle.pg_list.specs.declared.galley.Place.{Place}
use Rattle.pg_list.specs.Flat.{blocks_at, flat, flat_items_at, fronts, items_before, picked_variants, steps_to}
use Rattle.pg_rules.specs.Floats.{sizes_of}
use Rattle.pg_rules.specs.IsState.{IsPlace}
use Rattle.law_places.specs.Past.{IsPast, far}

-- picks that lead from a place to another, n items on, past as many fronts of choices as there are picks,
-- each of which names a variant
pub record Lead (blocks : List Block) (from to : Place) (picks : List ℕ) (n : ℕ) : Type 0 where
  pub place : IsPlace blocks from
  pub steps : steps_to blocks (flat_items_at blocks from picks) to ≡ Some n
  pub fronts_are : fronts (flat_items_at blocks from picks) n ≡ length picks
  pub named : length (picked_variants (blocks_at blocks from) picks) ≡ length picks

-- they lead to the same place, or to one behind it, and n more items lie before it
pub record LeadOn (blocks : List Block) (from to : Place) (n : ℕ) : Type 0 where
  pub behind : (to ≡ from) ⊎ IsPast blocks from to
  pub farther : far blocks from + n ≤ far blocks to

abbrev pub LeadsGoOn : List Block → Type 0
LeadsGoOn blocks = (from to : Place) (picks : List ℕ) (n : ℕ) → Lead blocks from to picks n →
    LeadOn blocks from to n

-- more items lie before a place behind, and no fewer callouts of a class
pub record BehindHasMore (blocks : List Block) (from to : Place) : Type 0 where
  pub items : far blocks from < far blocks to
  pub callouts : (number : ℕ) → length (sizes_of number (items_before blocks from))
      ≤ length (sizes_of number (items_before blocks to))

abbrev pub PlacesBehindHaveMore : List Block → Type 0
PlacesBehindHaveMore blocks = (from to : Place) → IsPlace blocks from → IsPast blocks from to →
    BehindHasMore blocks from to

-- before no place are there more than in all
abbrev pub CalloutsAreAmongAll : List Block → Type 0
CalloutsAreAmongAll blocks = (at : Place) (number : ℕ) →
    length (sizes_of number (items_before blocks at)) ≤ length (sizes_of number (flat blocks []))
