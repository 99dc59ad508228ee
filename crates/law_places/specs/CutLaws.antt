-- How a column cuts the flat list, in the words of the contract.
use Rattle.std.specs.Prelude.{◌≡◌, ℕ, List, ◌++◌, take}
use Rattle.pg_list.specs.declared.blocks.Block.{Block}
use Rattle.pg_list.specs.declared.galley.Place.{Place}
use Rattle.pg_list.specs.Flat.{flat_items_at}
use Rattle.law_places.specs.PlaceLaws.{Lead}

-- whatever picks come behind, the items from the first place on are the n ones, and then those from the other on
abbrev pub LeadsCut : List Block → Type 0
LeadsCut blocks = (from to : Place) (picks later : List ℕ) (n : ℕ) → Lead blocks from to picks n →
    flat_items_at blocks from (picks ++ later)
    ≡ take n (flat_items_at blocks from picks) ++ flat_items_at blocks to later
