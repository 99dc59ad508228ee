-- The callouts of a class, block by block.
use Rattle.std.specs.Option.{option_or}
use Rattle.std.specs.Prelude.{ℕ, ◌+◌, List, [], ◌∷◌, ◌++◌, map, Option, Some, None, option_map, is_none, ℤ}
use Rattle.std.specs.Prelude.{unsigned_abs, if◌then◌else◌}
use Rattle.std.specs.List.{filter, filter_map, find}
use Rattle.pg_list.specs.Barrier.{is_barrier}
use Rattle.pg_list.specs.declared.item.Item.{Item}
use Rattle.pg_list.specs.declared.item.Item.TheVariants.{Insert}
use Rattle.pg_list.specs.declared.blocks.Block.{Block}
use Rattle.pg_list.specs.Places.{picked_items}
use Rattle.pg_style.specs.Classes.{class_in, is_float_class}
use Rattle.pg_style.specs.declared.style.Class.{Class}
use Rattle.pg_rules.specs.Floats.{insert_size}
use Rattle.pg_floats.specs.declared.callouts.Callout.{Callout}
use Rattle.pg_floats.specs.FloatsValue.{ClassFloatsValue}
use Rattle.pg_floats.specs.Places.{places_from}

-- the number of the first barrier from the n-th block on, or this one where there is none
abbrev pub next_barrier : ℕ → ℕ → List Block → ℕ
next_barrier past n [] = past
next_barrier past n (block ∷ blocks) = if is_barrier block then n else next_barrier past (n + 1) blocks

-- a number that no block has
abbrev pub no_barrier : ℕ
no_barrier = 4294967295

-- a float's callout: its block, the first barrier behind it, and its size
abbrev pub callout_of : ℕ → ℕ → ℕ → Item → Option Callout
callout_of number block barrier item =
    option_map (λ (size : ℤ). record { block = block; barrier = barrier; size = unsigned_abs size })
    (insert_size number item)

abbrev pub callouts_in : ℕ → ℕ → ℕ → List Item → List Callout
callouts_in number block barrier items = filter_map (callout_of number block barrier) items

-- the callouts of the blocks from the n-th on, where the first barrier behind them has this number; all variants of a
-- choice have those of its first
abbrev pub callouts_from : ℕ → ℕ → ℕ → List Block → List Callout
callouts_from number past n [] = []
callouts_from number past n (block ∷ blocks) =
    callouts_in number n (next_barrier past n (block ∷ blocks)) (picked_items block 0)
    ++ callouts_from number past (n + 1) blocks

-- the items of the blocks, with the first variant of each choice
abbrev pub first_items : List Block → List Item
first_items [] = []
first_items (block ∷ blocks) = picked_items block 0 ++ first_items blocks

abbrev pub insert_class : Item → Option ℕ
insert_class (Insert class size body) = Some class
insert_class _ = None

-- the class of the first insert whose class is not among these
abbrev pub unknown_among : List Class → List Item → Option ℕ
unknown_among classes items = find (λ number. is_none (class_in classes number)) (filter_map insert_class items)

-- the floats of a class
abbrev pub class_floats : List Block → ℕ → ClassFloatsValue
class_floats blocks number = record {
  number = number;
  callouts = callouts_from number no_barrier 0 blocks;
  places = places_from number 0 blocks;
}

-- for each float class its floats
abbrev pub lists_from : List Block → List Class → List ClassFloatsValue
lists_from blocks classes =
    map (λ (class : Class). class_floats blocks class.number) (filter is_float_class classes)

-- the same, block by block
abbrev pub unknown_blocks : List Class → List Block → Option ℕ
unknown_blocks classes [] = None
unknown_blocks classes (block ∷ blocks) =
    option_or (unknown_among classes (picked_items block 0)) (unknown_blocks classes blocks)
