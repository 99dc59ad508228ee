-- What stands at a place of a paragraph and next to it, told by its items alone.
use Rattle.std.specs.Prelude.{ℕ, zero, suc, ◌+◌, ◌==◌, ◌&&◌, ◌||◌, Bool, false, nat_lt, if◌then◌else◌, List, [], ◌∷◌, length, Option, Some, None, slice_get, ℤ, pos, int_lt}
use Rattle.std.specs.Option.{option_map_or}
use Rattle.pg_list.specs.Shapes.{is_box}
use Rattle.pg_list.specs.Break.{is_forcing, is_glue}
use Rattle.pg_hlist.specs.declared.item.HItem.{HItem}
use Rattle.pg_hlist.specs.declared.item.HItem.TheVariants.{BoxItem, Glue, Kern, Penalty}
use Rattle.pg_hlist.specs.Items.{as_item}

abbrev pub is_hbox : HItem → Bool
is_hbox item = is_box (as_item item)

abbrev pub is_hglue : HItem → Bool
is_hglue item = is_glue (as_item item)

abbrev pub forces : HItem → Bool
forces item = is_forcing (as_item item)

-- the item at a place passes a test
abbrev pub passes_at : (HItem → Bool) → List HItem → ℕ → Bool
passes_at test para k = option_map_or test (slice_get para k) false

-- a box stands directly before a place
abbrev pub follows_box : List HItem → ℕ → Bool
follows_box para zero = false
follows_box para (suc k) = passes_at is_hbox para k

-- the penalty of a break at an item, where it is one
abbrev pub item_penalty : List HItem → ℕ → HItem → Option ℤ
item_penalty para k (BoxItem width height depth body) = None
item_penalty para k (Glue width stretch order shrink body) = if follows_box para k then Some (pos 0) else None
item_penalty para k (Kern width body) = if passes_at is_hglue para (k + 1) then Some (pos 0) else None
item_penalty para k (Penalty value body) = if int_lt value (pos 10000) then Some value else None

abbrev pub near_penalty : List HItem → ℕ → Option ℤ
near_penalty para k =
    if k == length para then Some (pos 0) else option_map_or (item_penalty para k) (slice_get para k) None

-- how many items there are up to the last box
abbrev pub box_end : List HItem → ℕ
box_end [] = 0
box_end (item ∷ items) = if nat_lt 0 (box_end items) then box_end items + 1 else (if is_hbox item then 1 else 0)

-- the end, or a penalty of -10000 or less with a box behind it
abbrev pub near_forced : List HItem → ℕ → Bool
near_forced para k = (k == length para) || (passes_at forces para k && nat_lt (k + 1) (box_end para))
