-- Carries that are marks, labels and uses.
use Rattle.std.specs.Prelude.{ℕ, ◌-◌, ◌==◌, ◌&&◌, Bool, false, not, if◌then◌else◌, nat_eq, List, [], ◌∷◌, length, take, codes, Option, Some, None}
use Rattle.std.specs.List.{ends_with, list_any}
use Rattle.std.specs.Option.{option_map_or}
use Rattle.std.specs.Str.{bytes_eq}
use Rattle.pg_list.specs.declared.item.Item.{Item}
use Rattle.pg_list.specs.declared.item.Item.TheVariants.{Carry}
use Rattle.pg_scan.specs.Parts.{after, first_part, parts_of}

-- what stands before a closing brace at the end
abbrev pub before_brace : List ℕ → Option (List ℕ)
before_brace text = if ends_with nat_eq text (125 ∷ []) then Some (take (length text - 1) text) else None

-- what stands between a text in front and a closing brace at the end
abbrev pub between : List ℕ → List ℕ → Option (List ℕ)
between front text = option_map_or before_brace (after front text) None

-- what stands before the first line feed
abbrev pub first_line : List ℕ → List ℕ
first_line body = first_part (parts_of 10 body)

-- the text of a mark, which its first line alone tells
abbrev pub mark_of : Item → Option (List ℕ)
mark_of (Carry body) = between (codes "\\mark{") (first_line body)
mark_of _ = None

abbrev pub is_brace : ℕ → Bool
is_brace byte = byte == 125

-- not empty, and without a closing brace
abbrev pub is_name : List ℕ → Bool
is_name name = not (length name == 0) && not (list_any is_brace name)

abbrev pub if_name : List ℕ → Option (List ℕ)
if_name name = if is_name name then Some name else None

-- the name behind a front
abbrev pub named : List ℕ → Item → Option (List ℕ)
named front (Carry body) = option_map_or if_name (between front body) None
named front _ = None

abbrev pub label_of : Item → Option (List ℕ)
label_of item = named (codes "\\special{ref:label ") item

abbrev pub use_of : Item → Option (List ℕ)
use_of item = named (codes "\\special{ref:use ") item

-- the item is a label of this name
abbrev pub is_label : List ℕ → Item → Bool
is_label name item = option_map_or (bytes_eq name) (label_of item) false
