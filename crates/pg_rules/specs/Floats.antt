-- Classes of inserts, the floats of a galley, and how counts deal them out.
use Rattle.std.specs.Prelude.{ℕ, zero, suc, ◌+◌, ◌-◌, Bool, true, false, ◌==◌, ◌&&◌, ◌||◌, nat_le, if◌then◌else◌, List, [], ◌∷◌, ◌++◌, length, map, take, drop, Option, Some, None, slice_get, slice_index, ℤ, pos, ◌+ℤ◌, ◌*ℤ◌}
use Rattle.std.specs.List.{filter, filter_map, find, sum_by, range_with_len, list_all, flat_map}
use Rattle.std.specs.Option.{option_map_or}
use Rattle.pg_list.specs.declared.blocks.Block.{Block}
use Rattle.pg_list.specs.declared.item.Item.{Item}
use Rattle.pg_list.specs.declared.item.Item.TheVariants.{Insert}
use Rattle.pg_style.specs.Values.{StyleValue}
use Rattle.pg_style.specs.declared.style.Class.{Class}
use Rattle.pg_style.specs.declared.style.Gap.{Gap}
use Rattle.pg_style.specs.declared.style.Kind.{Kind}
use Rattle.pg_style.specs.declared.style.Kind.TheVariants.{Note, Float}
use Rattle.pg_style.specs.declared.style.Area.{Area}
use Rattle.pg_style.specs.declared.style.Area.TheVariants.{Top, Bottom, Both, Wide}
use Rattle.pg_style.specs.Values.{AreaRuleValue}
use Rattle.pg_list.specs.Barrier.{up_to_barrier}
use Rattle.pg_list.specs.Flat.{flat, items_before}
use Rattle.pg_list.specs.declared.galley.Place.{Place}
use Rattle.pg_list.specs.Whole.{whole_sum_by}

-- the class of a number
abbrev pub class_of : StyleValue → ℕ → Option Class
class_of style number = find (λ (class : Class). class.number == number) style.classes

-- the area and the distance table of a float class
abbrev pub float_kind : Kind → Option (Area × List ℕ)
float_kind (Note skip limit) = None
float_kind (Float area distance) = Some (area, distance)

-- the area and the distance table of the class of a number, where it is one of floats
abbrev pub float_class : StyleValue → ℕ → Option (Area × List ℕ)
float_class style number = option_map_or (λ (class : Class). float_kind class.kind) (class_of style number) None

-- the numbers of the float classes, in increasing order
abbrev pub float_numbers : StyleValue → List ℕ
float_numbers style =
    filter (λ number. option_map_or (λ (kind : Area × List ℕ). true) (float_class style number) false)
    (range_with_len 0 255)

-- the size of an insert of a class
abbrev pub insert_size : ℕ → Item → Option ℤ
insert_size number (Insert class size body) = if class == number then Some size else None
insert_size number _ = None

-- the sizes of the inserts of a class, in order
abbrev pub sizes_of : ℕ → List Item → List ℤ
sizes_of number items = filter_map (insert_size number) items

-- for each float class, the sizes of its floats in order
abbrev pub floats : List Block → StyleValue → List (List ℤ)
floats blocks style = map (λ number. sizes_of number (flat blocks [])) (float_numbers style)

-- for each float class, how many of its floats are called before a place
abbrev pub called : List Block → StyleValue → Place → List ℕ
called blocks style at = map (λ number. length (sizes_of number (items_before blocks at))) (float_numbers style)

-- for each float class, how many of its floats are called before the last barrier in front of a block
abbrev pub flushed : List Block → StyleValue → ℕ → List ℕ
flushed blocks style block =
    map (λ number. length (sizes_of number (flat (up_to_barrier (take block blocks)) []))) (float_numbers style)

-- the slots of the float classes
abbrev pub slots : StyleValue → List ℕ
slots style = range_with_len 0 (length (float_numbers style))

-- an entry that a count list lacks is 0
abbrev pub entry : List ℕ → ℕ → ℕ
entry counts slot = slice_index counts slot

-- counts added, class by class
abbrev pub plus_counts : StyleValue → List ℕ → List ℕ → List ℕ
plus_counts style a b = map (λ slot. entry a slot + entry b slot) (slots style)

-- the floats of a slot from one number on, as slots and numbers
abbrev pub numbered : ℕ → ℕ → ℕ → List (ℕ × ℕ)
numbered slot n zero = []
numbered slot n (suc k) = (slot, n) ∷ numbered slot (n + 1) k

-- the floats that the one counts leave and the others take
abbrev pub floats_between : StyleValue → List ℕ → List ℕ → List (ℕ × ℕ)
floats_between style a b = flat_map (λ (slot : ℕ). numbered slot (entry a slot) (entry b slot - entry a slot)) (slots style)

-- the counts deal out the next floats, class by class
abbrev pub dealt_from : {X : Type 0} → ℕ → List (List X) → List ℕ → List ℕ → List X
dealt_from slot [] before counts = []
dealt_from slot (own ∷ floats) before counts =
    take (entry counts slot) (drop (entry before slot) own) ++ dealt_from (slot + 1) floats before counts

-- the next floats that counts deal out, where these counts were dealt out before
abbrev pub dealt : {X : Type 0} → List (List X) → List ℕ → List ℕ → List X
dealt floats before counts = dealt_from 0 floats before counts

-- no class deals out a float that it has not
abbrev pub has_all_from : ℕ → List (List ℤ) → List ℕ → List ℕ → Bool
has_all_from slot [] before counts = true
has_all_from slot (sizes ∷ floats) before counts =
    ((entry counts slot == 0) || nat_le (entry before slot + entry counts slot) (length sizes))
    && has_all_from (slot + 1) floats before counts

-- no class deals out a float that it has not, where these counts were dealt out before
abbrev pub has_all : List (List ℤ) → List ℕ → List ℕ → Bool
has_all floats before counts = has_all_from 0 floats before counts

-- the height of an area with floats of these sizes: the sizes, what stands between them, and one gap; 0 without
-- floats
abbrev pub area_height : AreaRuleValue → List ℤ → ℤ
area_height rule [] = pos 0
area_height rule (size ∷ sizes) =
    (whole_sum_by (λ (z : ℤ). z) (size ∷ sizes) +ℤ (rule.sep.size *ℤ pos (length sizes))) +ℤ rule.gap.size

-- by how much a gap may be stretched
abbrev pub gap_stretch : Gap → ℤ
gap_stretch gap = gap.stretch

-- by how much a gap may be shrunk
abbrev pub gap_shrink : Gap → ℤ
gap_shrink gap = gap.shrink

-- what the gaps of an area with so many floats give: those between two floats, and one; 0 without floats
abbrev pub area_give : (Gap → ℤ) → AreaRuleValue → ℕ → ℤ
area_give part rule zero = pos 0
area_give part rule (suc n) = (part rule.sep *ℤ pos n) +ℤ part rule.gap

-- all counts together
abbrev pub total_count : List ℕ → ℕ
total_count counts = sum_by (λ (n : ℕ). n) counts

-- how many floats counts deal out; an entry beyond the classes deals out none
abbrev pub float_count : StyleValue → List ℕ → ℕ
float_count style counts = sum_by (λ (slot : ℕ). entry counts slot) (slots style)

-- a count for each class, and at most so many floats, each of a class that the area takes
abbrev pub is_area_allowed : StyleValue → (Area → Bool) → ℕ → List ℕ → Bool
is_area_allowed style takes limit counts =
    (length counts == length (float_numbers style)) && nat_le (total_count counts) limit
    && list_all (λ (slot : ℕ). (entry counts slot == 0)
    || option_map_or (λ number. option_map_or (λ (kind : Area × List ℕ). takes kind.0)
    (float_class style number) false) (slice_get (float_numbers style) slot) true)
    (range_with_len 0 (length counts))

-- floats of which area may stand at the top of a text
abbrev pub takes_top : Area → Bool
takes_top Top = true
takes_top Both = true
takes_top _ = false

-- floats of which area may stand at the bottom of a text
abbrev pub takes_bottom : Area → Bool
takes_bottom Bottom = true
takes_bottom Both = true
takes_bottom _ = false

-- floats of which area may stand across a page
abbrev pub takes_wide : Area → Bool
takes_wide Wide = true
takes_wide _ = false

-- floats of which area may stand in a column without text
abbrev pub takes_in_column : Area → Bool
takes_in_column Wide = false
takes_in_column _ = true

-- the demerits of a float by its distance
abbrev pub distance_table : StyleValue → ℕ → List ℕ
distance_table style slot =
    option_map_or (λ (number : ℕ). option_map_or (λ (kind : Area × List ℕ). kind.1) (float_class style number) [])
    (slice_get (float_numbers style) slot) []
