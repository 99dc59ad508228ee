-- What a kept list says of the floats of a galley.
use Rattle.std.specs.Prelude.{◌≡◌, ℕ, ◌<◌, ◌≤◌, ◌^◌, List, [], length, map, Option, Some, None, slice_get}
use Rattle.std.specs.Prelude.{if◌then◌else◌, ℤ, Result, Ok, Err}
use Rattle.std.specs.List.{sum_by, AllByRecursion}
use Rattle.pg_list.specs.Shapes.{IsBlock}
use Rattle.std.specs.Option.{option_map_or}
use Rattle.pg_list.specs.declared.blocks.Block.{Block}
use Rattle.pg_list.specs.Flat.{flat}
use Rattle.pg_style.specs.Values.{StyleValue, AreaRuleValue}
use Rattle.pg_rules.specs.Floats.{float_numbers, floats, dealt, has_all, area_height}
use Rattle.pg_floats.specs.FloatsValue.{ClassFloatsValue, total_of}
use Rattle.pg_floats.specs.Callouts.{class_floats, unknown_among}
use Rattle.pg_floats.specs.declared.fault.FloatFault.{FloatFault}
use Rattle.pg_floats.specs.declared.fault.FloatFault.TheVariants.{Class, Limit, Memory}

-- the list holds, for each float class of the style in increasing number, its floats in a galley's blocks
pub record AreFloats (blocks : List Block) (style : StyleValue) (list : List ClassFloatsValue) : Type 0 where
  pub shape : AllByRecursion IsBlock blocks
  pub floats_are : list ≡ map (class_floats blocks) (float_numbers style)

-- the class of the first insert, in galley order, that the style does not have
abbrev pub unknown_class : List Block → StyleValue → Option ℕ
unknown_class blocks style = unknown_among style.classes (flat blocks [])

-- how many floats there are
abbrev pub float_total : List Block → StyleValue → ℕ
float_total blocks style = sum_by (λ (sizes : List ℤ). length sizes) (floats blocks style)

-- these lists, if they have at most 2^12 floats
abbrev pub IsWithinLimit : Result (List ClassFloatsValue) FloatFault → List ClassFloatsValue → Type 0
IsWithinLimit (Ok list) lists = (list ≡ lists) × (total_of lists ≤ 2 ^ 12)
IsWithinLimit (Err (Class number)) lists = ⊥
IsWithinLimit (Err (Limit count)) lists = (count ≡ total_of lists) × (2 ^ 12 < count)
IsWithinLimit (Err Memory) lists = Unit {0}

-- the floats of the galley, if there are at most 2^12
abbrev pub HasFloats : Result (List ClassFloatsValue) FloatFault → List Block → StyleValue → Type 0
HasFloats (Ok list) blocks style = AreFloats blocks style list × (float_total blocks style ≤ 2 ^ 12)
HasFloats (Err (Class number)) blocks style = ⊥
HasFloats (Err (Limit count)) blocks style = (count ≡ float_total blocks style) × (2 ^ 12 < count)
HasFloats (Err Memory) blocks style = Unit {0}

-- a list comes where the style has all classes and there are at most 2^12 floats; a class is named exactly where it
-- is strange, and a count only where it is above the limit and no class is strange
abbrev pub MakesList : Result (List ClassFloatsValue) FloatFault → List Block → StyleValue → Type 0
MakesList (Ok list) blocks style =
    AreFloats blocks style list × (unknown_class blocks style ≡ None) × (float_total blocks style ≤ 2 ^ 12)
MakesList (Err (Class number)) blocks style = unknown_class blocks style ≡ Some number
MakesList (Err (Limit count)) blocks style =
    (unknown_class blocks style ≡ None) × (count ≡ float_total blocks style) × (2 ^ 12 < count)
MakesList (Err Memory) blocks style = unknown_class blocks style ≡ None

-- the size of a float, by its slot and number
abbrev pub float_size : List Block → StyleValue → ℕ → ℕ → Option ℤ
float_size blocks style slot number =
    option_map_or (λ (sizes : List ℤ). slice_get sizes number) (slice_get (floats blocks style) slot) None

-- the height of an area that deals out the next floats, where there are so many
abbrev pub height_of : List (List ℤ) → AreaRuleValue → List ℕ → List ℕ → Option ℤ
height_of floats rule placed counts =
    if has_all floats placed counts then Some (area_height rule (dealt floats placed counts)) else None

-- how many floats are dealt out, where there are so many
abbrev pub count_of : List (List ℤ) → List ℕ → List ℕ → Option ℕ
count_of floats placed counts = if has_all floats placed counts then Some (length (dealt floats placed counts)) else None
