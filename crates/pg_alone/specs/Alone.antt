-- One object of a galley that by itself forbids every pagination.
use Rattle.std.specs.Prelude.{◌≡◌, ℕ, ◌==◌, ◌&&◌, ◌||◌, not, Bool, true, false, Option, Some, None, List, Contains, slice_get, ℤ, ◌+ℤ◌, int_lt}
use Rattle.std.specs.List.{list_all}
use Rattle.pg_list.specs.GalleyValue.{GalleyValue}
use Rattle.pg_plan.specs.declared.pages.Pagination.{Pagination}
use Rattle.pg_style.specs.Values.{StyleValue}
use Rattle.pg_style.specs.declared.style.Area.{Area}
use Rattle.pg_style.specs.declared.style.Run.{Run}
use Rattle.pg_floats.specs.AreFloats.{float_size}
use Rattle.pg_floats.specs.Spots.{takes_slot}
use Rattle.pg_rules.specs.Floats.{floats, takes_bottom, takes_in_column, takes_top, takes_wide}
use Rattle.pg_rules.specs.Legal.{Legal}
use Rattle.pg_alone.specs.declared.alone.Alone.{Alone}

-- the size is above the height of a column on a page of any run
abbrev pub is_above_all : StyleValue → ℤ → Bool
is_above_all style size = list_all (λ (run : Run). int_lt (style.height +ℤ run.extra) size) style.runs

-- an area that may have so many floats has none of this class
abbrev pub takes_none : StyleValue → (Area → Bool) → ℕ → ℕ → Bool
takes_none style takes count slot = (count == 0) || not (takes_slot style takes slot)

-- no area has a float of this class: not across a page, at the top or bottom of a text, or in a column without text
abbrev pub has_no_place : StyleValue → ℕ → Bool
has_no_place style slot =
    (takes_none style takes_wide style.wide.count slot && takes_none style takes_in_column style.float_column.count slot)
    && (takes_none style takes_top style.top.count slot && takes_none style takes_bottom style.bottom.count slot)

-- the class of floats in this slot has a float of this size
pub record HasFloat (galley : GalleyValue) (style : StyleValue) (slot : ℕ) (size : ℤ) : Type 0 where
  pub sizes : List ℤ
  pub at : slice_get (floats galley.blocks style) slot ≡ Some sizes
  pub has : Contains sizes size

-- nothing is legal where a float is higher than every column
abbrev pub HighFloatsForbid : GalleyValue → StyleValue → Type 0
HighFloatsForbid galley style = (slot : ℕ) (size : ℤ) (plan : Pagination) → HasFloat galley style slot size →
    is_above_all style size ≡ true → Legal galley style plan → ⊥

-- nothing is legal where the style has no place for a float
abbrev pub PlacelessForbid : GalleyValue → StyleValue → Type 0
PlacelessForbid galley style = (slot : ℕ) (size : ℤ) (plan : Pagination) → HasFloat galley style slot size →
    has_no_place style slot ≡ true → Legal galley style plan → ⊥

-- ---- what is found

-- the float of this number and slot, with its size: it is higher than every column, or there is no place for its class
pub record IsAlone (galley : GalleyValue) (style : StyleValue) (it : Alone) : Type 0 where
  pub size : float_size galley.blocks style it.slot it.number ≡ Some it.size
  pub high : it.is_high ≡ is_above_all style it.size
  pub placeless : it.is_placeless ≡ has_no_place style it.slot
  pub some : (it.is_high || it.is_placeless) ≡ true

-- the float of this number and slot, if there is one, is no such float
abbrev pub IsPlain : GalleyValue → StyleValue → ℕ → ℕ → Type 0
IsPlain galley style slot number = (size : ℤ) → float_size galley.blocks style slot number ≡ Some size →
    (is_above_all style size || has_no_place style slot) ≡ false

-- the float of this number and slot, if it is such a float
abbrev pub FindsAt : GalleyValue → StyleValue → ℕ → ℕ → Option Alone → Type 0
FindsAt galley style slot number (Some it) = IsAlone galley style it
FindsAt galley style slot number None = IsPlain galley style slot number

-- the first such float of a slot
abbrev pub FindsIn : GalleyValue → StyleValue → ℕ → Option Alone → Type 0
FindsIn galley style slot (Some it) = IsAlone galley style it
FindsIn galley style slot None = (number : ℕ) → IsPlain galley style slot number

-- the first such float, or that there is none
abbrev pub FindsAlone : GalleyValue → StyleValue → Option Alone → Type 0
FindsAlone galley style (Some it) = IsAlone galley style it
FindsAlone galley style None = (slot number : ℕ) → IsPlain galley style slot number

-- nothing is legal where such a float is
abbrev pub AloneForbids : GalleyValue → StyleValue → Type 0
AloneForbids galley style = (it : Alone) (plan : Pagination) → IsAlone galley style it → Legal galley style plan → ⊥
