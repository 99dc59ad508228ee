-- The generator's galleys.
use Rattle.std.specs.Prelude.{◌≡◌, ℕ, zero, suc, ◌+◌, ◌-◌, ◌*◌, ◌<◌, ◌≤◌, ◌==◌, nat_lt, ◌%◌, if◌then◌else◌, Bool, true, false, List, [], ◌∷◌, ◌++◌, codes, pos, negsuc, Result, Ok, Err}
use Rattle.std.specs.List.{flat_map, range_with_len}
use Rattle.pg_list.specs.GalleyValue.{GalleyValue}
use Rattle.pg_list.specs.declared.item.Item.{Item}
use Rattle.pg_list.specs.declared.item.Item.TheVariants.{BoxItem, Glue, Penalty, Insert}
use Rattle.pg_list.specs.declared.item.Order.TheVariants.{Finite}
use Rattle.pg_list.specs.declared.variants.Variant.{Variant}
use Rattle.pg_list.specs.declared.blocks.Block.{Block}
use Rattle.pg_list.specs.declared.blocks.Block.TheVariants.{One, Choice}
use Rattle.pg_make.specs.Made.{points}
use Rattle.pg_make.specs.declared.galley.MakeFault.{MakeFault}
use Rattle.pg_make.specs.declared.galley.MakeFault.TheVariants.{Limit, Memory}

-- a line of type
abbrev pub made_box : Item
made_box = BoxItem (points 7) (points 2) (codes "\\hbox(7.0+2.0)x345.0")

-- a note of 9 points
abbrev pub made_note : Item
made_note = Insert 200 (points 9) (codes "\\insert200, natural size 9.0; split(0.0,0.0); float cost 0")

-- floats of 40, 50 and 60 points in turn
abbrev pub made_float : ℕ → Item
made_float zero = Insert 100 (points 40) (codes "\\insert100, natural size 40.0; split(0.0,0.0); float cost 0")
made_float (suc zero) = Insert 100 (points 50) (codes "\\insert100, natural size 50.0; split(0.0,0.0); float cost 0")
made_float _ = Insert 100 (points 60) (codes "\\insert100, natural size 60.0; split(0.0,0.0); float cost 0")

-- each fifth paragraph has a note, and each seventh a float
abbrev pub made_inserts : ℕ → List Item
made_inserts i = (if i % 5 == 4 then made_note ∷ [] else [])
    ++ (if i % 7 == 3 then made_float (i % 3) ∷ [] else [])

-- a break costs 150 behind the first line, and 150 before the last
abbrev pub made_break : Bool → Bool → Item
made_break true true = Penalty (pos 300) (codes "\\penalty 300")
made_break true false = Penalty (pos 150) (codes "\\penalty 150")
made_break false true = Penalty (pos 150) (codes "\\penalty 150")
made_break false false = Penalty (pos 0) (codes "\\penalty 0")

-- what stands between line j of k lines and the next
abbrev pub made_gap : ℕ → ℕ → List Item
made_gap k j = made_break (j == 1) (j + 1 == k)
    ∷ Glue (points 3) (pos 0) Finite (pos 0) (codes "\\glue(\\baselineskip) 3.0") ∷ []

-- line j of k lines, from 1 on: the paragraph's inserts in the first, and a gap behind all but the last
abbrev pub made_line : ℕ → ℕ → ℕ → List Item
made_line i k j = made_box ∷ ((if j == 1 then made_inserts i else []) ++ (if nat_lt j k then made_gap k j else []))

-- paragraph i in k lines
abbrev pub made_items : ℕ → ℕ → List Item
made_items i k = flat_map (made_line i k) (range_with_len 1 k)

-- from 4 to 12 lines
abbrev pub made_length : ℕ → ℕ
made_length i = 4 + 5 * i % 9

-- paragraph i in its own length, and a line shorter or longer for 400 demerits
abbrev pub made_variants : ℕ → List Variant
made_variants i =
    record { looseness = pos 0; demerits = 0; items = made_items i (made_length i) }
    ∷ record { looseness = negsuc 0; demerits = 400; items = made_items i (made_length i - 1) }
    ∷ record { looseness = pos 1; demerits = 400; items = made_items i (made_length i + 1) }
    ∷ []

-- the glue between paragraphs
abbrev pub made_skip : Item
made_skip = Glue (points 3) (points 1) Finite (pos 0) (codes "\\glue(\\parskip) 3.0 plus 1.0")

-- glue in front of all paragraphs but the first
abbrev pub skip_before : ℕ → List Block
skip_before zero = []
skip_before (suc i) = One made_skip ∷ []

-- paragraph i
abbrev pub made_paragraph : ℕ → List Block
made_paragraph i = skip_before i ++ Choice (made_variants i) ∷ []

-- n paragraphs
abbrev pub made_blocks : ℕ → List Block
made_blocks n = flat_map made_paragraph (range_with_len 0 n)

-- the galley of n paragraphs, 345 points wide
abbrev pub made_galley : ℕ → GalleyValue
made_galley n = record { width = points 345; blocks = made_blocks n }

-- the galley of at most 2000 paragraphs, or the number where there are more
abbrev pub MakesGalley : ℕ → Result GalleyValue MakeFault → Type 0
MakesGalley n (Ok galley) = (n ≤ 2000) × (galley ≡ made_galley n)
MakesGalley n (Err (Limit count)) = (2000 < n) × (count ≡ n)
MakesGalley n (Err Memory) = n ≤ 2000
