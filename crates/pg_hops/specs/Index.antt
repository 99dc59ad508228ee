-- The hops and leaps of a galley, by the blocks from which they lead on.
use Rattle.std.specs.Prelude.{ℕ, Bool, true, false, ◌==◌, if◌then◌else◌, List, Option, Some, None, IfSome, slice_get, ℤ}
use Rattle.pg_list.specs.declared.blocks.Block.{Block}
use Rattle.pg_hops.specs.declared.cursor.Cursor.{Cursor}
use Rattle.pg_hops.specs.Hop.{HopValue, IsHop}
use Rattle.pg_hops.specs.Leap.{IsLeap, LeapValue}
use Rattle.pg_hops.specs.declared.index.LeapAt.{LeapAt}
use Rattle.pg_hops.specs.declared.index.RareRow.{RareRow}
use Rattle.pg_hops.specs.declared.index.RareRow.TheVariants.{Far, Variants}
use Rattle.pg_hops.specs.declared.index.Row.{Row}
use Rattle.pg_hops.specs.declared.index.Row.TheVariants.{Rare, Single}
use Rattle.pg_hops.specs.declared.index.VariantHops.{VariantHops}

-- the hop at an index of a variant
abbrev pub hop_of : Option (Option HopValue) → Option HopValue
hop_of None = None
hop_of (Some hop) = hop

abbrev pub hop_inside : Option VariantHops → ℕ → Option HopValue
hop_inside None index = None
hop_inside (Some variant) index = hop_of (slice_get variant.hops.items index)

-- the hop from a cursor at the block of a row of which there are few
abbrev pub hop_in_rare : RareRow → Bool → ℕ → ℕ → Option HopValue
hop_in_rare (Far far) false variant index = Some far.value.hop
hop_in_rare (Variants variants) true variant index = hop_inside (slice_get variants.items variant) index
hop_in_rare _ _ variant index = None

-- the hop from a cursor at the block of a row
abbrev pub hop_in : Option Row → Bool → ℕ → ℕ → Option HopValue
hop_in (Some (Rare rare)) is_inner variant index = hop_in_rare rare is_inner variant index
hop_in (Some (Single hop)) false variant index = hop
hop_in _ _ variant index = None

-- the hop from a cursor
abbrev pub hop_at : List Row → Cursor → Option HopValue
hop_at rows c = hop_in (slice_get rows c.block) c.is_inner c.variant c.index

-- the leap at an index of a variant, which has one at most
abbrev pub leap_here : Option LeapAt → ℕ → Option LeapValue
leap_here None index = None
leap_here (Some it) index = if it.index == index then Some it.leap else None

abbrev pub leap_inside : Option VariantHops → ℕ → Option LeapValue
leap_inside None index = None
leap_inside (Some variant) index = leap_here variant.leap index

-- the leap from a cursor at the block of a row of which there are few
abbrev pub leap_in_rare : RareRow → Bool → ℕ → ℕ → Option LeapValue
leap_in_rare (Far far) false variant index = Some far.value.leap
leap_in_rare (Variants variants) true variant index = leap_inside (slice_get variants.items variant) index
leap_in_rare _ _ variant index = None

-- the leap from a cursor at the block of a row
abbrev pub leap_in : Option Row → Bool → ℕ → ℕ → Option LeapValue
leap_in (Some (Rare rare)) is_inner variant index = leap_in_rare rare is_inner variant index
leap_in _ _ variant index = None

-- the leap from a cursor
abbrev pub leap_at : List Row → Cursor → Option LeapValue
leap_at rows c = leap_in (slice_get rows c.block) c.is_inner c.variant c.index

-- what is kept of a cursor leads on from it in these blocks
abbrev pub LeadOn : List Block → ℤ → Cursor → Option HopValue → Option LeapValue → Type 0
LeadOn blocks maxdepth c hop leap = IfSome hop (IsHop blocks maxdepth c) × IfSome leap (IsLeap blocks maxdepth c)

-- each hop and each leap that is kept leads on in these blocks
abbrev pub AreHops : List Block → ℤ → List Row → Type 0
AreHops blocks maxdepth rows = (c : Cursor) → LeadOn blocks maxdepth c (hop_at rows c) (leap_at rows c)

-- inside a variant
abbrev pub within : ℕ → ℕ → ℕ → Cursor
within block variant index = record { block = block; variant = variant; index = index; is_inner = true }

-- each hop from an item of a variant leads on
abbrev pub AreHopsInside : List Block → ℤ → ℕ → ℕ → List (Option HopValue) → Type 0
AreHopsInside blocks maxdepth block variant hops =
    (index : ℕ) → IfSome (hop_of (slice_get hops index)) (IsHop blocks maxdepth (within block variant index))

-- and so does the leap that is kept
abbrev pub AreVariantHops : List Block → ℤ → ℕ → ℕ → Option VariantHops → Type 0
AreVariantHops blocks maxdepth block variant it =
    (index : ℕ) → LeadOn blocks maxdepth (within block variant index) (hop_inside it index) (leap_inside it index)

-- what is kept of a row leads on, from its block
abbrev pub AreRowHops : List Block → ℤ → ℕ → Row → Type 0
AreRowHops blocks maxdepth block row = (is_inner : Bool) (variant index : ℕ) →
    LeadOn blocks maxdepth (record { block = block; variant = variant; index = index; is_inner = is_inner })
    (hop_in (Some row) is_inner variant index) (leap_in (Some row) is_inner variant index)
