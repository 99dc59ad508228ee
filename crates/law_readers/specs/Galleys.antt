-- What a galley file says, all lines at once: its listings, their blocks, and the lines of each item.
use Rattle.std.specs.Prelude.{◌≡◌, ◌≤◌, ◌⊎◌, ◌↔◌, ℕ, ◌||◌, Bool, true, false, not, if◌then◌else◌, is_some, take_while, codes, List, [], ◌∷◌, ◌++◌, length, Option, None, Some, Ok, Err, ℤ}
use Rattle.std.specs.List.{AllByRecursion}
use Rattle.std.specs.Str.{bytes_eq}
use Rattle.pg_list.specs.Barrier.{barrier_body}
use Rattle.pg_list.specs.declared.item.Item.{Item}
use Rattle.pg_list.specs.declared.item.Item.TheVariants.{Carry}
use Rattle.pg_list.specs.declared.variants.Variant.{Variant}
use Rattle.pg_list.specs.declared.blocks.Block.{Block}
use Rattle.pg_list.specs.declared.blocks.Block.TheVariants.{One, Choice}
use Rattle.pg_list.specs.Counts.{item_count, item_limit}
use Rattle.pg_list.specs.GalleyValue.{GalleyValue}
use Rattle.pg_list.specs.Shapes.{fits_first, is_shaped}
use Rattle.pg_scan.specs.Parts.{after, past}
use Rattle.pg_showbox.specs.Nodes.{node_item}
use Rattle.pg_showbox.specs.ParsedLine.{block_line, galley_line}
use Rattle.pg_showbox.specs.Reading.{galley_of}
use Rattle.pg_showbox.specs.declared.kinds.ListFault.{ListFault}
use Rattle.pg_showbox.specs.declared.node.Node.{Node}
use Rattle.pg_showbox.specs.declared.parsed.ParsedLine.TheVariants as said
use Rattle.law_readers.specs.InOrder.{InOrder}
use Rattle.law_readers.specs.LinesRead.{AreBroken, BeginsWith, EndsWhole, lines_read}

-- ---- items

-- a line behind its first point
abbrev pub behind_point : List ℕ → List ℕ
behind_point line = past (codes ".") line

-- lines behind their first points, each behind a line feed
abbrev pub further_lines : List (List ℕ) → List ℕ
further_lines [] = []
further_lines (line ∷ lines) = 10 ∷ (behind_point line ++ further_lines lines)

-- the line goes on with the item in front of it: it has two points or more
abbrev pub IsDeeper : List ℕ → Type 0
IsDeeper line = block_line line ≡ Ok said.Deeper

-- the first line says what the item is, deeper lines follow it, and the body is all of them without their first points
pub record SaysItem (lines : List (List ℕ)) (item : Item) : Type 0 where
  pub first : List ℕ
  pub deeper : List (List ℕ)
  pub node : Node
  pub are : lines ≡ first ∷ deeper
  pub says : block_line first ≡ Ok (said.Item node)
  pub goes_on : AllByRecursion IsDeeper deeper
  pub is : item ≡ node_item node (behind_point first ++ further_lines deeper)

-- the first line is a barrier, deeper lines follow it, and the body is all of them without their first points
pub record SaysBarrier (lines : List (List ℕ)) (item : Item) : Type 0 where
  pub first : List ℕ
  pub deeper : List (List ℕ)
  pub are : lines ≡ first ∷ deeper
  pub says : block_line first ≡ Ok said.Barrier
  pub goes_on : AllByRecursion IsDeeper deeper
  pub is : item ≡ Carry (barrier_body ++ further_lines deeper)

-- ---- choices

-- a marker with looseness and demerits, and the lines of the items of the variant
pub record SaysVariant (lines : List (List ℕ)) (variant : Variant) : Type 0 where
  pub marker : List ℕ
  pub rest : List (List ℕ)
  pub are : lines ≡ marker ∷ rest
  pub says : block_line marker ≡ Ok (said.VariantMark variant.looseness variant.demerits)
  pub items : InOrder SaysItem rest variant.items

-- a variant begins with a box and ends with what is not discarded
abbrev pub IsShaped : Variant → Type 0
IsShaped variant = is_shaped variant.items ≡ true

-- each variant has the inserts of the first one
abbrev pub HaveSameInserts : List Variant → Type 0
HaveSameInserts [] = Unit {0}
HaveSameInserts (first ∷ variants) =
    AllByRecursion (λ (variant : Variant). fits_first (first ∷ []) variant.items ≡ true) variants

-- a choice stands between its two markers: one to five variants of the right shape, with the same inserts
pub record SaysChoice (lines : List (List ℕ)) (variants : List Variant) : Type 0 where
  pub begin : List ℕ
  pub inner : List (List ℕ)
  pub last : List ℕ
  pub are : lines ≡ begin ∷ (inner ++ last ∷ [])
  pub begins : block_line begin ≡ Ok said.ChoiceMark
  pub ends : block_line last ≡ Ok said.EndMark
  pub each : InOrder SaysVariant inner variants
  pub some : 1 ≤ length variants
  pub few : length variants ≤ 5
  pub shaped : AllByRecursion IsShaped variants
  pub inserts : HaveSameInserts variants

-- the lines of an item, of a barrier, or of a choice
abbrev pub SaysBlock : List (List ℕ) → Block → Type 0
SaysBlock lines (One item) = SaysItem lines item ⊎ SaysBarrier lines item
SaysBlock lines (Choice variants) = SaysChoice lines variants

-- ---- listings

-- the line is a root: a listing begins
abbrev pub begins_listing : List ℕ → Bool
begins_listing line = is_some (after (codes "\\vbox(") line)

-- the line is none of the listing in front of it: it is empty, or a root
abbrev pub ends_listing : List ℕ → Bool
ends_listing line = begins_listing line || bytes_eq line []

-- the line goes on with the listing in front of it
abbrev pub is_listed : List ℕ → Bool
is_listed line = not (ends_listing line)

-- a root, and the lines behind it up to an empty one or the next root
pub record Listing : Type 0 where
  pub root : List ℕ
  pub lines : List (List ℕ)

-- the listings of a file; all other lines say nothing
abbrev pub listings : List (List ℕ) → List Listing
listings [] = []
listings (line ∷ lines) =
    if begins_listing line then record { root = line; lines = take_while is_listed lines } ∷ listings lines
    else listings lines

-- the root says this width
abbrev pub HasWidth : ℤ → Listing → Type 0
HasWidth width listing = galley_line false listing.root ≡ Ok (said.Root width)

-- the root says some width, and the lines say these blocks, one behind the other
pub record SaysBlocks (blocks : List Block) (listing : Listing) : Type 0 where
  pub width : ℤ
  pub root : HasWidth width listing
  pub each : InOrder SaysBlock listing.lines blocks

-- the width is that of the first listing
abbrev pub IsFirstWidth : ℤ → List Listing → Type 0
IsFirstWidth width [] = ⊥
IsFirstWidth width (listing ∷ others) = HasWidth width listing

-- the galley has the width of the first listing, and the blocks of all listings, one behind the other
pub record IsGalleyOf (lines : List (List ℕ)) (galley : GalleyValue) : Type 0 where
  pub width : IsFirstWidth galley.width (listings lines)
  pub blocks : InOrder SaysBlocks galley.blocks (listings lines)

-- ---- laws

-- what is read of a file is the galley of its lines
abbrev pub ReadsItsListings : Type 0
ReadsItsListings = (wrap : Option ℕ) (text : List ℕ) (galley : GalleyValue) → galley_of text wrap ≡ Ok galley →
    IsGalleyOf (lines_read wrap text) galley

-- and the galley of its lines is read of a file, where it has no more items than a galley may have
abbrev pub ListingsAreRead : Type 0
ListingsAreRead = (wrap : Option ℕ) (text : List ℕ) (galley : GalleyValue) → IsGalleyOf (lines_read wrap text) galley →
    item_count galley.blocks ≤ item_limit → galley_of text wrap ≡ Ok galley

-- lines that were broken at a width are read as if they were whole
abbrev pub ReadsBrokenLines : Type 0
ReadsBrokenLines = (width : ℕ) (broken whole : List ℕ) (galley : GalleyValue) → AreBroken width broken whole →
    (galley_of broken (Some width) ≡ Ok galley) ↔ (galley_of whole None ≡ Ok galley)

-- no listing is open behind these lines: there are none, or the last is empty
abbrev pub AreClosed : List (List ℕ) → Type 0
AreClosed lines = (lines ≡ []) ⊎ ((front : List (List ℕ)) × (lines ≡ front ++ [] ∷ []))

-- lines outside of listings do not matter: files that differ in such lines have the same galley
abbrev pub PassesOverLinesOutside : Type 0
PassesOverLinesOutside = (wrap : Option ℕ) (more less : List ℕ) (before outside behind : List (List ℕ))
    (galley : GalleyValue) → AreClosed before → AllByRecursion (λ line. begins_listing line ≡ false) outside →
    lines_read wrap more ≡ before ++ (outside ++ behind) → lines_read wrap less ≡ before ++ behind →
    (galley_of more wrap ≡ Ok galley) ↔ (galley_of less wrap ≡ Ok galley)

-- a fault at one of some lines is a fault of every file that begins with these lines
abbrev pub GalleyFaultsStay : Type 0
GalleyFaultsStay = (wrap : Option ℕ) (front : List (List ℕ)) (one other : List ℕ) (fault : ListFault) →
    EndsWhole wrap front → BeginsWith front one → BeginsWith front other → galley_of one wrap ≡ Err fault →
    1 ≤ fault.line → fault.line ≤ length front → galley_of other wrap ≡ Err fault
