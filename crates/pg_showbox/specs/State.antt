-- What was read so far, and what a line does to it.
use Rattle.std.specs.Prelude.{◌≡◌, ◌≤◌, ◌<◌, ◌+◌, ⊤, ℕ, true, false, List, [], ◌∷◌, ◌++◌, length, Option, Some, None, Result, Ok, Err, ℤ, nat_abs, nat_lt, IfSome, if◌then◌else◌, codes}
use Rattle.std.specs.List.{sum_by}
use Rattle.pg_list.specs.Barrier.{barrier_body}
use Rattle.pg_list.specs.declared.item.Item.{Item}
use Rattle.pg_list.specs.declared.item.Item.TheVariants.{Carry}
use Rattle.pg_list.specs.declared.variants.Variant.{Variant}
use Rattle.pg_list.specs.declared.blocks.Block.TheVariants as block
use Rattle.pg_list.specs.Bodies.{extended, extended_blocks}
use Rattle.pg_list.specs.Shapes.{is_shaped, fits_first}
use Rattle.pg_scaled.specs.Ranges.{IsScaled}
use Rattle.pg_list.specs.Counts.{item_count, item_limit}
use Rattle.pg_showbox.specs.declared.kinds.ListKind.{ListKind}
use Rattle.pg_showbox.specs.declared.kinds.ListKind.TheVariants.{BadLine, ChoiceShape, ChoiceInserts, Limit, Memory}
use Rattle.pg_showbox.specs.declared.parsed.ParsedLine.{ParsedLine}
use Rattle.pg_showbox.specs.declared.parsed.ParsedLine.TheVariants as said
use Rattle.pg_showbox.specs.declared.state.ReaderState.{ReaderState}
use Rattle.pg_showbox.specs.declared.state.Within.{Within}
use Rattle.pg_showbox.specs.declared.state.Within.TheVariants.{Outside, Listing, InChoice, InVariant}
use Rattle.pg_showbox.specs.Parts.{◌>>=◌}
use Rattle.pg_scan.specs.Parts.{past}
use Rattle.pg_showbox.specs.Nodes.{node_item}

abbrev pub started : Within → ReaderState
started within = record {
  blocks = [];
  width = None;
  within = within;
  variants = [];
  items = [];
  has_item = false;
  count = 0;
}

-- an item stands next, as a block or in the variant that is open
unfoldable pub placed_block : ReaderState → Item → Result ReaderState ListKind
placed_block s item = if nat_lt s.count item_limit then
    Ok (record s { blocks = s.blocks ++ block.One item ∷ []; has_item = true; count = s.count + 1 }) else Err Limit

unfoldable pub placed_item : ReaderState → Item → Result ReaderState ListKind
placed_item s item = if nat_lt s.count item_limit then
    Ok (record s { items = s.items ++ item ∷ []; has_item = true; count = s.count + 1 }) else Err Limit

unfoldable pub placed : ReaderState → Within → Item → Result ReaderState ListKind
placed s Outside item = Err BadLine
placed s Listing item = placed_block s item
placed s InChoice item = Err ChoiceShape
placed s (InVariant looseness demerits) item = placed_item s item

-- a barrier stands next, as a block; within a choice there is none
unfoldable pub placed_barrier : ReaderState → Within → Result ReaderState ListKind
placed_barrier s Outside = Err ChoiceShape
placed_barrier s Listing = placed_block s (Carry barrier_body)
placed_barrier s InChoice = Err ChoiceShape
placed_barrier s (InVariant looseness demerits) = Err ChoiceShape

-- a deeper line stands next
abbrev pub last_extended : ReaderState → Within → List ℕ → ReaderState
last_extended s Outside line = record s { blocks = extended_blocks line s.blocks }
last_extended s Listing line = record s { blocks = extended_blocks line s.blocks }
last_extended s InChoice line = record s { blocks = extended_blocks line s.blocks }
last_extended s (InVariant looseness demerits) line = record s { items = extended line s.items }

unfoldable pub longer_last : ReaderState → Within → List ℕ → Result ReaderState ListKind
longer_last s within line = if s.has_item then Ok (last_extended s within line) else Err BadLine

-- the variant that is open ends
unfoldable pub closed : ReaderState → ℤ → ℕ → Result ReaderState ListKind
closed s looseness demerits = if is_shaped s.items
    then (if fits_first s.variants s.items
    then Ok (record s {
      variants = s.variants ++ record {
        looseness = looseness;
        demerits = demerits;
        items =
            s.items;
      } ∷ [];
      items = [];
    })
    else Err ChoiceInserts) else Err ChoiceShape

-- the listing ends
unfoldable pub ended : ReaderState → Within → Result ReaderState ListKind
ended s Outside = Ok s
ended s Listing = Ok (record s { within = Outside; has_item = false })
ended s InChoice = Err ChoiceShape
ended s (InVariant looseness demerits) = Err ChoiceShape

abbrev pub or_first : Option ℤ → ℤ → Option ℤ
or_first None width = Some width
or_first (Some first) width = Some first

-- a listing begins
unfoldable pub begun_listing : ReaderState → ℤ → Result ReaderState ListKind
begun_listing s width =
    ended s s.within >>= (λ t. Ok (record t { within = Listing; has_item = false; width = or_first t.width width }))

unfoldable pub begun_choice : ReaderState → Within → Result ReaderState ListKind
begun_choice s Outside = Err ChoiceShape
begun_choice s Listing = Ok (record s { within = InChoice; variants = []; items = []; has_item = false })
begun_choice s InChoice = Err ChoiceShape
begun_choice s (InVariant looseness demerits) = Err ChoiceShape

unfoldable pub next_variant : ReaderState → ℤ → ℕ → Result ReaderState ListKind
next_variant s looseness demerits = if nat_lt (length s.variants) 5 then
    Ok (record s { within = InVariant looseness demerits; has_item = false }) else Err Limit

unfoldable pub begun_variant : ReaderState → Within → ℤ → ℕ → Result ReaderState ListKind
begun_variant s Outside looseness demerits = Err ChoiceShape
begun_variant s Listing looseness demerits = Err ChoiceShape
begun_variant s InChoice looseness demerits = next_variant s looseness demerits
begun_variant s (InVariant l d) looseness demerits = closed s l d >>= (λ t. next_variant t looseness demerits)

unfoldable pub whole_choice : ReaderState → Result ReaderState ListKind
whole_choice s =
    Ok (record s {
      blocks = s.blocks ++ block.Choice s.variants ∷ [];
      variants = [];
      within = Listing;
      has_item =
          false;
    })

unfoldable pub ended_choice : ReaderState → Within → Result ReaderState ListKind
ended_choice s Outside = Err ChoiceShape
ended_choice s Listing = Err ChoiceShape
ended_choice s InChoice = Err ChoiceShape
ended_choice s (InVariant l d) = closed s l d >>= whole_choice

-- what a line that says this does
unfoldable pub step : ReaderState → ParsedLine → List ℕ → Result ReaderState ListKind
step s said.Nothing line = Ok s
step s said.Blank line = ended s s.within
step s (said.Root width) line = begun_listing s width
step s (said.Item node) line = placed s s.within (node_item node (past (codes ".") line))
step s said.Barrier line = placed_barrier s s.within
step s said.Deeper line = longer_last s s.within (past (codes ".") line)
step s said.ChoiceMark line = begun_choice s s.within
step s (said.VariantMark looseness demerits) line = begun_variant s s.within looseness demerits
step s said.EndMark line = ended_choice s s.within

-- a step that was made, unless memory ran out
abbrev pub Steps : {S : Type 0} → Result (Unit {0}) ListKind → Result S ListKind → S → Type 0
Steps (Ok done) said new = said ≡ Ok new
Steps (Err Memory) said new = ⊤
Steps (Err kind) said new = said ≡ Err kind

-- what holds of each state
abbrev pub WithinSound : Within → List Variant → Type 0
WithinSound Outside variants = Unit {0}
WithinSound Listing variants = Unit {0}
WithinSound InChoice variants = length variants < 5
WithinSound (InVariant looseness demerits) variants = (length variants < 5) × (nat_abs looseness ≤ 100)
    × (demerits ≤ 100000000)

-- the items of all that was read
abbrev pub total : ReaderState → ℕ
total s = item_count s.blocks + sum_by (λ (variant : Variant). length variant.items) s.variants + length s.items

pub record Counted (s : ReaderState) : Type 0 where
  pub total : total s ≤ s.count
  pub few : s.count ≤ item_limit
  pub width : IfSome s.width IsScaled

pub record Sound (s : ReaderState) : Type 0 where
  pub counted : Counted s
  pub within : WithinSound s.within s.variants
