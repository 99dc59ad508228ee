-- What a galley file and item lines say, or the first line with a fault.
use Rattle.std.specs.Prelude.{◌≡◌, ⊤, ℕ, ℤ, ◌+◌, Bool, true, false, List, [], ◌∷◌, length, Option, Some, None, Result, Ok, Err, if◌then◌else◌}
use Rattle.pg_list.specs.declared.blocks.Block.{Block}
use Rattle.pg_list.specs.GalleyValue.{GalleyValue}
use Rattle.pg_showbox.specs.declared.kinds.ListKind.{ListKind}
use Rattle.pg_showbox.specs.declared.kinds.ListKind.TheVariants.{NoListing, Memory}
use Rattle.pg_showbox.specs.declared.kinds.ListFault.{ListFault}
use Rattle.pg_showbox.specs.declared.parsed.ParsedLine.{ParsedLine}
use Rattle.pg_showbox.specs.declared.state.ReaderState.{ReaderState}
use Rattle.pg_showbox.specs.declared.state.Within.{Within}
use Rattle.pg_showbox.specs.declared.state.Within.TheVariants.{Outside, Listing, InChoice, InVariant}
use Rattle.pg_scan.specs.Lines.{Line, raw_lines, joined}
use Rattle.pg_showbox.specs.Parts.{◌>>=◌}
use Rattle.pg_showbox.specs.ParsedLine.{galley_line, block_line}
use Rattle.pg_showbox.specs.State.{started, step, ended}

-- a fault of this line
abbrev pub at_line : {A : Type 0} → ℕ → Result A ListKind → Result A ListFault
at_line n (Ok x) = Ok x
at_line n (Err kind) = Err (record { line = n; kind = kind })

abbrev pub then_ok : {A B : Type 0} → Result A ListFault → (A → Result B ListFault) → Result B ListFault
then_ok (Ok x) f = f x
then_ok (Err fault) f = Err fault

abbrev pub in_listing : Within → Bool
in_listing Outside = false
in_listing Listing = true
in_listing InChoice = true
in_listing (InVariant looseness demerits) = true

-- what a line says in a galley file, or among item lines alone
unfoldable pub said_in : Bool → Within → List ℕ → Result ParsedLine ListKind
said_in is_file within text = if is_file then galley_line (in_listing within) text else block_line text

unfoldable pub line_read : Bool → ReaderState → List ℕ → Result ReaderState ListKind
line_read is_file s text = said_in is_file s.within text >>= (λ said. step s said text)

-- line by line, up to the first fault
unfoldable pub run : Bool → ReaderState → List Line → Result ReaderState ListFault
run is_file s [] = Ok s
run is_file s (line ∷ lines) = then_ok (at_line line.number (line_read is_file s line.text))
    (λ t. run is_file t lines)

-- all lines, and the end of the text, which has the number after the last line's
unfoldable pub all_read : Bool → Option ℕ → ℕ → List ℕ → ReaderState → Result ReaderState ListFault
all_read is_file wrap first text s = then_ok (run is_file s (joined wrap first (raw_lines text)))
    (λ t. at_line (first + length (raw_lines text)) (ended t t.within))

abbrev pub galley_from : List Block → Option ℤ → Result GalleyValue ListFault
galley_from blocks None = Err (record { line = 0; kind = NoListing })
galley_from blocks (Some width) = Ok (record { width = width; blocks = blocks })

-- the galley of a file
unfoldable pub galley_of : List ℕ → Option ℕ → Result GalleyValue ListFault
galley_of text wrap = then_ok (all_read true wrap 1 text (started Outside)) (λ s. galley_from s.blocks s.width)

-- the blocks of item lines
unfoldable pub blocks_of : List ℕ → ℕ → Result (List Block) ListFault
blocks_of text first = then_ok (all_read false None first text (started Listing)) (λ s. Ok s.blocks)

abbrev pub OrMemory : ListKind → Type 0 → Type 0
OrMemory Memory P = ⊤
OrMemory _ P = P

-- the answer, seen by a view, unless memory ran out
abbrev pub Gives : {X Y : Type 0} → (X → Y) → Result X ListFault → Result Y ListFault → Type 0
Gives view (Ok x) said = said ≡ Ok (view x)
Gives view (Err fault) said = OrMemory fault.kind (said ≡ Err fault)

-- lines that were read, unless memory ran out
abbrev pub Runs : Result ℕ ListFault → Result ReaderState ListFault → ReaderState → Type 0
Runs (Ok number) said new = said ≡ Ok new
Runs (Err fault) said new = OrMemory fault.kind (said ≡ Err fault)
