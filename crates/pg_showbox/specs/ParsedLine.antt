-- What a line says.
use Rattle.std.specs.Prelude.{◌≤◌, ℕ, ◌-◌, Bool, List, [], length, drop, Option, Some, None, Result, Ok, Err, pos, neg_ℤ, nat_abs, is_some, if◌then◌else◌, codes}
use Rattle.std.specs.Str.{bytes_eq}
use Rattle.pg_scaled.specs.Ranges.{IsScaled}
use Rattle.pg_showbox.specs.declared.kinds.ListKind.{ListKind}
use Rattle.pg_showbox.specs.declared.kinds.ListKind.TheVariants.{BadLine, Truncated, ChoiceShape}
use Rattle.pg_showbox.specs.declared.parsed.ParsedLine.{ParsedLine}
use Rattle.pg_showbox.specs.declared.parsed.ParsedLine.TheVariants.{Nothing, Blank, Root, Item, Barrier, Deeper, ChoiceMark, VariantMark, EndMark}
use Rattle.pg_showbox.specs.Parts.{◌>>=◌, due, size_at, past_size, whole_at}
use Rattle.pg_scan.specs.Parts.{after, on}
use Rattle.pg_showbox.specs.Nodes.{node_at, IsNodeInRange}

-- the line ends in ` []`
abbrev pub ends_cut : List ℕ → Bool
ends_cut line = bytes_eq (drop (length line - 3) line) (codes " []")

-- `\vbox(H+D)xW`, where H and D may have any size, behind its bracket
unfoldable pub root_at : List ℕ → List ℕ → Result ParsedLine ListKind
root_at line sizes = do
  plus ← past_size sizes
  depth ← due (codes "+") plus
  close ← past_size depth
  width ← due (codes ")x") close
  size ← size_at width
  if ends_cut line then Err Truncated else Ok (Root size.0)

abbrev pub or_shape : Option (List ℕ) → Result (List ℕ) ListKind
or_shape None = Err ChoiceShape
or_shape (Some bytes) = Ok bytes

-- `L D}`
unfoldable pub variant_at : List ℕ → Result ParsedLine ListKind
variant_at bytes = do
  looseness ← whole_at (neg_ℤ (pos 100)) (pos 100) bytes
  space ← or_shape (after (codes " ") looseness.1)
  demerits ← whole_at (pos 0) (pos 100000000) space
  if bytes_eq demerits.1 (codes "}") then Ok (VariantMark looseness.0 (nat_abs demerits.0)) else Err ChoiceShape

-- a marker behind `\special{pg:`
unfoldable pub marker_at : List ℕ → Result ParsedLine ListKind
marker_at bytes = if bytes_eq bytes (codes "choice}") then Ok ChoiceMark
    else (if bytes_eq bytes (codes "end}") then Ok EndMark
    else (if bytes_eq bytes (codes "flush}") then Ok Barrier
    else on (after (codes "variant ") bytes) variant_at (Err ChoiceShape)))

-- a line behind its first point
unfoldable pub pointed_at : List ℕ → Result ParsedLine ListKind
pointed_at bytes = if is_some (after (codes ".") bytes) then Ok Deeper
    else on (after (codes "\\special{pg:") bytes) marker_at (node_at bytes >>= (λ node. Ok (Item node)))

-- a line where only items and markers may stand
unfoldable pub block_line : List ℕ → Result ParsedLine ListKind
block_line line = on (after (codes ".") line) pointed_at (Err BadLine)

unfoldable pub listing_line : Bool → List ℕ → Result ParsedLine ListKind
listing_line in_listing line = if in_listing then (if bytes_eq line [] then Ok Blank else block_line line)
    else Ok Nothing

-- a line of a galley file, in a listing or outside
unfoldable pub galley_line : Bool → List ℕ → Result ParsedLine ListKind
galley_line in_listing line = on (after (codes "\\vbox(") line) (root_at line) (listing_line in_listing line)

abbrev pub IsParsedInRange : ParsedLine → Type 0
IsParsedInRange Nothing = Unit {0}
IsParsedInRange Blank = Unit {0}
IsParsedInRange (Root width) = IsScaled width
IsParsedInRange (Item node) = IsNodeInRange node
IsParsedInRange Barrier = Unit {0}
IsParsedInRange Deeper = Unit {0}
IsParsedInRange ChoiceMark = Unit {0}
IsParsedInRange (VariantMark looseness demerits) = (nat_abs looseness ≤ 100) × (demerits ≤ 100000000)
IsParsedInRange EndMark = Unit {0}
