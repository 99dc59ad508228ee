-- What a line says.
use Rattle.std.specs.Prelude.{ℕ, Bool, true, false, List, [], Result, Ok, Err, is_some, if◌then◌else◌, codes}
use Rattle.std.specs.Str.{bytes_eq}
use Rattle.pg_showbox.specs.declared.kinds.ListKind.{ListKind}
use Rattle.pg_showbox.specs.declared.kinds.ListKind.TheVariants.{BadLine, Truncated}
use Rattle.pg_showbox.specs.Parts.{◌>>=◌, due, past_size}
use Rattle.pg_scan.specs.Parts.{after, on}
use Rattle.pg_showbox.specs.ParsedLine.{ends_cut}
use Rattle.pg_hlist.specs.declared.item.ParaLine.{ParaLine}
use Rattle.pg_hlist.specs.declared.item.ParaLine.TheVariants.{Nothing, Blank, Root, Item, Deeper}
use Rattle.pg_hlist.specs.Items.{IsNodeInRange}
use Rattle.pg_hlist.specs.Nodes.{node_at}

-- `\hbox(H+D)xW` behind its bracket, where all three sizes may have any size
unfoldable pub root_at : List ℕ → List ℕ → Result ParaLine ListKind
root_at line sizes = do
  plus ← past_size sizes
  depth ← due (codes "+") plus
  close ← past_size depth
  width ← due (codes ")x") close
  rest ← past_size width
  if ends_cut line then Err Truncated else Ok Root

-- outside of paragraphs all lines but roots say nothing
unfoldable pub outside_line : List ℕ → Result ParaLine ListKind
outside_line line = on (after (codes "\\hbox(") line) (root_at line) (Ok Nothing)

-- a line behind its first point
unfoldable pub pointed_at : List ℕ → Result ParaLine ListKind
pointed_at bytes = if is_some (after (codes ".") bytes) then Ok Deeper
    else node_at bytes >>= (λ node. Ok (Item node))

-- in a paragraph each line but the empty one has a point in front
unfoldable pub inside_line : List ℕ → Result ParaLine ListKind
inside_line line = if bytes_eq line [] then Ok Blank else on (after (codes ".") line) pointed_at (Err BadLine)

unfoldable pub line_parsed : Bool → List ℕ → Result ParaLine ListKind
line_parsed true line = inside_line line
line_parsed false line = outside_line line

abbrev pub IsParsedInRange : ParaLine → Type 0
IsParsedInRange Nothing = Unit {0}
IsParsedInRange Blank = Unit {0}
IsParsedInRange Root = Unit {0}
IsParsedInRange (Item node) = IsNodeInRange node
IsParsedInRange Deeper = Unit {0}
