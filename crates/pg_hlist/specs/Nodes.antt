-- What an item line of a paragraph says behind its point.
use Rattle.std.specs.Prelude.{ℕ, List, Result, Ok, Err, if◌then◌else◌, codes}
use Rattle.std.specs.Str.{bytes_eq}
use Rattle.pg_showbox.specs.declared.kinds.ListKind.{ListKind}
use Rattle.pg_showbox.specs.declared.kinds.ListKind.TheVariants.{UnknownNode, Truncated}
use Rattle.pg_showbox.specs.Parts.{◌>>=◌, due, size_at}
use Rattle.pg_scan.specs.Parts.{on, named}
use Rattle.pg_showbox.specs.declared.node.Node.{Node}
use Rattle.pg_showbox.specs.declared.node.Node.TheVariants as shown
use Rattle.pg_showbox.specs.Nodes.{glue_at, leaders_at, kern_at, penalty_at}
use Rattle.pg_hlist.specs.declared.item.HNode.{HNode}
use Rattle.pg_hlist.specs.declared.item.HNode.TheVariants.{Box, Glue, Kern, Penalty}

-- `(H+D)xW`, then anything
unfoldable pub box_at : List ℕ → Result HNode ListKind
box_at bytes = do
  sizes ← due (codes "(") bytes
  height ← size_at sizes
  plus ← due (codes "+") height.1
  depth ← size_at plus
  close ← due (codes ")x") depth.1
  width ← size_at close
  Ok (Box width.0 height.0 depth.0)

-- glue, kerns and penalties are those of a galley
abbrev pub as_node : Node → Result HNode ListKind
as_node (shown.Glue width stretch order shrink) = Ok (Glue width stretch order shrink)
as_node (shown.Kern width) = Ok (Kern width)
as_node (shown.Penalty value) = Ok (Penalty value)
as_node _ = Err UnknownNode

abbrev pub shared_at : (List ℕ → Result Node ListKind) → List ℕ → Result HNode ListKind
shared_at read bytes = read bytes >>= as_node

-- any other node
abbrev pub unknown : List ℕ → Result HNode ListKind
unknown bytes = if bytes_eq bytes (codes "etc.") then Err Truncated else Err UnknownNode

unfoldable pub later_node_at : List ℕ → Result HNode ListKind
later_node_at bytes = on (named (codes "\\cleaders") bytes) (shared_at leaders_at)
    (on (named (codes "\\xleaders") bytes) (shared_at leaders_at)
    (on (named (codes "\\kern") bytes) (shared_at kern_at)
    (on (named (codes "\\penalty") bytes) (shared_at penalty_at) (unknown bytes))))

unfoldable pub node_at : List ℕ → Result HNode ListKind
node_at bytes = on (named (codes "\\hbox") bytes) box_at
    (on (named (codes "\\vbox") bytes) box_at (on (named (codes "\\glue") bytes) (shared_at glue_at)
    (on (named (codes "\\leaders") bytes) (shared_at leaders_at) (later_node_at bytes))))
