-- What an item line says behind its point.
use Rattle.std.specs.Prelude.{ℕ, ◌==◌, ◌&&◌, ◌||◌, Bool, true, false, not, List, [], drop, Result, Ok, Err, ℤ, pos, negsuc, int_lt, is_some, if◌then◌else◌, codes}
use Rattle.std.specs.Str.{bytes_eq}
use Rattle.std.specs.List.{prefix_len}
use Rattle.pg_scaled.specs.Ranges.{IsScaled}
use Rattle.std.specs.Prelude.{◌≤◌, ◌≤ℤ◌}
use Rattle.pg_list.specs.declared.item.Item.{Item}
use Rattle.pg_list.specs.declared.item.Item.TheVariants as item
use Rattle.pg_list.specs.declared.item.Order.{Order}
use Rattle.pg_list.specs.declared.item.Order.TheVariants.{Finite, Fil, Fill, Filll}
use Rattle.pg_showbox.specs.declared.kinds.ListKind.{ListKind}
use Rattle.pg_showbox.specs.declared.kinds.ListKind.TheVariants.{BadLine, UnknownNode, Truncated, InfiniteShrink, NegativeSize}
use Rattle.pg_showbox.specs.declared.node.Node.{Node}
use Rattle.pg_showbox.specs.declared.node.Node.TheVariants.{Box, Rule, Glue, Kern, Penalty, Insert, Carry}
use Rattle.pg_showbox.specs.Parts.{◌>>=◌, due, size_at, fixed_size, past_width, whole_at, class_at, order_at}
use Rattle.pg_scan.specs.Parts.{after, past, on, named, begins_with_letter}

-- `(H+D)xW`, then anything
unfoldable pub box_at : List ℕ → Result Node ListKind
box_at bytes = do
  sizes ← due (codes "(") bytes
  height ← size_at sizes
  plus ← due (codes "+") height.1
  depth ← size_at plus
  close ← due (codes ")x") depth.1
  width ← size_at close
  Ok (Box height.0 depth.0)

-- `(H+D)xW`, then anything, where W may be `*`
unfoldable pub rule_at : List ℕ → Result Node ListKind
rule_at bytes = do
  sizes ← due (codes "(") bytes
  height ← fixed_size sizes
  plus ← due (codes "+") height.1
  depth ← fixed_size plus
  close ← due (codes ")x") depth.1
  width ← past_width close
  Ok (Rule height.0 depth.0)

-- a number with its order of infinity
unfoldable pub amount_at : List ℕ → Result ((ℤ × Order) × List ℕ) ListKind
amount_at bytes = size_at bytes >>= (λ size. Ok ((size.0, (order_at size.1).0), (order_at size.1).1))

unfoldable pub stretch_at : List ℕ → Result ((ℤ × Order) × List ℕ) ListKind
stretch_at bytes = on (after (codes " plus ") bytes) amount_at (Ok ((pos 0, Finite), bytes))

abbrev pub if_finite : (ℤ × Order) → List ℕ → Result (ℤ × List ℕ) ListKind
if_finite (value, Finite) rest = Ok (value, rest)
if_finite (value, Fil) rest = Err InfiniteShrink
if_finite (value, Fill) rest = Err InfiniteShrink
if_finite (value, Filll) rest = Err InfiniteShrink

unfoldable pub shrink_at : List ℕ → Result (ℤ × List ℕ) ListKind
shrink_at bytes = on (after (codes " minus ") bytes)
    (λ rest. amount_at rest >>= (λ amount. if_finite amount.0 amount.1)) (Ok (pos 0, bytes))

-- the end of the line, or ` []` where a leader was cut
abbrev pub ends_glue : Bool → List ℕ → Bool
ends_glue is_leader bytes = bytes_eq bytes [] || (is_leader && bytes_eq bytes (codes " []"))

-- a number, a stretch and a shrink, and then the end of the line
unfoldable pub glue_text_at : Bool → List ℕ → Result Node ListKind
glue_text_at is_leader bytes = do
  width ← size_at bytes
  stretch ← stretch_at width.1
  shrink ← shrink_at stretch.1
  if ends_glue is_leader shrink.1 then Ok (Glue width.0 stretch.0.0 stretch.0.1 shrink.0) else Err BadLine

abbrev pub is_not_close : ℕ → Bool
is_not_close c = not (c == 41)

-- the bytes from the first `)` on
unfoldable pub past_name : List ℕ → List ℕ
past_name bytes = drop (prefix_len is_not_close bytes) bytes

-- ` ` or `(NAME) `, then a glue text
unfoldable pub glue_at : List ℕ → Result Node ListKind
glue_at bytes = on (after (codes "(") bytes) (λ rest. due (codes ") ") (past_name rest) >>= glue_text_at false)
    (due (codes " ") bytes >>= glue_text_at false)

unfoldable pub leaders_at : List ℕ → Result Node ListKind
leaders_at bytes = due (codes " ") bytes >>= glue_text_at true

unfoldable pub kern_at : List ℕ → Result Node ListKind
kern_at bytes = size_at (past (codes " ") bytes) >>= (λ width. Ok (Kern width.0))

unfoldable pub penalty_at : List ℕ → Result Node ListKind
penalty_at bytes = due (codes " ") bytes >>= (λ number. whole_at (negsuc 2147483647) (pos 2147483647) number >>=
    (λ value. Ok (Penalty value.0)))

unfoldable pub past_natural : List ℕ → Result (List ℕ) ListKind
past_natural bytes = due (codes ", natural size ") bytes

unfoldable pub natural_at : List ℕ → Result ℤ ListKind
natural_at bytes = size_at bytes >>= (λ size. if int_lt size.0 (pos 0) then Err NegativeSize else Ok size.0)

-- the class, then `, natural size ` and a size, then anything
unfoldable pub insert_at : List ℕ → Result Node ListKind
insert_at bytes = do
  class ← class_at bytes
  natural ← past_natural class.1
  size ← natural_at natural
  Ok (Insert class.0 size)

-- a node that is not known is carried, where it has a name
unfoldable pub carry_or_unknown : List ℕ → Result Node ListKind
carry_or_unknown bytes = if bytes_eq bytes (codes "etc.") then Err Truncated
    else (if is_some (after (codes "\\unsetbox(") bytes) then Err UnknownNode
    else on (after (codes "\\") bytes) (λ rest. if begins_with_letter rest then Ok Carry else Err UnknownNode)
    (Err UnknownNode))

unfoldable pub later_node_at : List ℕ → Result Node ListKind
later_node_at bytes = on (named (codes "\\cleaders") bytes) leaders_at
    (on (named (codes "\\xleaders") bytes) leaders_at (on (named (codes "\\kern") bytes) kern_at
    (on (named (codes "\\penalty") bytes) penalty_at
    (on (named (codes "\\insert") bytes) insert_at (carry_or_unknown bytes)))))

unfoldable pub node_at : List ℕ → Result Node ListKind
node_at bytes = on (named (codes "\\hbox") bytes) box_at
    (on (named (codes "\\vbox") bytes) box_at (on (named (codes "\\rule") bytes) rule_at
    (on (named (codes "\\glue") bytes) glue_at
    (on (named (codes "\\leaders") bytes) leaders_at (later_node_at bytes)))))

-- the item with these numbers and this body
abbrev pub node_item : Node → List ℕ → Item
node_item (Box height depth) body = item.BoxItem height depth body
node_item (Rule height depth) body = item.Rule height depth body
node_item (Glue width stretch order shrink) body = item.Glue width stretch order shrink body
node_item (Kern width) body = item.Kern width body
node_item (Penalty value) body = item.Penalty value body
node_item (Insert class size) body = item.Insert class size body
node_item Carry body = item.Carry body

abbrev pub IsNodeInRange : Node → Type 0
IsNodeInRange (Box height depth) = IsScaled height × IsScaled depth
IsNodeInRange (Rule height depth) = IsScaled height × IsScaled depth
IsNodeInRange (Glue width stretch order shrink) = IsScaled width × IsScaled stretch × IsScaled shrink
IsNodeInRange (Kern width) = IsScaled width
IsNodeInRange (Penalty value) = Unit {0}
IsNodeInRange (Insert class size) = (class ≤ 254) × (pos 0 ≤ℤ size) × IsScaled size
IsNodeInRange Carry = Unit {0}
