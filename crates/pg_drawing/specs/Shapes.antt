-- What the first line of an item says in a page text: its sizes, and the width that glue is set to.
use Rattle.std.specs.Prelude.{ℕ, List, [], ◌∷◌, Option, Some, None, Result, Ok, Err, ℤ, pos, ◌+ℤ◌, codes}
use Rattle.pg_list.specs.declared.item.Order.TheVariants.{Finite}
use Rattle.pg_scan.specs.Parts.{after, first_part, named, on, parts_of, past, word_number}
use Rattle.pg_showbox.specs.Nodes.{glue_at, kern_at, leaders_at, past_name, penalty_at}
use Rattle.pg_showbox.specs.Parts.{◌>>=◌, due, size_at}
use Rattle.pg_showbox.specs.declared.kinds.ListKind.{ListKind}
use Rattle.pg_showbox.specs.declared.kinds.ListKind.TheVariants.{BadNumber, UnknownNode}
use Rattle.pg_showbox.specs.declared.node.Node.{Node}
use Rattle.pg_showbox.specs.declared.node.Node.TheVariants as shown
use Rattle.pg_drawing.specs.Widths.{length_word, nearest, width_word}
use Rattle.pg_drawing.specs.declared.model.Shape.{Shape}
use Rattle.pg_drawing.specs.declared.model.Shape.TheVariants.{Box, Rule, Glue, Kern, Penalty, Insert, Other}

-- ---- boxes, rules and inserts

-- `(H+D)xW`, then anything
unfoldable pub box_at : List ℕ → Result Shape ListKind
box_at bytes = do
  sizes ← due (codes "(") bytes
  height ← size_at sizes
  plus ← due (codes "+") height.1
  depth ← size_at plus
  close ← due (codes ")x") depth.1
  width ← size_at close
  Ok (Box height.0 depth.0 width.0)

-- `(H+D`, then anything
unfoldable pub rule_at : List ℕ → Result Shape ListKind
rule_at bytes = do
  sizes ← due (codes "(") bytes
  height ← size_at sizes
  plus ← due (codes "+") height.1
  depth ← size_at plus
  Ok (Rule height.0 depth.0)

unfoldable pub past_natural : List ℕ → Result (List ℕ) ListKind
past_natural rest = due (codes " natural size ") rest

-- ` natural size S`, then anything
unfoldable pub natural_at : List ℕ → Result ℤ ListKind
natural_at rest = do
  natural ← past_natural rest
  size ← size_at natural
  Ok size.0

-- the second of parts; nothing where it is not there
abbrev pub second_part : List (List ℕ) → List ℕ
second_part [] = []
second_part (part ∷ parts) = first_part parts

-- an insert of this size, where it has a class
abbrev pub insert_of : ℤ → Option ℕ → Result Shape ListKind
insert_of size None = Err BadNumber
insert_of size (Some class) = Ok (Insert class size)

-- a class, and ` natural size S` behind the comma
abbrev pub insert_at : List ℕ → Result Shape ListKind
insert_at bytes = natural_at (second_part (parts_of 44 bytes))
    >>= (λ size. insert_of size (word_number 0 254 (first_part (parts_of 44 bytes))))

-- ---- glue

-- a width that is said
abbrev pub or_bad_width : Option ℤ → Result ℤ ListKind
or_bad_width None = Err BadNumber
or_bad_width (Some width) = Ok width

-- ` set W`, or its own width
unfoldable pub set_at : ℤ → List ℕ → Result ℤ ListKind
set_at own rest = on (after (codes " set ") rest) (λ word. or_bad_width (width_word word)) (Ok own)

-- glue, kerns and penalties are those of a galley; this stands behind the numbers of glue
abbrev pub as_shape : List ℕ → Node → Result Shape ListKind
as_shape rest (shown.Glue own stretch order shrink) =
    set_at own rest >>= (λ set. Ok (Glue own stretch order shrink set))
as_shape rest (shown.Kern width) = Ok (Kern width)
as_shape rest (shown.Penalty value) = Ok (Penalty value)
as_shape rest _ = Err UnknownNode

-- what a galley reads
abbrev pub shared_at : (List ℕ → Result Node ListKind) → List ℕ → Result Shape ListKind
shared_at read bytes = read bytes >>= as_shape []

-- what a galley reads in front of the first comma, with the set width behind it
abbrev pub set_glue_at : (List ℕ → Result Node ListKind) → List ℕ → Result Shape ListKind
set_glue_at read bytes = read (first_part (parts_of 44 bytes)) >>= as_shape (second_part (parts_of 44 bytes))

-- what stands behind a name in brackets, if there is one; the name may hold commas
unfoldable pub behind_name : List ℕ → List ℕ
behind_name bytes = on (after (codes "(") bytes) (λ name. past (codes ")") (past_name name)) bytes

-- glue of this width and nothing else
abbrev pub bare : Option ℤ → Result Shape ListKind
bare None = Err BadNumber
bare (Some own) = Ok (Glue own (pos 0) Finite (pos 0) own)

-- glue of one number alone, which may be 16384 points and more, as that above the first box or rule
unfoldable pub bare_at : List ℕ → Result Shape ListKind
bare_at bytes = on (after (codes " ") bytes) (λ word. bare (length_word word)) (Err UnknownNode)

-- the one, or the other
abbrev pub or_else : Result Shape ListKind → Result Shape ListKind → Result Shape ListKind
or_else (Ok shape) other = Ok shape
or_else (Err kind) other = other

-- glue, behind its name
unfoldable pub named_glue_at : List ℕ → Result Shape ListKind
named_glue_at bytes = or_else (set_glue_at glue_at bytes) (bare_at bytes)

abbrev pub glue_shape_at : List ℕ → Result Shape ListKind
glue_shape_at bytes = named_glue_at (behind_name bytes)

-- ---- items

unfoldable pub later_at : List ℕ → Result Shape ListKind
later_at bytes = on (named (codes "\\cleaders") bytes) (set_glue_at leaders_at)
    (on (named (codes "\\xleaders") bytes) (set_glue_at leaders_at)
    (on (named (codes "\\kern") bytes) (shared_at kern_at)
    (on (named (codes "\\penalty") bytes) (shared_at penalty_at)
    (on (named (codes "\\insert") bytes) insert_at (Err UnknownNode)))))

-- what stands behind the point of an item line
unfoldable pub sized_at : List ℕ → Result Shape ListKind
sized_at bytes = on (named (codes "\\hbox") bytes) box_at
    (on (named (codes "\\vbox") bytes) box_at (on (named (codes "\\rule") bytes) rule_at
    (on (named (codes "\\glue") bytes) glue_shape_at
    (on (named (codes "\\leaders") bytes) (set_glue_at leaders_at) (later_at bytes)))))

abbrev pub or_other : Result Shape ListKind → Shape
or_other (Ok shape) = shape
or_other (Err kind) = Other

-- the shape that an item line says
unfoldable pub shape_of : List ℕ → Shape
shape_of line = on (after (codes ".") line) (λ bytes. or_other (sized_at bytes)) Other

-- ---- sizes

-- how much of a column it takes: all of a box and of an insert, and glue as it is set, if that is no more than 2^60 units,
-- which are 2^44 points
abbrev pub extent : Shape → ℤ
extent (Box height depth width) = height +ℤ depth
extent (Rule height depth) = height +ℤ depth
extent (Glue own stretch order shrink set) = nearest set
extent (Kern width) = width
extent (Penalty value) = pos 0
extent (Insert class size) = size
extent Other = pos 0
