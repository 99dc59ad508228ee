-- Which kinds the faults of item lines have.
use Rattle.std.proofs.Common.{◌≤◌, ◌+◌, ℕ, arith, List, [], ◌∷◌, length, Bool, true, false, Option, Some, None}
use Rattle.std.specs.Prelude.{Result, Ok, Err, IfErr, ℤ, if◌then◌else◌}
use Rattle.pg_list.specs.declared.item.Item.{Item}
use Rattle.pg_list.specs.declared.item.Order.{Order}
use Rattle.pg_list.specs.declared.item.Order.TheVariants.{Finite, Fil, Fill, Filll}
use Rattle.pg_scaled.specs.declared.read.Front.{Front}
use Rattle.pg_scaled.specs.declared.read.Front.TheVariants.{Value, NotNumber, TooLarge}
use Rattle.pg_scaled.specs.Scaled.{scaled_value}
use Rattle.pg_scan.specs.Lines.{Line, joined}
use Rattle.pg_scan.specs.Parts.{after, on}
use Rattle.pg_showbox.specs.Kinds.{kind_number}
use Rattle.pg_showbox.specs.Nodes.{amount_at, box_at, carry_or_unknown, glue_at, glue_text_at, if_finite, insert_at, kern_at, later_node_at, leaders_at, natural_at, node_at, past_natural, penalty_at, rule_at, shrink_at, stretch_at}
use Rattle.pg_showbox.specs.ParsedLine.{block_line, marker_at, or_shape, pointed_at, variant_at}
use Rattle.pg_showbox.specs.Parts.{◌>>=◌, class_at, digits_at, due, fixed_size, or_bad, past_width, size_at, size_from, whole_at}
use Rattle.pg_showbox.specs.Reading.{at_line, line_read, run, said_in, then_ok}
use Rattle.pg_showbox.specs.State.{begun_choice, begun_listing, begun_variant, closed, ended, ended_choice, longer_last, next_variant, placed, placed_barrier, placed_block, placed_item, started, step, whole_choice}
use Rattle.pg_showbox.specs.declared.kinds.ListFault.{ListFault}
use Rattle.pg_showbox.specs.declared.kinds.ListKind.{ListKind}
use Rattle.pg_showbox.specs.declared.kinds.ListKind.TheVariants.{BadLine, UnknownNode, BadNumber, OutOfRange, Truncated, InfiniteShrink, RunningSize, NegativeSize, ChoiceShape, ChoiceInserts, Limit}
use Rattle.pg_showbox.specs.declared.parsed.ParsedLine.{ParsedLine}
use Rattle.pg_showbox.specs.declared.parsed.ParsedLine.TheVariants as said
use Rattle.pg_showbox.specs.declared.state.ReaderState.{ReaderState}
use Rattle.pg_showbox.specs.declared.state.Within.{Within}
use Rattle.pg_showbox.specs.declared.state.Within.TheVariants.{Outside, Listing, InChoice, InVariant}
use Rattle.pg_edits.specs.Script.{blocks_at}

-- a kind from 2 to 12
abbrev pub IsLineKind : ListKind → Type 0
IsLineKind kind = (2 ≤ kind_number kind) × (kind_number kind ≤ 12)

-- a fault has such a kind
record Named {A : Type 0} (r : Result A ListKind) : Type 0 where
  kind : IfErr r IsLineKind

ok_named : {A : Type 0} (x : A) → Named {A = A} (Ok x)
ok_named x = record { kind = tt }

err_named : {A : Type 0} (kind : ListKind) → IsLineKind kind → Named {A = A} (Err kind)
err_named kind h = record { kind = h }

bind_named : {A B : Type 0} (r : Result A ListKind) (f : A → Result B ListKind) → Named r →
    ((x : A) → Named (f x)) → Named (r >>= f)
bind_named (Ok x) f h k = k x
bind_named (Err kind) f h k = record { kind = h.kind }

if_named : {A : Type 0} (b : Bool) (x y : Result A ListKind) → Named x → Named y → Named (if b then x else y)
if_named true x y h k = h
if_named false x y h k = k

on_named : {A : Type 0} (o : Option (List ℕ)) (f : List ℕ → Result A ListKind) (other : Result A ListKind) →
    ((bytes : List ℕ) → Named (f bytes)) → Named other → Named (on o f other)
on_named None f other h k = k
on_named (Some bytes) f other h k = h bytes

bad_line : IsLineKind BadLine
bad_line = (omega arith, omega arith)

unknown_node : IsLineKind UnknownNode
unknown_node = (omega arith, omega arith)

bad_number : IsLineKind BadNumber
bad_number = (omega arith, omega arith)

out_of_range : IsLineKind OutOfRange
out_of_range = (omega arith, omega arith)

truncated : IsLineKind Truncated
truncated = (omega arith, omega arith)

infinite : IsLineKind InfiniteShrink
infinite = (omega arith, omega arith)

running : IsLineKind RunningSize
running = (omega arith, omega arith)

negative : IsLineKind NegativeSize
negative = (omega arith, omega arith)

shape : IsLineKind ChoiceShape
shape = (omega arith, omega arith)

inserts : IsLineKind ChoiceInserts
inserts = (omega arith, omega arith)

limit : IsLineKind Limit
limit = (omega arith, omega arith)

ruleset named = (
  ok_named,
  err_named,
  bind_named,
  if_named,
  on_named,
  bad_line,
  unknown_node,
  bad_number,
  out_of_range,
  truncated,
  infinite,
  running,
  negative,
  shape,
  inserts,
  limit,
)

-- ---- parts of a line

due_named : (text bytes : List ℕ) → Named (due text bytes)
unfolding due
due_named text bytes = by (after text bytes)
  where
    by : (o : Option (List ℕ)) → Named (or_bad o)
    by None = search named
    by (Some rest) = search named

size_named : (bytes : List ℕ) → Named (size_at bytes)
unfolding size_at
size_named bytes = by (scaled_value bytes)
  where
    by : (front : Front) → Named (size_from front bytes)
    by (Value value len) = search named
    by NotNumber = search named
    by (TooLarge len) = search named

fixed_named : (bytes : List ℕ) → Named (fixed_size bytes)
unfolding fixed_size
fixed_named [] = search named
fixed_named (c ∷ cs) = search (named, size_named)

width_named : (bytes : List ℕ) → Named (past_width bytes)
unfolding past_width
width_named [] = search named
width_named (c ∷ cs) = search (named, size_named)

digits_named : (low high : ℤ) (minus : Bool) (bytes : List ℕ) → Named (digits_at low high minus bytes)
unfolding digits_at
digits_named low high minus bytes = search named

whole_named : (low high : ℤ) (bytes : List ℕ) → Named (whole_at low high bytes)
unfolding whole_at
whole_named low high bytes = search (named, digits_named)

class_named : (bytes : List ℕ) → Named (class_at bytes)
unfolding class_at
class_named bytes = search named

-- ---- nodes

box_named : (bytes : List ℕ) → Named (box_at bytes)
unfolding box_at
box_named bytes = search (named, due_named, size_named) depth 20

rule_named : (bytes : List ℕ) → Named (rule_at bytes)
unfolding rule_at
rule_named bytes = search (named, due_named, fixed_named, width_named) depth 20

amount_named : (bytes : List ℕ) → Named (amount_at bytes)
unfolding amount_at
amount_named bytes = search (named, size_named) depth 20

stretch_named : (bytes : List ℕ) → Named (stretch_at bytes)
unfolding stretch_at
stretch_named bytes = search (named, amount_named) depth 20

finite_named : (amount : ℤ × Order) (rest : List ℕ) → Named (if_finite amount rest)
finite_named (value, Finite) rest = search named
finite_named (value, Fil) rest = search named
finite_named (value, Fill) rest = search named
finite_named (value, Filll) rest = search named

shrink_named : (bytes : List ℕ) → Named (shrink_at bytes)
unfolding shrink_at
shrink_named bytes = search (named, amount_named, finite_named) depth 20

glue_text_named : (is_leader : Bool) (bytes : List ℕ) → Named (glue_text_at is_leader bytes)
unfolding glue_text_at
glue_text_named is_leader bytes = search (named, size_named, stretch_named, shrink_named) depth 20

glue_named : (bytes : List ℕ) → Named (glue_at bytes)
unfolding glue_at
glue_named bytes = search (named, due_named, glue_text_named) depth 20

leaders_named : (bytes : List ℕ) → Named (leaders_at bytes)
unfolding leaders_at
leaders_named bytes = search (named, due_named, glue_text_named) depth 20

kern_named : (bytes : List ℕ) → Named (kern_at bytes)
unfolding kern_at
kern_named bytes = search (named, size_named) depth 20

penalty_named : (bytes : List ℕ) → Named (penalty_at bytes)
unfolding penalty_at
penalty_named bytes = search (named, due_named, whole_named) depth 20

natural_named : (bytes : List ℕ) → Named (natural_at bytes)
unfolding natural_at
natural_named bytes = search (named, size_named) depth 20

insert_named : (bytes : List ℕ) → Named (insert_at bytes)
unfolding insert_at past_natural
insert_named bytes = search (named, class_named, due_named, natural_named) depth 20

carry_named : (bytes : List ℕ) → Named (carry_or_unknown bytes)
unfolding carry_or_unknown
carry_named bytes = search named depth 20

later_node_named : (bytes : List ℕ) → Named (later_node_at bytes)
unfolding later_node_at
later_node_named bytes = search (named, leaders_named, kern_named, penalty_named, insert_named, carry_named) depth 20

node_named : (bytes : List ℕ) → Named (node_at bytes)
unfolding node_at
node_named bytes = search (named, box_named, rule_named, glue_named, leaders_named, later_node_named) depth 20

-- ---- lines

or_shape_named : (o : Option (List ℕ)) → Named (or_shape o)
or_shape_named None = search named
or_shape_named (Some bytes) = search named

variant_named : (bytes : List ℕ) → Named (variant_at bytes)
unfolding variant_at
variant_named bytes = search (named, whole_named, or_shape_named) depth 20

marker_named : (bytes : List ℕ) → Named (marker_at bytes)
unfolding marker_at
marker_named bytes = search (named, variant_named) depth 20

pointed_named : (bytes : List ℕ) → Named (pointed_at bytes)
unfolding pointed_at
pointed_named bytes = search (named, marker_named, node_named) depth 20

block_line_named : (line : List ℕ) → Named (block_line line)
unfolding block_line
block_line_named line = search (named, pointed_named) depth 20

-- ---- what a line does to what was read

placed_named : (s : ReaderState) (within : Within) (item : Item) → Named (placed s within item)
unfolding placed placed_block placed_item
placed_named s Outside item = search named
placed_named s Listing item = search named
placed_named s InChoice item = search named
placed_named s (InVariant looseness demerits) item = search named

barrier_named : (s : ReaderState) (within : Within) → Named (placed_barrier s within)
unfolding placed_barrier placed_block
barrier_named s Outside = search named
barrier_named s Listing = search named
barrier_named s InChoice = search named
barrier_named s (InVariant looseness demerits) = search named

longer_named : (s : ReaderState) (within : Within) (line : List ℕ) → Named (longer_last s within line)
unfolding longer_last
longer_named s within line = search named

closed_named : (s : ReaderState) (looseness : ℤ) (demerits : ℕ) → Named (closed s looseness demerits)
unfolding closed
closed_named s looseness demerits = search named

ended_named : (s : ReaderState) (within : Within) → Named (ended s within)
unfolding ended
ended_named s Outside = search named
ended_named s Listing = search named
ended_named s InChoice = search named
ended_named s (InVariant looseness demerits) = search named

listing_named : (s : ReaderState) (width : ℤ) → Named (begun_listing s width)
unfolding begun_listing
listing_named s width = search (named, ended_named)

choice_named : (s : ReaderState) (within : Within) → Named (begun_choice s within)
unfolding begun_choice
choice_named s Outside = search named
choice_named s Listing = search named
choice_named s InChoice = search named
choice_named s (InVariant looseness demerits) = search named

next_named : (s : ReaderState) (looseness : ℤ) (demerits : ℕ) → Named (next_variant s looseness demerits)
unfolding next_variant
next_named s looseness demerits = search named

begun_named : (s : ReaderState) (within : Within) (looseness : ℤ) (demerits : ℕ) →
    Named (begun_variant s within looseness demerits)
unfolding begun_variant
begun_named s Outside looseness demerits = search named
begun_named s Listing looseness demerits = search named
begun_named s InChoice looseness demerits = search (named, next_named)
begun_named s (InVariant l d) looseness demerits = search (named, closed_named, next_named)

end_named : (s : ReaderState) (within : Within) → Named (ended_choice s within)
unfolding ended_choice whole_choice
end_named s Outside = search named
end_named s Listing = search named
end_named s InChoice = search named
end_named s (InVariant l d) = search (named, closed_named)

step_named : (s : ReaderState) (what : ParsedLine) (line : List ℕ) → Named (step s what line)
unfolding step
step_named s said.Nothing line = search named
step_named s said.Blank line = search ended_named
step_named s (said.Root width) line = search listing_named
step_named s (said.Item node) line = search placed_named
step_named s said.Barrier line = search barrier_named
step_named s said.Deeper line = search longer_named
step_named s said.ChoiceMark line = search choice_named
step_named s (said.VariantMark looseness demerits) line = search begun_named
step_named s said.EndMark line = search end_named

line_named : (s : ReaderState) (line : List ℕ) → Named (line_read false s line)
unfolding line_read said_in
line_named s line = search (named, block_line_named, step_named)

-- ---- all lines

-- the same of a fault with its line
abbrev pub NamedAt : {A : Type 0} → Result A ListFault → Type 0
NamedAt r = IfErr r (λ fault. IsLineKind fault.kind)

at_named : {A : Type 0} (n : ℕ) (r : Result A ListKind) → Named r → NamedAt (at_line n r)
at_named n (Ok x) h = tt
at_named n (Err kind) h = h.kind

then_named : {A B : Type 0} (r : Result A ListFault) (f : A → Result B ListFault) → NamedAt r →
    ((x : A) → NamedAt (f x)) → NamedAt (then_ok r f)
then_named (Ok x) f h k = k x
then_named (Err fault) f h k = h

run_named : (s : ReaderState) (lines : List Line) → NamedAt (run false s lines)
unfolding run
run_named s [] = tt
run_named s (line ∷ lines) = then_named (at_line line.number (line_read false s line.text)) (λ t. run false t lines)
    (at_named line.number (line_read false s line.text) (line_named s line.text)) (λ t. run_named t lines)

-- the faults of item lines have these kinds
pub blocks_named : (first : ℕ) (items : List (List ℕ)) → NamedAt (blocks_at first items)
unfolding blocks_at
blocks_named first items =
    let read = run false (started Listing) (joined None first items) in
    let end : ReaderState → Result ReaderState ListFault = λ s. at_line (first + length items) (ended s s.within) in
    then_named (then_ok read end) (λ s. Ok s.blocks)
    (then_named read end (run_named (started Listing) (joined None first items))
    (λ s. at_named (first + length items) (ended s s.within) (ended_named s s.within))) (λ s. tt)
