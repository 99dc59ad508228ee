-- What a line says of an item is within the ranges of a list.
use Rattle.std.proofs.Common.{◌≡◌, refl, ap, ◌+◌, ◌<◌, ◌^◌, ℕ, zero, suc, Bool, true, false, List, [], ◌∷◌, ◌++◌, length, take, drop, arith}
use Rattle.std.specs.Prelude.{⊤, ◌==◌, ◌&&◌, codes, if◌then◌else◌, is_some, nat_abs, nat_le, nat_lt, IfOk, Option, Some, None, Result, Ok, Err, ℤ, pos, negsuc}
use Rattle.std.specs.Str.{bytes_eq}
use Rattle.std.proofs.lemmas.Slice.Eq.{bytes_eq-Decides}
use Rattle.pg_lemmas.proofs.Numbers.{less_true}
use Rattle.pg_scaled.specs.Digits.{digit_count, size_of}
use Rattle.pg_scaled.specs.Ranges.{IsScaled}
use Rattle.pg_scaled.specs.Scaled.{InRange, after_point, behind_point, bounded, scaled_value, signed, unsigned_front}
use Rattle.pg_scaled.specs.declared.read.Front.{Front}
use Rattle.pg_scaled.specs.declared.read.Front.TheVariants.{Value, NotNumber, TooLarge}
use Rattle.pg_list.specs.declared.item.Order.{Order}
use Rattle.pg_list.specs.declared.item.Order.TheVariants.{Finite, Fil, Fill, Filll}
use Rattle.pg_scan.specs.Parts.{after, named, on, past}
use Rattle.pg_showbox.specs.declared.kinds.ListKind.{ListKind}
use Rattle.pg_showbox.specs.declared.kinds.ListKind.TheVariants.{BadLine, Truncated, UnknownNode}
use Rattle.pg_showbox.specs.declared.node.Node.{Node}
use Rattle.pg_showbox.specs.declared.node.Node.TheVariants as shown
use Rattle.pg_showbox.specs.Nodes.{IsNodeInRange as IsShownInRange, amount_at, ends_glue, glue_at, glue_text_at, if_finite, kern_at, leaders_at, past_name, penalty_at, shrink_at, stretch_at}
use Rattle.pg_showbox.specs.ParsedLine.{ends_cut}
use Rattle.pg_showbox.specs.Parts.{◌>>=◌, due, past_size, size_at, size_from, whole_at}
use Rattle.pg_hlist.specs.declared.item.ParaLine.{ParaLine}
use Rattle.pg_hlist.specs.declared.item.ParaLine.TheVariants.{Nothing, Blank, Root, Item, Deeper}
use Rattle.pg_hlist.specs.Items.{IsNodeInRange}
use Rattle.pg_hlist.specs.Nodes.{as_node, box_at, later_node_at, node_at, shared_at}
use Rattle.pg_hlist.specs.ParsedLine.{inside_line, line_parsed, outside_line, pointed_at, root_at}

-- ---- one reading after another

pub bind_keeps : {A B : Type 0} (P : A → Type 0) (Q : B → Type 0) (r : Result A ListKind) (f : A → Result B ListKind) →
    IfOk r P → ((x : A) → P x → IfOk (f x) Q) → IfOk (r >>= f) Q
bind_keeps P Q (Ok x) f h g = g x h
bind_keeps P Q (Err kind) f h g = tt

bind_any : {A B : Type 0} (Q : B → Type 0) (r : Result A ListKind) (f : A → Result B ListKind) →
    ((x : A) → IfOk (f x) Q) → IfOk (r >>= f) Q
bind_any Q (Ok x) f g = g x
bind_any Q (Err kind) f g = tt

on_keeps : {A : Type 0} (Q : A → Type 0) (o : Option (List ℕ)) (f : List ℕ → Result A ListKind)
    (other : Result A ListKind) → ((bytes : List ℕ) → IfOk (f bytes) Q) → IfOk other Q → IfOk (on o f other) Q
on_keeps Q None f other g h = h
on_keeps Q (Some bytes) f other g h = g bytes

if_keeps : {A : Type 0} (Q : A → Type 0) (b : Bool) (x : A) (kind : ListKind) → Q x →
    IfOk {T = A} {E = ListKind} (if b then Ok x else Err kind) Q
if_keeps Q true x kind h = h
if_keeps Q false x kind h = tt

either_fault : {A : Type 0} (Q : A → Type 0) (b : Bool) (one other : ListKind) →
    IfOk {T = A} {E = ListKind} (if b then Err one else Err other) Q
either_fault Q true one other = tt
either_fault Q false one other = tt

unless_fault : {A : Type 0} (Q : A → Type 0) (b : Bool) (x : A) (kind : ListKind) → Q x →
    IfOk {T = A} {E = ListKind} (if b then Err kind else Ok x) Q
unless_fault Q true x kind h = tt
unless_fault Q false x kind h = h

-- ---- numbers

signed_small : (minus : Bool) (n : ℕ) → n < 2 ^ 30 → nat_abs (signed minus n) < 2 ^ 30
signed_small false n h = h
signed_small true zero h = h
signed_small true (suc n) h = h

bounded_range : (minus : Bool) (size len : ℕ) → InRange (bounded minus size len)
bounded_range minus size len = by (nat_lt size (2 ^ 30)) refl
  where
    by : (b : Bool) → nat_lt size (2 ^ 30) ≡ b → InRange (if b then Value (signed minus size) len else TooLarge len)
    by true e = signed_small minus size (less_true size (2 ^ 30) e)
    by false e = tt

point_range : (minus : Bool) (whole : List ℕ) (o : Option (List ℕ)) → InRange (behind_point minus whole o)
point_range minus whole None = tt
point_range minus whole (Some rest) = by (nat_le 1 (length whole) && nat_le 1 (digit_count rest))
  where
    by : (b : Bool) → InRange (if b then bounded minus (size_of whole (take (digit_count rest) rest))
        ((if minus then 1 else 0) + length whole + 1 + digit_count rest) else NotNumber)
    by true = bounded_range minus (size_of whole (take (digit_count rest) rest))
        ((if minus then 1 else 0) + length whole + 1 + digit_count rest)
    by false = tt

front_range : (text : List ℕ) → InRange (scaled_value text)
front_range [] = tt
front_range (c ∷ rest) = by (c == 45)
  where
    unsigned : (minus : Bool) (bytes : List ℕ) → InRange (unsigned_front minus bytes)
    unsigned minus bytes = point_range minus (take (digit_count bytes) bytes)
        (after_point (drop (digit_count bytes) bytes))

    by : (b : Bool) → InRange (if b then unsigned_front true rest else unsigned_front false (c ∷ rest))
    by true = unsigned true rest
    by false = unsigned false (c ∷ rest)

-- a size that was read, before what follows it
abbrev IsSize : ℤ × List ℕ → Type 0
IsSize size = IsScaled size.0

size_is : (front : Front) (bytes : List ℕ) → InRange front → IfOk (size_from front bytes) IsSize
size_is (Value value len) bytes h = h
size_is NotNumber bytes h = tt
size_is (TooLarge len) bytes h = tt

size_range : (bytes : List ℕ) → IfOk (size_at bytes) IsSize
unfolding size_at
size_range bytes = size_is (scaled_value bytes) bytes (front_range bytes)

-- ---- nodes

box_range : (bytes : List ℕ) → IfOk (box_at bytes) IsNodeInRange
unfolding box_at
box_range bytes =
    bind_any IsNodeInRange (due (codes "(") bytes) _ (λ sizes.
    bind_keeps IsSize IsNodeInRange (size_at sizes) _ (size_range sizes) (λ height h.
    bind_any IsNodeInRange (due (codes "+") height.1) _ (λ plus.
    bind_keeps IsSize IsNodeInRange (size_at plus) _ (size_range plus) (λ depth d.
    bind_any IsNodeInRange (due (codes ")x") depth.1) _ (λ close.
    bind_keeps IsSize IsNodeInRange (size_at close) _ (size_range close) (λ width w. (w, h, d)))))))

-- a number with its order
abbrev IsAmount : (ℤ × Order) × List ℕ → Type 0
IsAmount amount = IsScaled amount.0.0

amount_range : (bytes : List ℕ) → IfOk (amount_at bytes) IsAmount
unfolding amount_at
amount_range bytes = bind_keeps IsSize IsAmount (size_at bytes) _ (size_range bytes) (λ size h. h)

stretch_range : (bytes : List ℕ) → IfOk (stretch_at bytes) IsAmount
unfolding stretch_at
stretch_range bytes = on_keeps IsAmount (after (codes " plus ") bytes) amount_at (Ok ((pos 0, Finite), bytes))
    amount_range (omega arith)

finite_range : (amount : ℤ × Order) (rest : List ℕ) → IsScaled amount.0 → IfOk (if_finite amount rest) IsSize
finite_range (value, Finite) rest h = h
finite_range (value, Fil) rest h = tt
finite_range (value, Fill) rest h = tt
finite_range (value, Filll) rest h = tt

shrink_range : (bytes : List ℕ) → IfOk (shrink_at bytes) IsSize
unfolding shrink_at
shrink_range bytes = on_keeps IsSize (after (codes " minus ") bytes) _ (Ok (pos 0, bytes))
    (λ rest. bind_keeps IsAmount IsSize (amount_at rest) _ (amount_range rest)
    (λ amount h. finite_range amount.0 amount.1 h)) (omega arith)

glue_text_range : (is_leader : Bool) (bytes : List ℕ) → IfOk (glue_text_at is_leader bytes) IsShownInRange
unfolding glue_text_at
glue_text_range is_leader bytes =
    bind_keeps IsSize IsShownInRange (size_at bytes) _ (size_range bytes) (λ width w.
    bind_keeps IsAmount IsShownInRange (stretch_at width.1) _ (stretch_range width.1) (λ stretch s.
    bind_keeps IsSize IsShownInRange (shrink_at stretch.1) _ (shrink_range stretch.1) (λ shrink k.
    if_keeps IsShownInRange (ends_glue is_leader shrink.1) (shown.Glue width.0 stretch.0.0 stretch.0.1 shrink.0) BadLine
    (w, s, k))))

glue_range : (bytes : List ℕ) → IfOk (glue_at bytes) IsShownInRange
unfolding glue_at
glue_range bytes = on_keeps IsShownInRange (after (codes "(") bytes) _ (due (codes " ") bytes >>= glue_text_at false)
    (λ rest. bind_any IsShownInRange (due (codes ") ") (past_name rest)) (glue_text_at false) (glue_text_range false))
    (bind_any IsShownInRange (due (codes " ") bytes) (glue_text_at false) (glue_text_range false))

leaders_range : (bytes : List ℕ) → IfOk (leaders_at bytes) IsShownInRange
unfolding leaders_at
leaders_range bytes = bind_any IsShownInRange (due (codes " ") bytes) (glue_text_at true) (glue_text_range true)

kern_range : (bytes : List ℕ) → IfOk (kern_at bytes) IsShownInRange
unfolding kern_at
kern_range bytes = bind_keeps IsSize IsShownInRange (size_at (past (codes " ") bytes)) _
    (size_range (past (codes " ") bytes)) (λ width h. h)

penalty_range : (bytes : List ℕ) → IfOk (penalty_at bytes) IsShownInRange
unfolding penalty_at
penalty_range bytes = bind_any IsShownInRange (due (codes " ") bytes) _ (λ number.
    bind_any IsShownInRange (whole_at (negsuc 2147483647) (pos 2147483647) number) _ (λ value. tt))

as_node_range : (node : Node) → IsShownInRange node → IfOk (as_node node) IsNodeInRange
as_node_range (shown.Box height depth) h = tt
as_node_range (shown.Rule height depth) h = tt
as_node_range (shown.Glue width stretch order shrink) h = h
as_node_range (shown.Kern width) h = h
as_node_range (shown.Penalty value) h = tt
as_node_range (shown.Insert class size) h = tt
as_node_range shown.Carry h = tt

shared_range : (read : List ℕ → Result Node ListKind) → ((bytes : List ℕ) → IfOk (read bytes) IsShownInRange) →
    (bytes : List ℕ) → IfOk (shared_at read bytes) IsNodeInRange
shared_range read h bytes = bind_keeps IsShownInRange IsNodeInRange (read bytes) as_node (h bytes) as_node_range

later_range : (bytes : List ℕ) → IfOk (later_node_at bytes) IsNodeInRange
unfolding later_node_at
later_range bytes =
    on_keeps IsNodeInRange (named (codes "\\cleaders") bytes) _ _ (shared_range leaders_at leaders_range)
    (on_keeps IsNodeInRange (named (codes "\\xleaders") bytes) _ _ (shared_range leaders_at leaders_range)
    (on_keeps IsNodeInRange (named (codes "\\kern") bytes) _ _ (shared_range kern_at kern_range)
    (on_keeps IsNodeInRange (named (codes "\\penalty") bytes) _ _ (shared_range penalty_at penalty_range)
    (either_fault IsNodeInRange (bytes_eq bytes (codes "etc.")) Truncated UnknownNode))))

node_range : (bytes : List ℕ) → IfOk (node_at bytes) IsNodeInRange
unfolding node_at
node_range bytes =
    on_keeps IsNodeInRange (named (codes "\\hbox") bytes) _ _ box_range
    (on_keeps IsNodeInRange (named (codes "\\vbox") bytes) _ _ box_range
    (on_keeps IsNodeInRange (named (codes "\\glue") bytes) _ _ (shared_range glue_at glue_range)
    (on_keeps IsNodeInRange (named (codes "\\leaders") bytes) _ _ (shared_range leaders_at leaders_range)
    (later_range bytes))))

-- ---- lines

-- this stands in the line behind a point
abbrev pub IsPointed : List ℕ → Type 0
IsPointed line = (bytes : List ℕ) × (line ≡ 46 ∷ bytes)

-- a line that says an item or a deeper line has a point in front, and the item is within its ranges
abbrev pub IsSaid : List ℕ → ParaLine → Type 0
IsSaid line Nothing = ⊤
IsSaid line Blank = ⊤
IsSaid line Root = ⊤
IsSaid line (Item node) = IsNodeInRange node × IsPointed line
IsSaid line Deeper = IsPointed line

root_said : (line text sizes : List ℕ) → IfOk (root_at text sizes) (IsSaid line)
unfolding root_at
root_said line text sizes =
    bind_any (IsSaid line) (past_size sizes) _ (λ plus.
    bind_any (IsSaid line) (due (codes "+") plus) _ (λ depth.
    bind_any (IsSaid line) (past_size depth) _ (λ close.
    bind_any (IsSaid line) (due (codes ")x") close) _ (λ width.
    bind_any (IsSaid line) (past_size width) _ (λ rest.
    unless_fault (IsSaid line) (ends_cut text) Root Truncated tt)))))

outside_said : (line : List ℕ) → IfOk (outside_line line) (IsSaid line)
unfolding outside_line
outside_said line = on_keeps (IsSaid line) (after (codes "\\hbox(") line) (root_at line) (Ok Nothing)
    (root_said line line) tt

pointed_said : (line bytes : List ℕ) → line ≡ 46 ∷ bytes → IfOk (pointed_at bytes) (IsSaid line)
unfolding pointed_at
pointed_said line bytes e = by (is_some (after (codes ".") bytes))
  where
    by : (b : Bool) → IfOk {T = ParaLine} {E = ListKind}
        (if b then Ok Deeper else node_at bytes >>= (λ node. Ok (Item node))) (IsSaid line)
    by true = (bytes, e)
    by false = bind_keeps IsNodeInRange (IsSaid line) (node_at bytes) (λ node. Ok (Item node)) (node_range bytes)
        (λ node h. (h, (bytes, e)))

inside_said : (line : List ℕ) → IfOk (inside_line line) (IsSaid line)
unfolding inside_line after
inside_said [] = tt
inside_said (c ∷ cs) = by (bytes_eq (c ∷ []) (46 ∷ [])) refl
  where
    by : (b : Bool) → bytes_eq (c ∷ []) (46 ∷ []) ≡ b →
        IfOk {T = ParaLine} {E = ListKind} (on (if b then Some cs else None) pointed_at (Err BadLine)) (IsSaid (c ∷ cs))
    by true e =
        let same : c ∷ [] ≡ 46 ∷ [] = (bytes_eq-Decides (c ∷ []) (46 ∷ [])).0 e in
        pointed_said (c ∷ cs) cs (ap (λ (front : List ℕ). front ++ cs) same)
    by false e = tt

-- what a line says, in a paragraph or outside
pub line_said : (inside : Bool) (line : List ℕ) → IfOk (line_parsed inside line) (IsSaid line)
unfolding line_parsed
line_said true line = inside_said line
line_said false line = outside_said line
