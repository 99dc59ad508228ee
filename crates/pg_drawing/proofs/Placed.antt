-- Items that are placed one below the other, with one more.
use Rattle.std.proofs.Common.{◌≡◌, ◌∙◌, ◌+◌, ◌*◌, ◌^◌, ◌≤◌, ◌<◌, ap, ℕ, List, [], ◌∷◌, ◌++◌, append_assoc, arith, length, nat_abs, ℤ}
use Rattle.std.proofs.Math.IntN.{+ℤ_assoc}
use Rattle.std.specs.Prelude.{◌+ℤ◌, Option, Some, None, IfSome}
use Rattle.std.specs.Borrow.{Bor}
use Rattle.std.specs.Option.{option_map_or}
use Rattle.pg_list.specs.Whole.{whole_sum_by}
use Rattle.pg_drawing.specs.Drawn.{item_extent, mark_at, marks_from}
use Rattle.pg_drawing.specs.Pieces.{Lines, begins, cut, texts, told}
use Rattle.pg_drawing.specs.declared.pieces.Kind.TheVariants as at
use Rattle.pg_drawing.specs.declared.model.Mark.{Mark}

-- a piece of lines behind references: its line, those behind it, and those from the next on
abbrev pub Found : Type 0
Found = Bor (List ℕ) × Bor (List (Bor (List ℕ))) × Bor (List (Bor (List ℕ)))

-- the items from the next on
abbrev pub items_on : Option Found → List Lines
items_on next = option_map_or (λ (it : Found). told it.0.now it.1.now ∷ cut (begins at.Item) (texts it.2.now)) next []

-- how many lines there are from it on, its own counted and those that belong to it not
abbrev pub lines_on : Option Found → ℕ
lines_on next = option_map_or (λ (it : Found). 1 + length it.2.now) next 0

pub marks_more : (old new : List Mark) (top below : ℤ) (item : Lines) (ahead items : List Lines) (all : List Mark) →
    new ≡ old ++ mark_at top item ∷ [] → below ≡ top +ℤ item_extent item → ahead ≡ items →
    old ++ marks_from top (item ∷ items) ≡ all → new ++ marks_from below ahead ≡ all
marks_more old new top below item ahead items all one lower same before =
    ap (λ (marks : List Mark). marks ++ marks_from below ahead) one
    ∙ (append_assoc old (mark_at top item ∷ []) (marks_from below ahead)
    ∙ (ap (λ (z : ℤ). old ++ (mark_at top item ∷ marks_from z ahead)) lower
    ∙ (ap (λ (its : List Lines). old ++ (mark_at top item ∷ marks_from (top +ℤ item_extent item) its)) same
    ∙ before)))

-- the first of the numbers that are left is added
pub joined : (below top extent sum all : ℤ) → below ≡ top +ℤ extent → top +ℤ (extent +ℤ sum) ≡ all → below +ℤ sum ≡ all
joined below top extent sum all lower before = ap (λ z. z +ℤ sum) lower ∙ (+ℤ_assoc top extent sum ∙ before)

pub top_more : (top below : ℤ) (item : Lines) (ahead items : List Lines) (all : ℤ) →
    below ≡ top +ℤ item_extent item → ahead ≡ items →
    top +ℤ whole_sum_by item_extent (item ∷ items) ≡ all → below +ℤ whole_sum_by item_extent ahead ≡ all
top_more top below item ahead items all lower same before =
    ap (λ (its : List Lines). below +ℤ whole_sum_by item_extent its) same
    ∙ joined below top (item_extent item) (whole_sum_by item_extent items) all lower before

fewer : (next : Option Found) (n : ℕ) → IfSome next (λ (it : Found). length it.2.now < n) → lines_on next ≤ n
fewer None n less = omega arith
fewer (Some it) n less = omega (arith, less)

pub room_more : (next : Option Found) (n : ℕ) (top below : ℤ) → IfSome next (λ (it : Found). length it.2.now < n) →
    nat_abs below ≤ nat_abs top + 2 ^ 60 → nat_abs top + 2 ^ 60 * (1 + n) ≤ 2 ^ 126 →
    nat_abs below + 2 ^ 60 * lines_on next ≤ 2 ^ 126
room_more next n top below less size room =
    let few = fewer next n less in by (nat_abs below) (nat_abs top) (lines_on next) few size room
  where
    by : (b t l : ℕ) → l ≤ n → b ≤ t + 2 ^ 60 → t + 2 ^ 60 * (1 + n) ≤ 2 ^ 126 → b + 2 ^ 60 * l ≤ 2 ^ 126
    by b t l few size room = omega (arith, few, size, room)
