-- Parts in order: one more, and a longer last one.
use Rattle.std.proofs.Common.{◌≡◌, ◌∙◌, refl, sym, ap, subst, arith, inl, inr, ℕ, suc, ◌+◌, ◌≤◌, Bool, true, false, List, [], ◌∷◌, ◌++◌, length, append-nil, append_assoc, length-append}
use Rattle.std.specs.Prelude.{take_while}
use Rattle.std.specs.List.{prefix_len}
use Rattle.pg_lemmas.proofs.Lists.{all_append}
use Rattle.pg_list.specs.Barrier.{barrier_body}
use Rattle.pg_list.specs.declared.item.Item.{Item}
use Rattle.pg_list.specs.declared.item.Item.TheVariants.{Carry}
use Rattle.pg_list.specs.declared.variants.Variant.{Variant}
use Rattle.pg_list.specs.declared.blocks.Block.{Block}
use Rattle.pg_list.specs.declared.blocks.Block.TheVariants.{One, Choice}
use Rattle.pg_list.specs.Bodies.{block_with_line, extended, extended_blocks, with_line}
use Rattle.pg_list.specs.Shapes.{fits_first}
use Rattle.pg_showbox.specs.Nodes.{node_item}
use Rattle.pg_showbox.proofs.ReadBack.{longer_node}
use Rattle.law_readers.specs.Galleys.{HaveSameInserts, IsDeeper, SaysBarrier, SaysBlock, SaysItem, behind_point, further_lines}
use Rattle.law_readers.specs.InOrder.{InOrder}

-- one more part
pub in_order_more : {A B : Type 0} (Says : List A → B → Type 0) (list part : List A) (xs : List B) (x : B) →
    InOrder Says list xs → Says part x → InOrder Says (list ++ part) (xs ++ x ∷ [])
in_order_more {A} Says list part [] x none says =
    (part, [], ap (λ (l : List A). l ++ part) none ∙ sym (append-nil part), says, refl)
in_order_more {A} Says list part (y ∷ xs) x (front, rest, cut, first, more) says = (
  front,
  rest ++ part,
  ap (λ (l : List A). l ++ part) cut ∙ append_assoc front rest part,
  first,
  in_order_more Says rest part xs x more says,
)

-- one line more makes the last part longer, and what it says
pub record Lengthens {A B : Type 0} (Says : List A → B → Type 0) (Ends : List B → Type 0) (line : A) (grow : B → B)
    (grown : List B → List B) : Type 0 where
  pub some : Ends [] → ⊥
  pub behind : (x y : B) (xs : List B) → Ends (x ∷ y ∷ xs) → Ends (y ∷ xs)
  pub last : (x : B) → grown (x ∷ []) ≡ grow x ∷ []
  pub more : (x y : B) (xs : List B) → grown (x ∷ y ∷ xs) ≡ x ∷ grown (y ∷ xs)
  pub says : (part : List A) (x : B) → Ends (x ∷ []) → Says part x → Says (part ++ line ∷ []) (grow x)

pub in_order_longer : {A B : Type 0} (Says : List A → B → Type 0) (Ends : List B → Type 0) (line : A) (grow : B → B)
    (grown : List B → List B) → Lengthens Says Ends line grow grown → (list : List A) (xs : List B) → Ends xs →
    InOrder Says list xs → InOrder Says (list ++ line ∷ []) (grown xs)
in_order_longer Says Ends line grow grown how list [] ends are = absurd (how.some ends)
in_order_longer {A} {B} Says Ends line grow grown how list (x ∷ []) ends (front, rest, cut, says, none) =
    subst (λ (ys : List B). InOrder Says (list ++ line ∷ []) ys) (sym (how.last x)) (
      front ++ line ∷ [],
      [],
      ap (λ (l : List A). l ++ line ∷ []) (cut ∙ ap (λ (l : List A). front ++ l) none ∙ append-nil front)
          ∙ sym (append-nil (front ++ line ∷ [])),
      how.says front x ends says,
      refl,
    )
in_order_longer {A} {B} Says Ends line grow grown how list (x ∷ y ∷ xs) ends (front, rest, cut, says, more) =
    subst (λ (ys : List B). InOrder Says (list ++ line ∷ []) ys) (sym (how.more x y xs)) (
      front,
      rest ++ line ∷ [],
      ap (λ (l : List A). l ++ line ∷ []) cut ∙ append_assoc front rest (line ∷ []),
      says,
      in_order_longer Says Ends line grow grown how rest (y ∷ xs) (how.behind x y xs ends) more,
    )

-- ---- lines in front of one that differs

pub taken_more : (p : List ℕ → Bool) (line : List ℕ) (lines : List (List ℕ)) → p line ≡ true →
    take_while p (line ∷ lines) ≡ line ∷ take_while p lines
taken_more p line lines so =
    let next : 1 + prefix_len p lines ≡ suc (prefix_len p lines) = omega arith in
    rw (so, next) refl

pub taken_none : (p : List ℕ → Bool) (line : List ℕ) (lines : List (List ℕ)) → p line ≡ false →
    take_while p (line ∷ lines) ≡ []
taken_none p line lines other = rw other refl

-- ---- a line that goes on with an item

pub further_more : (lines : List (List ℕ)) (line : List ℕ) →
    further_lines (lines ++ line ∷ []) ≡ further_lines lines ++ 10 ∷ behind_point line
further_more [] line = ap (λ (text : List ℕ). 10 ∷ text) (append-nil (behind_point line))
further_more (first ∷ lines) line =
    ap (λ (text : List ℕ). 10 ∷ (behind_point first ++ text)) (further_more lines line)
    ∙ ap (λ (text : List ℕ). 10 ∷ text)
    (sym (append_assoc (behind_point first) (further_lines lines) (10 ∷ behind_point line)))

says_longer : (lines : List (List ℕ)) (item : Item) (line : List ℕ) → SaysItem lines item → IsDeeper line →
    SaysItem (lines ++ line ∷ []) (with_line (behind_point line) item)
says_longer lines item line says deeper =
    record {
      first = says.first;
      deeper = says.deeper ++ line ∷ [];
      node = says.node;
      are = ap (λ (l : List (List ℕ)). l ++ line ∷ []) says.are;
      says = says.says;
      goes_on = all_append IsDeeper says.deeper (line ∷ []) says.goes_on (deeper, tt);
      is = ap (with_line (behind_point line)) says.is
          ∙ longer_node says.node (behind_point says.first ++ further_lines says.deeper) (behind_point line)
          ∙ ap (λ (text : List ℕ). node_item says.node text)
          (append_assoc (behind_point says.first) (further_lines says.deeper) (10 ∷ behind_point line)
          ∙ ap (λ (text : List ℕ). behind_point says.first ++ text) (sym (further_more says.deeper line)));
    }

barrier_longer : (lines : List (List ℕ)) (item : Item) (line : List ℕ) → SaysBarrier lines item → IsDeeper line →
    SaysBarrier (lines ++ line ∷ []) (with_line (behind_point line) item)
barrier_longer lines item line says deeper =
    record {
      first = says.first;
      deeper = says.deeper ++ line ∷ [];
      are = ap (λ (l : List (List ℕ)). l ++ line ∷ []) says.are;
      says = says.says;
      goes_on = all_append IsDeeper says.deeper (line ∷ []) says.goes_on (deeper, tt);
      is = ap (with_line (behind_point line)) says.is
          ∙ ap Carry (append_assoc barrier_body (further_lines says.deeper) (10 ∷ behind_point line)
          ∙ ap (λ (text : List ℕ). barrier_body ++ text) (sym (further_more says.deeper line)));
    }

pub longer_items : (lines : List (List ℕ)) (items : List Item) (line : List ℕ) → 1 ≤ length items →
    InOrder SaysItem lines items → IsDeeper line →
    InOrder SaysItem (lines ++ line ∷ []) (extended (behind_point line) items)
longer_items lines items line some are deeper = in_order_longer SaysItem (λ (items : List Item). 1 ≤ length items) line
    (with_line (behind_point line)) (extended (behind_point line)) (record {
      some = λ none. omega (arith, none);
      behind = λ x y xs _. omega arith;
      last = λ x. refl;
      more = λ x y xs. refl;
      says = λ part x _ says. says_longer part x line says deeper;
    }) lines items some are

pub longer_some : (items : List Item) (line : List ℕ) → 1 ≤ length items → 1 ≤ length (extended line items)
longer_some [] line some = some
longer_some (item ∷ []) line some = omega arith
longer_some (item ∷ next ∷ items) line some = omega arith

-- ---- blocks, the last of which is an item

abbrev pub IsOne : Block → Type 0
IsOne (One item) = Unit {0}
IsOne (Choice variants) = ⊥

abbrev pub EndsInItem : List Block → Type 0
EndsInItem [] = ⊥
EndsInItem (block ∷ []) = IsOne block
EndsInItem (block ∷ next ∷ blocks) = EndsInItem (next ∷ blocks)

pub ends_more : (blocks : List Block) (item : Item) → EndsInItem (blocks ++ One item ∷ [])
ends_more [] item = tt
ends_more (block ∷ []) item = tt
ends_more (block ∷ next ∷ blocks) item = ends_more (next ∷ blocks) item

ends_some : (blocks : List Block) → EndsInItem blocks → 1 ≤ length blocks
ends_some [] ends = absurd ends
ends_some (block ∷ blocks) ends = omega arith

ends_behind : (block : Block) (blocks : List Block) → EndsInItem blocks → EndsInItem (block ∷ blocks)
ends_behind block [] ends = absurd ends
ends_behind block (next ∷ blocks) ends = ends

one_longer : (block : Block) (line : List ℕ) → IsOne block → IsOne (block_with_line line block)
one_longer (One item) line one = tt
one_longer (Choice variants) line one = absurd one

pub ends_longer : (blocks : List Block) (line : List ℕ) → EndsInItem blocks → EndsInItem (extended_blocks line blocks)
ends_longer [] line ends = absurd ends
ends_longer (block ∷ []) line ends = one_longer block line ends
ends_longer (block ∷ next ∷ blocks) line ends =
    ends_behind block (extended_blocks line (next ∷ blocks)) (ends_longer (next ∷ blocks) line ends)

block_longer : (lines : List (List ℕ)) (block : Block) (line : List ℕ) → IsOne block → SaysBlock lines block →
    IsDeeper line → SaysBlock (lines ++ line ∷ []) (block_with_line (behind_point line) block)
block_longer lines (One item) line one (inl says) deeper = inl (says_longer lines item line says deeper)
block_longer lines (One item) line one (inr says) deeper = inr (barrier_longer lines item line says deeper)
block_longer lines (Choice variants) line one says deeper = absurd one

pub longer_blocks : (lines : List (List ℕ)) (blocks : List Block) (line : List ℕ) → EndsInItem blocks →
    InOrder SaysBlock lines blocks → IsDeeper line →
    InOrder SaysBlock (lines ++ line ∷ []) (extended_blocks (behind_point line) blocks)
longer_blocks lines blocks line ends are deeper = in_order_longer SaysBlock EndsInItem line
    (block_with_line (behind_point line)) (extended_blocks (behind_point line)) (record {
      some = λ none. none;
      behind = λ x y xs behind. behind;
      last = λ x. refl;
      more = λ x y xs. refl;
      says = λ part x one says. block_longer part x line one says deeper;
    }) lines blocks ends are

last_alone : (block : Block) (blocks : List Block) (line : List ℕ) → 1 ≤ length blocks →
    extended_blocks line (block ∷ blocks) ≡ block ∷ extended_blocks line blocks
last_alone block [] line some = absurd (omega (arith, some))
last_alone block (next ∷ blocks) line some = refl

-- only the last blocks get longer
pub longer_behind : (old mine : List Block) (line : List ℕ) → EndsInItem mine →
    extended_blocks line (old ++ mine) ≡ old ++ extended_blocks line mine
longer_behind [] mine line ends = refl
longer_behind (block ∷ old) mine line ends =
    let long = length-append old mine in
    let some = ends_some mine ends in
    last_alone block (old ++ mine) line (omega (arith, long, some))
    ∙ ap (λ (blocks : List Block). block ∷ blocks) (longer_behind old mine line ends)

-- ---- variants

pub inserts_more : (variants : List Variant) (variant : Variant) → HaveSameInserts variants →
    fits_first variants variant.items ≡ true → HaveSameInserts (variants ++ variant ∷ [])
inserts_more [] variant same fits = tt
inserts_more (first ∷ variants) variant same fits =
    all_append (λ (it : Variant). fits_first (first ∷ []) it.items ≡ true) variants (variant ∷ []) same (fits, tt)
