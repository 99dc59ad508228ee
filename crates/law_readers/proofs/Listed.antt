-- What the lines of a listing have said so far.
use Rattle.std.proofs.Common.{◌≡◌, ◌∙◌, refl, sym, ap, subst, arith, inl, inr, ℕ, ◌+◌, ◌≤◌, ◌<◌, Bool, true, false, List, [], ◌∷◌, ◌++◌, length, append-nil, append_assoc, length-append, Option, Some, None}
use Rattle.std.specs.Prelude.{codes, if◌then◌else◌, is_some, nat_lt, Result, Ok, Err, ℤ, pos, neg_ℤ, nat_abs}
use Rattle.std.specs.List.{AllByRecursion}
use Rattle.std.specs.Str.{bytes_eq}
use Rattle.pg_lemmas.proofs.Bools.{not_both}
use Rattle.pg_lemmas.proofs.Lists.{all_append}
use Rattle.pg_lemmas.proofs.Numbers.{less_true}
use Rattle.pg_list.specs.Barrier.{barrier_body}
use Rattle.pg_list.specs.declared.item.Item.{Item}
use Rattle.pg_list.specs.declared.item.Item.TheVariants.{Carry}
use Rattle.pg_list.specs.declared.variants.Variant.{Variant}
use Rattle.pg_list.specs.declared.blocks.Block.{Block}
use Rattle.pg_list.specs.declared.blocks.Block.TheVariants.{One, Choice}
use Rattle.pg_list.specs.Bodies.{extended, extended_blocks}
use Rattle.pg_list.specs.Counts.{item_limit}
use Rattle.pg_list.specs.Shapes.{fits_first, is_shaped}
use Rattle.pg_scan.specs.Parts.{after, on}
use Rattle.pg_showbox.specs.Nodes.{node_at, node_item}
use Rattle.pg_showbox.specs.ParsedLine.{block_line, marker_at, or_shape, pointed_at, variant_at}
use Rattle.pg_showbox.specs.Parts.{◌>>=◌, whole_at}
use Rattle.pg_showbox.specs.Reading.{line_read, said_in}
use Rattle.pg_showbox.specs.State.{begun_choice, begun_variant, closed, ended_choice, last_extended, longer_last, next_variant, placed, placed_barrier, placed_block, placed_item, step, whole_choice}
use Rattle.pg_showbox.specs.declared.kinds.ListKind.{ListKind}
use Rattle.pg_showbox.specs.declared.kinds.ListKind.TheVariants.{BadLine, ChoiceInserts, ChoiceShape, Limit}
use Rattle.pg_showbox.specs.declared.node.Node.{Node}
use Rattle.pg_showbox.specs.declared.parsed.ParsedLine.{ParsedLine}
use Rattle.pg_showbox.specs.declared.parsed.ParsedLine.TheVariants as said
use Rattle.pg_showbox.specs.declared.state.ReaderState.{ReaderState}
use Rattle.pg_showbox.specs.declared.state.Within.{Within}
use Rattle.pg_showbox.specs.declared.state.Within.TheVariants.{Outside, Listing, InChoice, InVariant}
use Rattle.law_readers.specs.Galleys.{HaveSameInserts, IsDeeper, IsShaped, SaysBarrier, SaysBlock, SaysItem, SaysVariant, behind_point}
use Rattle.law_readers.specs.InOrder.{InOrder}
use Rattle.law_readers.proofs.Ordered.{EndsInItem, ends_longer, ends_more, in_order_more, inserts_more, longer_behind, longer_blocks, longer_items, longer_some}

-- ---- which lines stand in a listing

abbrev IsListedSaid : ParsedLine → Type 0
IsListedSaid said.Nothing = ⊥
IsListedSaid said.Blank = ⊥
IsListedSaid (said.Root width) = ⊥
IsListedSaid (said.Item node) = Unit {0}
IsListedSaid said.Barrier = Unit {0}
IsListedSaid said.Deeper = Unit {0}
IsListedSaid said.ChoiceMark = Unit {0}
IsListedSaid (said.VariantMark looseness demerits) = Unit {0}
IsListedSaid said.EndMark = Unit {0}

abbrev Listed : Result ParsedLine ListKind → Type 0
Listed r = (it : ParsedLine) → r ≡ Ok it → IsListedSaid it

listed_ok : (it : ParsedLine) → IsListedSaid it → Listed (Ok it)
listed_ok it h other e = let same : it ≡ other = cc in subst (λ (x : ParsedLine). IsListedSaid x) same h

listed_err : (kind : ListKind) → Listed (Err kind)
listed_err kind other e = absurd cc

listed_if : (b : Bool) (x y : Result ParsedLine ListKind) → Listed x → Listed y → Listed (if b then x else y)
listed_if true x y h k = h
listed_if false x y h k = k

listed_on : (o : Option (List ℕ)) (f : List ℕ → Result ParsedLine ListKind) (other : Result ParsedLine ListKind) →
    ((bytes : List ℕ) → Listed (f bytes)) → Listed other → Listed (on o f other)
listed_on None f other h k = k
listed_on (Some bytes) f other h k = h bytes

listed_bind : {A : Type 0} (r : Result A ListKind) (f : A → Result ParsedLine ListKind) → ((x : A) → Listed (f x)) →
    Listed (r >>= f)
listed_bind (Ok x) f h = h x
listed_bind (Err kind) f h = listed_err kind

variant_listed : (bytes : List ℕ) → Listed (variant_at bytes)
unfolding variant_at
variant_listed bytes = listed_bind (whole_at (neg_ℤ (pos 100)) (pos 100) bytes) _
    (λ looseness. listed_bind (or_shape (after (codes " ") looseness.1)) _
    (λ space. listed_bind (whole_at (pos 0) (pos 100000000) space) _
    (λ demerits. listed_if (bytes_eq demerits.1 (codes "}")) (Ok (said.VariantMark looseness.0 (nat_abs demerits.0)))
    (Err ChoiceShape) (listed_ok (said.VariantMark looseness.0 (nat_abs demerits.0)) tt) (listed_err ChoiceShape))))

marker_listed : (bytes : List ℕ) → Listed (marker_at bytes)
unfolding marker_at
marker_listed bytes = listed_if (bytes_eq bytes (codes "choice}")) (Ok said.ChoiceMark) _
    (listed_ok said.ChoiceMark tt)
    (listed_if (bytes_eq bytes (codes "end}")) (Ok said.EndMark) _ (listed_ok said.EndMark tt)
    (listed_if (bytes_eq bytes (codes "flush}")) (Ok said.Barrier) _ (listed_ok said.Barrier tt)
    (listed_on (after (codes "variant ") bytes) variant_at (Err ChoiceShape) variant_listed (listed_err ChoiceShape))))

pointed_listed : (bytes : List ℕ) → Listed (pointed_at bytes)
unfolding pointed_at
pointed_listed bytes = listed_if (is_some (after (codes ".") bytes)) (Ok said.Deeper) _ (listed_ok said.Deeper tt)
    (listed_on (after (codes "\\special{pg:") bytes) marker_at (node_at bytes >>= (λ node. Ok (said.Item node)))
    marker_listed (listed_bind (node_at bytes) (λ node. Ok (said.Item node))
    (λ node. listed_ok (said.Item node) tt)))

block_listed : (line : List ℕ) → Listed (block_line line)
unfolding block_line
block_listed line =
    listed_on (after (codes ".") line) pointed_at (Err BadLine) pointed_listed (listed_err BadLine)

-- ---- answers

pub said_inside : {A B : Type 0} (r : Result A ListKind) (f : A → Result B ListKind) (y : B) → (r >>= f) ≡ Ok y →
    (x : A) × (r ≡ Ok x) × (f x ≡ Ok y)
said_inside (Ok x) f y e = (x, refl, e)
said_inside (Err kind) f y e = absurd cc

pub if_said : {A : Type 0} (b : Bool) (x y : A) (kind : ListKind) → (if b then Ok x else Err kind) ≡ Ok y →
    (b ≡ true) × (x ≡ y)
if_said true x y kind e = (refl, cc)
if_said false x y kind e = absurd cc

pub ok_said : {A : Type 0} (x y : A) → ◌≡◌ {A = Result A ListKind} (Ok x) (Ok y) → x ≡ y
ok_said x y e = cc

-- ---- what stands open

-- behind the root of a listing these lines have said blocks, which stand behind the old ones
pub record HoldsBlocks (width : Option ℤ) (old : List Block) (lines : List (List ℕ)) (s : ReaderState) : Type 0 where
  pub mine : List Block
  pub kept : s.width ≡ width
  pub blocks : s.blocks ≡ old ++ mine
  pub are : InOrder SaysBlock lines mine
  pub last : s.has_item ≡ true → EndsInItem mine

-- and then a choice has begun
pub record HoldsChoice (width : Option ℤ) (old : List Block) (lines : List (List ℕ)) (s : ReaderState) : Type 0 where
  mine : List Block
  front : List (List ℕ)
  begin : List ℕ
  kept : s.width ≡ width
  blocks : s.blocks ≡ old ++ mine
  cut : lines ≡ front ++ begin ∷ []
  are : InOrder SaysBlock front mine
  begins : block_line begin ≡ Ok said.ChoiceMark
  no_variants : s.variants ≡ []
  no_items : s.items ≡ []
  no_last : s.has_item ≡ false

-- with some variants, and one that is open
pub record HoldsVariant (width : Option ℤ) (looseness : ℤ) (demerits : ℕ) (old : List Block) (lines : List (List ℕ)) (s : ReaderState) :
    Type 0 where
  mine : List Block
  front : List (List ℕ)
  begin : List ℕ
  inner : List (List ℕ)
  marker : List ℕ
  rest : List (List ℕ)
  kept : s.width ≡ width
  blocks : s.blocks ≡ old ++ mine
  cut : lines ≡ front ++ (begin ∷ (inner ++ (marker ∷ rest)))
  are : InOrder SaysBlock front mine
  begins : block_line begin ≡ Ok said.ChoiceMark
  variants : InOrder SaysVariant inner s.variants
  says : block_line marker ≡ Ok (said.VariantMark looseness demerits)
  items : InOrder SaysItem rest s.items
  last : s.has_item ≡ true → 1 ≤ length s.items
  few : length s.variants < 5
  shaped : AllByRecursion IsShaped s.variants
  inserts : HaveSameInserts s.variants

abbrev pub HoldsAt : Within → Option ℤ → List Block → List (List ℕ) → ReaderState → Type 0
HoldsAt Outside width old lines s = ⊥
HoldsAt Listing width old lines s = HoldsBlocks width old lines s
HoldsAt InChoice width old lines s = HoldsChoice width old lines s
HoldsAt (InVariant looseness demerits) width old lines s = HoldsVariant width looseness demerits old lines s

abbrev pub Holds : Option ℤ → List Block → List (List ℕ) → ReaderState → Type 0
Holds width old lines s = HoldsAt s.within width old lines s

module _ (width : Option ℤ) (old : List Block) (lines : List (List ℕ)) (line : List ℕ) (s u : ReaderState) where
  -- the state is known by an equation
  by_state : (within : Within) (x : ReaderState) → x.within ≡ within → x ≡ u →
      HoldsAt within width old (lines ++ line ∷ []) x → Holds width old (lines ++ line ∷ []) u
  by_state within x at same holds = subst (λ (y : ReaderState). Holds width old (lines ++ line ∷ []) y) same
      (subst (λ (w : Within). HoldsAt w width old (lines ++ line ∷ []) x) (sym at) holds)

  -- ---- an item

  one_says : (node : Node) → block_line line ≡ Ok (said.Item node) →
      SaysItem (line ∷ []) (node_item node (behind_point line))
  one_says node says = record {
    first = line;
    deeper = [];
    node = node;
    are = refl;
    says = says;
    goes_on = tt;
    is = ap (λ (text : List ℕ). node_item node text) (sym (append-nil (behind_point line)));
  }

  -- a barrier that is said by its line alone
  barrier_says : block_line line ≡ Ok said.Barrier → SaysBarrier (line ∷ []) (Carry barrier_body)
  barrier_says says = record {
    first = line;
    deeper = [];
    are = refl;
    says = says;
    goes_on = tt;
    is = ap Carry (sym (append-nil barrier_body));
  }

  -- an item between blocks
  block_step : (item : Item) → s.within ≡ Listing → HoldsBlocks width old lines s → SaysBlock (line ∷ []) (One item) →
      placed_block s item ≡ Ok u → Holds width old (lines ++ line ∷ []) u
  unfolding placed_block
  block_step item at holds says e =
      let (_, same) = if_said (nat_lt s.count item_limit)
      (record s { blocks = s.blocks ++ One item ∷ []; has_item = true; count = s.count + 1 }) u Limit e in
      by_state Listing (record s { blocks = s.blocks ++ One item ∷ []; has_item = true; count = s.count + 1 })
      at same (record {
        mine = holds.mine ++ One item ∷ [];
        kept = holds.kept;
        blocks = ap (λ (blocks : List Block). blocks ++ One item ∷ []) holds.blocks
            ∙ append_assoc old holds.mine (One item ∷ []);
        are = in_order_more SaysBlock lines (line ∷ []) holds.mine (One item) holds.are says;
        last = λ _. ends_more holds.mine item;
      })

  longer_cut : (front : List (List ℕ)) (begin : List ℕ) (inner : List (List ℕ)) (marker : List ℕ)
      (rest : List (List ℕ)) → lines ≡ front ++ (begin ∷ (inner ++ (marker ∷ rest))) →
      lines ++ line ∷ [] ≡ front ++ (begin ∷ (inner ++ (marker ∷ (rest ++ line ∷ []))))
  longer_cut front begin inner marker rest cut =
      ap (λ (l : List (List ℕ)). l ++ line ∷ []) cut
      ∙ append_assoc front (begin ∷ (inner ++ (marker ∷ rest))) (line ∷ [])
      ∙ ap (λ (l : List (List ℕ)). front ++ (begin ∷ l)) (append_assoc inner (marker ∷ rest) (line ∷ []))

  -- the variant that is open has one item more, or a longer one
  variant_grows : (looseness : ℤ) (demerits : ℕ) (items : List Item) (has_item : Bool) (count : ℕ) →
      s.within ≡ InVariant looseness demerits → record s { items = items; has_item = has_item; count = count } ≡ u →
      (holds : HoldsVariant width looseness demerits old lines s) → InOrder SaysItem (holds.rest ++ line ∷ []) items →
      1 ≤ length items → Holds width old (lines ++ line ∷ []) u
  variant_grows looseness demerits items has_item count at same holds are some =
      by_state (InVariant looseness demerits) (record s { items = items; has_item = has_item; count = count }) at same
      (record {
        mine = holds.mine;
        front = holds.front;
        begin = holds.begin;
        inner = holds.inner;
        marker = holds.marker;
        rest = holds.rest ++ line ∷ [];
        kept = holds.kept;
        blocks = holds.blocks;
        cut = longer_cut holds.front holds.begin holds.inner holds.marker holds.rest holds.cut;
        are = holds.are;
        begins = holds.begins;
        variants = holds.variants;
        says = holds.says;
        items = are;
        last = λ _. some;
        few = holds.few;
        shaped = holds.shaped;
        inserts = holds.inserts;
      })

  item_step : (within : Within) (node : Node) → s.within ≡ within → HoldsAt within width old lines s →
      block_line line ≡ Ok (said.Item node) → placed s within (node_item node (behind_point line)) ≡ Ok u →
      Holds width old (lines ++ line ∷ []) u
  unfolding placed placed_item
  item_step Outside node at holds says e = absurd holds
  item_step Listing node at holds says e =
      block_step (node_item node (behind_point line)) at holds (inl (one_says node says)) e
  item_step InChoice node at holds says e = absurd cc
  item_step (InVariant looseness demerits) node at holds says e =
      let (_, same) = if_said (nat_lt s.count item_limit)
      (record s { items = s.items ++ node_item node (behind_point line) ∷ []; has_item = true; count = s.count + 1 })
      u Limit e in
      let long = length-append s.items (node_item node (behind_point line) ∷ []) in
      variant_grows looseness demerits (s.items ++ node_item node (behind_point line) ∷ []) true (s.count + 1) at same
      holds (in_order_more SaysItem holds.rest (line ∷ []) s.items (node_item node (behind_point line)) holds.items
      (one_says node says)) (omega (arith, long))

  -- ---- a barrier

  barrier_step : (within : Within) → s.within ≡ within → HoldsAt within width old lines s →
      block_line line ≡ Ok said.Barrier → placed_barrier s within ≡ Ok u → Holds width old (lines ++ line ∷ []) u
  unfolding placed_barrier
  barrier_step Outside at holds says e = absurd holds
  barrier_step Listing at holds says e = block_step (Carry barrier_body) at holds (inr (barrier_says says)) e
  barrier_step InChoice at holds says e = absurd cc
  barrier_step (InVariant looseness demerits) at holds says e = absurd cc

  -- ---- a deeper line

  deeper_step : (within : Within) → s.within ≡ within → HoldsAt within width old lines s → IsDeeper line →
      longer_last s within (behind_point line) ≡ Ok u → Holds width old (lines ++ line ∷ []) u
  unfolding longer_last
  deeper_step Outside at holds deeper e = absurd holds
  deeper_step Listing at holds deeper e =
      let (has, same) = if_said s.has_item (last_extended s Listing (behind_point line)) u BadLine e in
      let ends = holds.last has in
      by_state Listing (record s { blocks = extended_blocks (behind_point line) s.blocks }) at same (record {
        mine = extended_blocks (behind_point line) holds.mine;
        kept = holds.kept;
        blocks = ap (extended_blocks (behind_point line)) holds.blocks
            ∙ longer_behind old holds.mine (behind_point line) ends;
        are = longer_blocks lines holds.mine line ends holds.are deeper;
        last = λ _. ends_longer holds.mine (behind_point line) ends;
      })
  deeper_step InChoice at holds deeper e =
      let (has, same) = if_said s.has_item (last_extended s InChoice (behind_point line)) u BadLine e in
      absurd (not_both s.has_item has holds.no_last)
  deeper_step (InVariant looseness demerits) at holds deeper e =
      let (has, same) = if_said s.has_item (last_extended s (InVariant looseness demerits) (behind_point line)) u BadLine e in
      let some = holds.last has in
      variant_grows looseness demerits (extended (behind_point line) s.items) s.has_item s.count at same holds
      (longer_items holds.rest s.items line some holds.items deeper)
      (longer_some s.items (behind_point line) some)

  -- ---- markers

  choice_step : (within : Within) → s.within ≡ within → HoldsAt within width old lines s →
      block_line line ≡ Ok said.ChoiceMark → begun_choice s within ≡ Ok u → Holds width old (lines ++ line ∷ []) u
  unfolding begun_choice
  choice_step Outside at holds says e = absurd holds
  choice_step Listing at holds says e =
      let same = ok_said (record s { within = InChoice; variants = []; items = []; has_item = false }) u e in
      by_state InChoice (record s { within = InChoice; variants = []; items = []; has_item = false }) refl same (record {
        mine = holds.mine;
        front = lines;
        begin = line;
        kept = holds.kept;
        blocks = holds.blocks;
        cut = refl;
        are = holds.are;
        begins = says;
        no_variants = refl;
        no_items = refl;
        no_last = refl;
      })
  choice_step InChoice at holds says e = absurd cc
  choice_step (InVariant looseness demerits) at holds says e = absurd cc

  -- the variant that was open
  closes : (looseness : ℤ) (demerits : ℕ) (t : ReaderState) → closed s looseness demerits ≡ Ok t →
      (is_shaped s.items ≡ true) × (fits_first s.variants s.items ≡ true) × (record s {
        variants = s.variants ++ record { looseness = looseness; demerits = demerits; items = s.items } ∷ [];
        items = [];
      } ≡ t)
  unfolding closed
  closes looseness demerits t e = outer (is_shaped s.items) refl e
    where
      inner : is_shaped s.items ≡ true → (b : Bool) → fits_first s.variants s.items ≡ b → (if b then Ok (record s {
        variants = s.variants ++ record { looseness = looseness; demerits = demerits; items = s.items } ∷ [];
        items = [];
      }) else Err ChoiceInserts) ≡ Ok t → (is_shaped s.items ≡ true) × (fits_first s.variants s.items ≡ true)
          × (record s {
            variants = s.variants ++ record { looseness = looseness; demerits = demerits; items = s.items } ∷ [];
            items = [];
          } ≡ t)
      inner shaped true fits e = (shaped, fits, ok_said _ t e)
      inner shaped false fits e = absurd cc

      outer : (b : Bool) → is_shaped s.items ≡ b → (if b then (if fits_first s.variants s.items then Ok (record s {
        variants = s.variants ++ record { looseness = looseness; demerits = demerits; items = s.items } ∷ [];
        items = [];
      }) else Err ChoiceInserts) else Err ChoiceShape) ≡ Ok t →
          (is_shaped s.items ≡ true) × (fits_first s.variants s.items ≡ true) × (record s {
            variants = s.variants ++ record { looseness = looseness; demerits = demerits; items = s.items } ∷ [];
            items = [];
          } ≡ t)
      outer true shaped e = inner shaped (fits_first s.variants s.items) refl e
      outer false shaped e = absurd cc

  module _ (looseness : ℤ) (demerits : ℕ) (holds : HoldsVariant width looseness demerits old lines s)
      (shaped : is_shaped s.items ≡ true) (fits : fits_first s.variants s.items ≡ true) where
    abbrev the_variant : Variant
    the_variant = record { looseness = looseness; demerits = demerits; items = s.items }

    variants_more : InOrder SaysVariant (holds.inner ++ (holds.marker ∷ holds.rest)) (s.variants ++ the_variant ∷ [])
    variants_more = in_order_more SaysVariant holds.inner (holds.marker ∷ holds.rest) s.variants the_variant
        holds.variants (record {
          marker = holds.marker;
          rest = holds.rest;
          are = refl;
          says = holds.says;
          items = holds.items;
        })

    shaped_more : AllByRecursion IsShaped (s.variants ++ the_variant ∷ [])
    shaped_more = all_append IsShaped s.variants (the_variant ∷ []) holds.shaped (shaped, tt)

    inserts_both : HaveSameInserts (s.variants ++ the_variant ∷ [])
    inserts_both = inserts_more s.variants the_variant holds.inserts fits

    cut_more : lines ++ line ∷ [] ≡ holds.front ++ (holds.begin ∷ ((holds.inner ++ (holds.marker ∷ holds.rest)) ++ line ∷ []))
    cut_more = ap (λ (l : List (List ℕ)). l ++ line ∷ []) holds.cut
        ∙ append_assoc holds.front (holds.begin ∷ (holds.inner ++ (holds.marker ∷ holds.rest))) (line ∷ [])

  variant_step : (within : Within) (looseness : ℤ) (demerits : ℕ) → s.within ≡ within →
      HoldsAt within width old lines s → block_line line ≡ Ok (said.VariantMark looseness demerits) →
      begun_variant s within looseness demerits ≡ Ok u → Holds width old (lines ++ line ∷ []) u
  unfolding begun_variant next_variant
  variant_step Outside looseness demerits at holds says e = absurd holds
  variant_step Listing looseness demerits at holds says e = absurd cc
  variant_step InChoice looseness demerits at holds says e =
      let (less, same) = if_said (nat_lt (length s.variants) 5)
      (record s { within = InVariant looseness demerits; has_item = false }) u Limit e in
      by_state (InVariant looseness demerits) (record s { within = InVariant looseness demerits; has_item = false }) refl
      same (record {
        mine = holds.mine;
        front = holds.front;
        begin = holds.begin;
        inner = [];
        marker = line;
        rest = [];
        kept = holds.kept;
        blocks = holds.blocks;
        cut = ap (λ (l : List (List ℕ)). l ++ line ∷ []) holds.cut
            ∙ append_assoc holds.front (holds.begin ∷ []) (line ∷ []);
        are = holds.are;
        begins = holds.begins;
        variants = subst (λ (variants : List Variant). InOrder SaysVariant [] variants) (sym holds.no_variants) refl;
        says = says;
        items = subst (λ (items : List Item). InOrder SaysItem [] items) (sym holds.no_items) refl;
        last = λ has. absurd cc;
        few = less_true (length s.variants) 5 less;
        shaped = subst (λ (variants : List Variant). AllByRecursion IsShaped variants) (sym holds.no_variants) tt;
        inserts = subst (λ (variants : List Variant). HaveSameInserts variants) (sym holds.no_variants) tt;
      })
  variant_step (InVariant before paid) looseness demerits at holds says e =
      let (t, closing, next) = said_inside (closed s before paid) (λ (t : ReaderState). next_variant t looseness demerits) u e in
      let (shaped, fits, is) = closes before paid t closing in
      let (less, same) = if_said (nat_lt (length t.variants) 5)
      (record t { within = InVariant looseness demerits; has_item = false }) u Limit next in
      let few : length t.variants < 5 = less_true (length t.variants) 5 less in
      by_state (InVariant looseness demerits) (record s {
        variants = s.variants ++ record { looseness = before; demerits = paid; items = s.items } ∷ [];
        items = [];
        within = InVariant looseness demerits;
        has_item = false;
      }) refl (ap (λ (x : ReaderState). record x { within = InVariant looseness demerits; has_item = false }) is ∙ same) (record {
        mine = holds.mine;
        front = holds.front;
        begin = holds.begin;
        inner = holds.inner ++ (holds.marker ∷ holds.rest);
        marker = line;
        rest = [];
        kept = holds.kept;
        blocks = holds.blocks;
        cut = cut_more before paid holds shaped fits;
        are = holds.are;
        begins = holds.begins;
        variants = variants_more before paid holds shaped fits;
        says = says;
        items = refl;
        last = λ has. absurd cc;
        few = (let long : length (s.variants ++ record { looseness = before; demerits = paid; items = s.items } ∷ [])
            ≡ length t.variants = ap (λ (x : ReaderState). length x.variants) is in omega (arith, long, few));
        shaped = shaped_more before paid holds shaped fits;
        inserts = inserts_both before paid holds shaped fits;
      })

  end_step : (within : Within) → s.within ≡ within → HoldsAt within width old lines s →
      block_line line ≡ Ok said.EndMark → ended_choice s within ≡ Ok u → Holds width old (lines ++ line ∷ []) u
  unfolding ended_choice whole_choice
  end_step Outside at holds says e = absurd holds
  end_step Listing at holds says e = absurd cc
  end_step InChoice at holds says e = absurd cc
  end_step (InVariant before paid) at holds says e =
      let (t, closing, whole) = said_inside (closed s before paid) whole_choice u e in
      let (shaped, fits, is) = closes before paid t closing in
      let same = ok_said (record t {
        blocks = t.blocks ++ Choice t.variants ∷ [];
        variants = [];
        within = Listing;
        has_item = false;
      }) u whole in
      let long = length-append s.variants (record { looseness = before; demerits = paid; items = s.items } ∷ []) in
      let few = holds.few in
      by_state Listing (record s {
        blocks = s.blocks ++ Choice (s.variants ++ record { looseness = before; demerits = paid; items = s.items } ∷ []) ∷ [];
        variants = [];
        items = [];
        within = Listing;
        has_item = false;
      }) refl (ap (λ (x : ReaderState). record x {
        blocks = x.blocks ++ Choice x.variants ∷ [];
        variants = [];
        within = Listing;
        has_item = false;
      }) is ∙ same) (record {
        mine = holds.mine ++ Choice (s.variants ++ record { looseness = before; demerits = paid; items = s.items } ∷ []) ∷ [];
        kept = holds.kept;
        blocks = ap (λ (blocks : List Block). blocks
            ++ Choice (s.variants ++ record { looseness = before; demerits = paid; items = s.items } ∷ []) ∷ []) holds.blocks
            ∙ append_assoc old holds.mine
            (Choice (s.variants ++ record { looseness = before; demerits = paid; items = s.items } ∷ []) ∷ []);
        are = subst (λ (l : List (List ℕ)). InOrder SaysBlock l (holds.mine
            ++ Choice (s.variants ++ record { looseness = before; demerits = paid; items = s.items } ∷ []) ∷ []))
            (sym (cut_more before paid holds shaped fits))
            (in_order_more SaysBlock holds.front
            (holds.begin ∷ ((holds.inner ++ (holds.marker ∷ holds.rest)) ++ line ∷ [])) holds.mine
            (Choice (s.variants ++ record { looseness = before; demerits = paid; items = s.items } ∷ [])) holds.are
            (record {
              begin = holds.begin;
              inner = holds.inner ++ (holds.marker ∷ holds.rest);
              last = line;
              are = refl;
              begins = holds.begins;
              ends = says;
              each = variants_more before paid holds shaped fits;
              some = omega (arith, long);
              few = omega (arith, long, few);
              shaped = shaped_more before paid holds shaped fits;
              inserts = inserts_both before paid holds shaped fits;
            }));
        last = λ has. absurd cc;
      })

  -- ---- any line of a listing

  said_step : (it : ParsedLine) → IsListedSaid it → Holds width old lines s → block_line line ≡ Ok it →
      step s it line ≡ Ok u → Holds width old (lines ++ line ∷ []) u
  unfolding step
  said_step said.Nothing listed holds says e = absurd listed
  said_step said.Blank listed holds says e = absurd listed
  said_step (said.Root wide) listed holds says e = absurd listed
  said_step (said.Item node) listed holds says e = item_step s.within node refl holds says e
  said_step said.Barrier listed holds says e = barrier_step s.within refl holds says e
  said_step said.Deeper listed holds says e = deeper_step s.within refl holds says e
  said_step said.ChoiceMark listed holds says e = choice_step s.within refl holds says e
  said_step (said.VariantMark looseness demerits) listed holds says e =
      variant_step s.within looseness demerits refl holds says e
  said_step said.EndMark listed holds says e = end_step s.within refl holds says e

  pub holds_step : Holds width old lines s → line_read false s line ≡ Ok u → Holds width old (lines ++ line ∷ []) u
  unfolding line_read said_in
  holds_step holds e =
      let (it, says, steps) = said_inside (block_line line) (λ (it : ParsedLine). step s it line) u e in
      said_step it (block_listed line it says) holds says steps
