-- What is read shows itself: each item that a text says has a body that says it again.
use Rattle.std.proofs.Common.{◌≡◌, ◌∙◌, ◌+◌, ℕ, ap, sym, List, [], ◌∷◌, ◌++◌, refl, length, take, drop, true, false, subst, inl, inr, append_assoc, append-nil, Bool}
use Rattle.std.specs.Prelude.{⊤, ◌⊎◌, Result, Ok, Err, Option, Some, None, ℤ, nat_lt, IfOk, codes, if◌then◌else◌}
use Rattle.std.specs.List.{AllByRecursion}
use Rattle.std.specs.Str.{bytes_eq}
use Rattle.std.proofs.lemmas.Slice.Eq.{bytes_eq-Decides}
use Rattle.std.proofs.lemmas.Bool.{cases_Bool}
use Rattle.std.proofs.lemmas.List.{take-append-drop}
use Rattle.pg_list.specs.Barrier.{barrier_body}
use Rattle.pg_list.specs.declared.item.Item.{Item}
use Rattle.pg_list.specs.declared.item.Item.TheVariants.{Carry}
use Rattle.pg_list.specs.declared.variants.Variant.{Variant}
use Rattle.pg_list.specs.declared.blocks.Block.{Block}
use Rattle.pg_list.specs.declared.blocks.Block.TheVariants as block
use Rattle.pg_list.specs.Bodies.{with_line, block_with_line, extended, extended_blocks}
use Rattle.pg_list.specs.Counts.{item_limit}
use Rattle.pg_list.specs.Shapes.{is_shaped, fits_first}
use Rattle.pg_showbox.specs.declared.kinds.ListKind.{ListKind}
use Rattle.pg_showbox.specs.declared.kinds.ListKind.TheVariants.{BadLine, ChoiceInserts, Limit, Truncated}
use Rattle.pg_showbox.specs.declared.kinds.ListFault.{ListFault}
use Rattle.pg_scan.specs.Lines.{Line, IsClean, raw_lines, joined}
use Rattle.pg_showbox.specs.Parts.{◌>>=◌, past_size, due, size_at}
use Rattle.pg_scan.specs.Parts.{after, past, on}
use Rattle.pg_scan.proofs.CleanLines.{IsCleanLine, joined_clean}
use Rattle.pg_showbox.specs.declared.parsed.ParsedLine.{ParsedLine}
use Rattle.pg_showbox.specs.declared.parsed.ParsedLine.TheVariants as said
use Rattle.pg_showbox.specs.declared.state.ReaderState.{ReaderState}
use Rattle.pg_showbox.specs.declared.state.Within.{Within}
use Rattle.pg_showbox.specs.declared.state.Within.TheVariants.{Outside, Listing, InChoice, InVariant}
use Rattle.pg_showbox.specs.Nodes.{node_item}
use Rattle.pg_showbox.specs.ParsedLine.{root_at, ends_cut, pointed_at, block_line, listing_line, galley_line}
use Rattle.pg_showbox.specs.State.{started, placed, placed_barrier, placed_block, placed_item, longer_last, last_extended, closed, ended, begun_listing, begun_choice, begun_variant, next_variant, whole_choice, ended_choice, or_first, step}
use Rattle.pg_showbox.specs.Reading.{at_line, then_ok, in_listing, said_in, line_read, run, all_read}
use Rattle.pg_showbox.specs.Shown.{IsDeeper, IsShown, IsShownBarrier, IsShownBlock, deeper_text}
use Rattle.pg_showbox.proofs.StateLemmas.{if_ok, bind_ok}
use Rattle.pg_showbox.proofs.ReadBack.{longer_node, past_point}
use Rattle.pg_lemmas.proofs.Lists.{all_append}

-- a deeper line more
deeper_snoc : (lines : List (List ℕ)) (line : List ℕ) → deeper_text lines ++ 10 ∷ line ≡ deeper_text
    (lines ++ line ∷ [])
deeper_snoc [] line = ap (λ (l : List ℕ). 10 ∷ l) (sym (append-nil line))
deeper_snoc (l ∷ lines) line =
    ap (λ (t : List ℕ). 10 ∷ t) (append_assoc l (deeper_text lines) (10 ∷ line)
    ∙ ap (λ (t : List ℕ). l ++ t) (deeper_snoc lines line))

longer_shown : (line : List ℕ) (item : Item) → IsDeeper line → IsShown item → IsShown (with_line line item)
longer_shown line item deeper h = record {
  node = h.node;
  first = h.first;
  deeper = h.deeper ++ line ∷ [];
  clean = h.clean;
  says = h.says;
  each = all_append IsDeeper h.deeper (line ∷ []) h.each (deeper, tt);
  is = ap (with_line line) h.is ∙ longer_node h.node (h.first ++ deeper_text h.deeper) line
      ∙ ap (node_item h.node) (append_assoc h.first (deeper_text h.deeper) (10 ∷ line)
      ∙ ap (λ (t : List ℕ). h.first ++ t) (deeper_snoc h.deeper line));
}

barrier_longer : (line : List ℕ) (item : Item) → IsDeeper line → IsShownBarrier item
    → IsShownBarrier (with_line line item)
barrier_longer line item deeper h = record {
  deeper = h.deeper ++ line ∷ [];
  each = all_append IsDeeper h.deeper (line ∷ []) h.each (deeper, tt);
  is = ap (with_line line) h.is
      ∙ ap Carry (append_assoc barrier_body (deeper_text h.deeper) (10 ∷ line)
      ∙ ap (λ (t : List ℕ). barrier_body ++ t) (deeper_snoc h.deeper line));
}

extended_shown : (line : List ℕ) (items : List Item) → IsDeeper line → AllByRecursion IsShown items
    → AllByRecursion IsShown (extended line items)
extended_shown line [] deeper h = tt
extended_shown line (item ∷ []) deeper h = (longer_shown line item deeper h.0, tt)
extended_shown line (item ∷ next ∷ items) deeper h = (h.0, extended_shown line (next ∷ items) deeper h.1)

block_longer : (line : List ℕ) (b : Block) → IsDeeper line → IsShownBlock b → IsShownBlock (block_with_line line b)
block_longer line (block.One item) deeper (inl h) = inl (longer_shown line item deeper h)
block_longer line (block.One item) deeper (inr h) = inr (barrier_longer line item deeper h)
block_longer line (block.Choice variants) deeper h = h

blocks_longer : (line : List ℕ) (blocks : List Block) → IsDeeper line → AllByRecursion IsShownBlock blocks
    → AllByRecursion IsShownBlock (extended_blocks line blocks)
blocks_longer line [] deeper h = tt
blocks_longer line (b ∷ []) deeper h = (block_longer line b deeper h.0, tt)
blocks_longer line (b ∷ next ∷ blocks) deeper h = (h.0, blocks_longer line (next ∷ blocks) deeper h.1)

-- ---- what a line says

-- what says neither an item nor a deeper line
abbrev IsMark : ParsedLine → Type 0
IsMark said.Nothing = ⊤
IsMark said.Blank = ⊤
IsMark (said.Root width) = ⊤
IsMark (said.Item node) = ⊥
IsMark said.Barrier = ⊤
IsMark said.Deeper = ⊥
IsMark said.ChoiceMark = ⊤
IsMark (said.VariantMark looseness demerits) = ⊤
IsMark said.EndMark = ⊤

bind_marks : {A : Type 0} (r : Result A ListKind) (f : A → Result ParsedLine ListKind) → ((x : A) → IfOk (f x) IsMark)
    → IfOk (r >>= f) IsMark
bind_marks (Ok x) f h = h x
bind_marks (Err kind) f h = tt

root_marks : (line sizes : List ℕ) → IfOk (root_at line sizes) IsMark
unfolding root_at
root_marks line sizes =
    bind_marks (past_size sizes) _
    (λ plus. bind_marks (due (codes "+") plus) _ (λ depth. bind_marks (past_size depth) _ (λ close.
    bind_marks (due (codes ")x") close) _ (λ width. bind_marks (size_at width) _ (λ size.
    elim (ends_cut line) as (λ b. IfOk {T = ParsedLine} {E = ListKind} (if b then Err Truncated else Ok (said.Root size.0))
    IsMark) [ true ↦ tt | false ↦ tt ])))))

after_is : (text bytes rest : List ℕ) → after text bytes ≡ Some rest → bytes ≡ text ++ rest
unfolding after
after_is text bytes rest e = elim (cases_Bool (bytes_eq (take (length text) bytes) text)) [
  | inl same ↦
      let some = rw same at e in
      let front : take (length text) bytes ≡ text = (bytes_eq-Decides (take (length text) bytes) text).0 same in
      let back : drop (length text) bytes ≡ rest = cc in
      sym (take-append-drop (length text) bytes) ∙ ap (λ (t : List ℕ). t ++ drop (length text) bytes) front
      ∙ ap (λ (t : List ℕ). text ++ t) back
  | inr other ↦ let none = rw other at e in absurd (cc)
]

on_ok : (o : Option (List ℕ)) (f : List ℕ → Result ParsedLine ListKind) (other : Result ParsedLine ListKind) (y : ParsedLine)
    → on o f other ≡ Ok y
    → ((bytes : List ℕ) × (o ≡ Some bytes) × (f bytes ≡ Ok y)) ⊎ (other ≡ Ok y)
on_ok None f other y e = inr e
on_ok (Some bytes) f other y e = inl (bytes, refl, e)

-- a line with a point in front that says this behind it
abbrev Pointed : List ℕ → ParsedLine → Type 0
Pointed line what = (first : List ℕ) × (line ≡ 46 ∷ first) × (pointed_at first ≡ Ok what)

block_pointed : (line : List ℕ) (what : ParsedLine) → block_line line ≡ Ok what → Pointed line what
unfolding block_line
block_pointed line what e = elim (on_ok (after (codes ".") line) pointed_at (Err BadLine) what e) [
  | inl found ↦ (found.0, after_is (codes ".") line found.0 found.1, found.2)
  | inr wrong ↦ absurd (cc)
]

listing_pointed : (inside : Bool) (line : List ℕ) (what : ParsedLine) → listing_line inside line ≡ Ok what
    → IsMark what ⊎ Pointed line what
unfolding listing_line
listing_pointed false line what e = inl (let is : Ok said.Nothing ≡ Ok what = e in let same : said.Nothing ≡ what =
    cc in subst IsMark same tt)
listing_pointed true line what e = elim (cases_Bool (bytes_eq line [])) [
  | inl blank ↦ let is = rw blank at e in let same : said.Blank ≡ what = cc in inl (subst IsMark same tt)
  | inr other ↦ inr (block_pointed line what (rw other at e))
]

galley_pointed : (inside : Bool) (line : List ℕ) (what : ParsedLine) → galley_line inside line ≡ Ok what
    → IsMark what ⊎ Pointed line what
unfolding galley_line
galley_pointed inside line what e =
    elim (on_ok (after (codes "\\vbox(") line) (root_at line) (listing_line inside line) what e) [
      | inl found ↦ inl (subst (λ (r : Result ParsedLine ListKind). IfOk r IsMark) found.2 (root_marks line found.0))
      | inr other ↦ listing_pointed inside line what other
    ]

said_pointed : (is_file : Bool) (within : Within) (line : List ℕ) (what : ParsedLine)
    → said_in is_file within line ≡ Ok what → IsMark what ⊎ Pointed line what
unfolding said_in
said_pointed true within line what e = galley_pointed (in_listing within) line what e
said_pointed false within line what e = inr (block_pointed line what e)

item_shown : (line first : List ℕ) (node : _) → IsClean line → line ≡ 46 ∷ first
    → pointed_at first ≡ Ok (said.Item node) → IsShown (node_item node (past (codes ".") line))
item_shown line first node clean is says =
    let body : past (codes ".") line ≡ first = ap (past (codes ".")) is ∙ past_point first in
    record {
      node = node;
      first = first;
      deeper = [];
      clean = subst IsClean is clean;
      says = says;
      each = tt;
      is = ap (node_item node) (body ∙ sym (append-nil first));
    }

line_deeper : (line first : List ℕ) → IsClean line → line ≡ 46 ∷ first → pointed_at first ≡ Ok said.Deeper
    → IsDeeper (past (codes ".") line)
line_deeper line first clean is says =
    let body : past (codes ".") line ≡ first = ap (past (codes ".")) is ∙ past_point first in
    subst IsDeeper (sym body) (record { clean = subst IsClean is clean; says = says })

-- ---- what each step keeps

abbrev pub IsShownVariant : Variant → Type 0
IsShownVariant variant = AllByRecursion IsShown variant.items

pub record AreShown (s : ReaderState) : Type 0 where
  pub blocks : AllByRecursion IsShownBlock s.blocks
  pub variants : AllByRecursion IsShownVariant s.variants
  pub items : AllByRecursion IsShown s.items

placed_block_shown : (s t : ReaderState) (item : Item) → AreShown s → IsShownBlock (block.One item)
    → placed_block s item ≡ Ok t → AreShown t
unfolding placed_block
placed_block_shown s t item h is e =
    let p = if_ok (nat_lt s.count item_limit)
    (record s { blocks = s.blocks ++ block.One item ∷ []; has_item = true; count = s.count + 1 }) t Limit e in
    subst AreShown p.1 (record {
      blocks = all_append IsShownBlock s.blocks (block.One item ∷ []) h.blocks (is, tt);
      variants = h.variants;
      items = h.items;
    })

placed_item_shown : (s t : ReaderState) (item : Item) → AreShown s → IsShown item → placed_item s item ≡ Ok t → AreShown t
unfolding placed_item
placed_item_shown s t item h is e =
    let p = if_ok (nat_lt s.count item_limit)
    (record s { items = s.items ++ item ∷ []; has_item = true; count = s.count + 1 }) t Limit e in
    subst AreShown p.1
    (record {
      blocks = h.blocks;
      variants = h.variants;
      items = all_append IsShown s.items (item ∷ []) h.items
          (is, tt);
    })

placed_shown : (s t : ReaderState) (within : Within) (item : Item) → AreShown s → IsShown item → placed s within item ≡ Ok t
    → AreShown t
unfolding placed
placed_shown s t Outside item h is e = absurd (cc)
placed_shown s t Listing item h is e = placed_block_shown s t item h (inl is) e
placed_shown s t InChoice item h is e = absurd (cc)
placed_shown s t (InVariant l d) item h is e = placed_item_shown s t item h is e

barrier_shown : (s t : ReaderState) (within : Within) → AreShown s → placed_barrier s within ≡ Ok t → AreShown t
unfolding placed_barrier
barrier_shown s t Outside h e = absurd (cc)
barrier_shown s t Listing h e = placed_block_shown s t (Carry barrier_body) h
    (inr (record { deeper = []; each = tt; is = ap Carry (sym (append-nil barrier_body)) })) e
barrier_shown s t InChoice h e = absurd (cc)
barrier_shown s t (InVariant l d) h e = absurd (cc)

block_longer_shown : (s : ReaderState) (line : List ℕ) → AreShown s → IsDeeper line
    → AreShown (record s { blocks = extended_blocks line s.blocks })
block_longer_shown s line h deeper = record {
  blocks = blocks_longer line s.blocks deeper h.blocks;
  variants =
      h.variants;
  items = h.items;
}

last_shown : (s : ReaderState) (within : Within) (line : List ℕ) → AreShown s → IsDeeper line
    → AreShown (last_extended s within line)
last_shown s Outside line h deeper = block_longer_shown s line h deeper
last_shown s Listing line h deeper = block_longer_shown s line h deeper
last_shown s InChoice line h deeper = block_longer_shown s line h deeper
last_shown s (InVariant l d) line h deeper = record {
  blocks = h.blocks;
  variants = h.variants;
  items =
      extended_shown line s.items deeper h.items;
}

longer_last_shown : (s t : ReaderState) (within : Within) (line : List ℕ) → AreShown s → IsDeeper line
    → longer_last s within line ≡ Ok t → AreShown t
unfolding longer_last
longer_last_shown s t within line h deeper e =
    let p = if_ok s.has_item (last_extended s within line) t BadLine e in
    subst AreShown p.1 (last_shown s within line h deeper)

closed_shown : (s t : ReaderState) (l : ℤ) (d : ℕ) → AreShown s → closed s l d ≡ Ok t → AreShown t
unfolding closed
closed_shown s t l d h e = elim (cases_Bool (is_shaped s.items)) [
  | inl shaped ↦
      let variant : Variant = record { looseness = l; demerits = d; items = s.items } in
      let p = if_ok (fits_first s.variants s.items)
      (record s {
        variants = s.variants ++ record { looseness = l; demerits = d; items = s.items } ∷ [];
        items =
            [];
      }) t ChoiceInserts (rw shaped at e) in
      subst AreShown p.1
      (record {
        blocks = h.blocks;
        variants = all_append IsShownVariant s.variants (variant ∷ []) h.variants
            (h.items, tt);
        items = tt;
      })
  | inr not_shaped ↦ let wrong = rw not_shaped at e in absurd (cc)
]

next_variant_shown : (s t : ReaderState) (l : ℤ) (d : ℕ) → AreShown s → next_variant s l d ≡ Ok t → AreShown t
unfolding next_variant
next_variant_shown s t l d h e =
    let p = if_ok (nat_lt (length s.variants) 5) (record s { within = InVariant l d; has_item = false }) t Limit e in
    subst AreShown p.1 (record { blocks = h.blocks; variants = h.variants; items = h.items })

begun_variant_shown : (s t : ReaderState) (within : Within) (l : ℤ) (d : ℕ) → AreShown s → begun_variant s within l d ≡ Ok t
    → AreShown t
unfolding begun_variant
begun_variant_shown s t Outside l d h e = absurd (cc)
begun_variant_shown s t Listing l d h e = absurd (cc)
begun_variant_shown s t InChoice l d h e = next_variant_shown s t l d h e
begun_variant_shown s t (InVariant l' d') l d h e =
    let p = bind_ok (closed s l' d') (λ x. next_variant x l d) t e in
    next_variant_shown p.0 t l d (closed_shown s p.0 l' d' h p.1) p.2

whole_choice_shown : (s t : ReaderState) → AreShown s → whole_choice s ≡ Ok t → AreShown t
unfolding whole_choice
whole_choice_shown s t h e =
    let is : record s {
      blocks = s.blocks ++ block.Choice s.variants ∷ [];
      variants = [];
      within = Listing;
      has_item =
          false;
    } ≡ t = cc in
    subst AreShown is
    (record {
      blocks = all_append IsShownBlock s.blocks (block.Choice s.variants ∷ []) h.blocks (h.variants, tt);
      variants = tt;
      items = h.items;
    })

ended_choice_shown : (s t : ReaderState) (within : Within) → AreShown s → ended_choice s within ≡ Ok t → AreShown t
unfolding ended_choice
ended_choice_shown s t Outside h e = absurd (cc)
ended_choice_shown s t Listing h e = absurd (cc)
ended_choice_shown s t InChoice h e = absurd (cc)
ended_choice_shown s t (InVariant l d) h e =
    let p = bind_ok (closed s l d) whole_choice t e in
    whole_choice_shown p.0 t (closed_shown s p.0 l d h p.1) p.2

ended_shown : (s t : ReaderState) (within : Within) → AreShown s → ended s within ≡ Ok t → AreShown t
unfolding ended
ended_shown s t Outside h e = let is : s ≡ t = cc in subst AreShown is h
ended_shown s t Listing h e =
    let is : record s { within = Outside; has_item = false } ≡ t = cc in
    subst AreShown is (record { blocks = h.blocks; variants = h.variants; items = h.items })
ended_shown s t InChoice h e = absurd (cc)
ended_shown s t (InVariant l d) h e = absurd (cc)

begun_listing_shown : (s t : ReaderState) (width : ℤ) → AreShown s → begun_listing s width ≡ Ok t → AreShown t
unfolding begun_listing
begun_listing_shown s t width h e =
    let p = bind_ok (ended s s.within)
    (λ x. Ok (record x { within = Listing; has_item = false; width = or_first x.width width })) t e in
    let x = p.0 in
    let kept = ended_shown s x s.within h p.1 in
    let last = p.2 in
    let is : record x { within = Listing; has_item = false; width = or_first x.width width } ≡ t = cc in
    subst AreShown is (record { blocks = kept.blocks; variants = kept.variants; items = kept.items })

begun_choice_shown : (s t : ReaderState) (within : Within) → AreShown s → begun_choice s within ≡ Ok t → AreShown t
unfolding begun_choice
begun_choice_shown s t Outside h e = absurd (cc)
begun_choice_shown s t Listing h e =
    let is : record s { within = InChoice; variants = []; items = []; has_item = false } ≡ t = cc in
    subst AreShown is (record { blocks = h.blocks; variants = tt; items = tt })
begun_choice_shown s t InChoice h e = absurd (cc)
begun_choice_shown s t (InVariant l d) h e = absurd (cc)

step_shown : (s t : ReaderState) (what : ParsedLine) (line : List ℕ) → IsClean line → (IsMark what ⊎ Pointed line what)
    → AreShown s → step s what line ≡ Ok t → AreShown t
unfolding step
step_shown s t said.Nothing line clean p h e = let is : s ≡ t = cc in subst AreShown is h
step_shown s t said.Blank line clean p h e = ended_shown s t s.within h e
step_shown s t (said.Root width) line clean p h e = begun_listing_shown s t width h e
step_shown s t (said.Item node) line clean (inl wrong) h e = absurd wrong
step_shown s t (said.Item node) line clean (inr p) h e =
    placed_shown s t s.within (node_item node (past (codes ".") line)) h (item_shown line p.0 node clean p.1 p.2) e
step_shown s t said.Barrier line clean p h e = barrier_shown s t s.within h e
step_shown s t said.Deeper line clean (inl wrong) h e = absurd wrong
step_shown s t said.Deeper line clean (inr p) h e =
    longer_last_shown s t s.within (past (codes ".") line) h (line_deeper line p.0 clean p.1 p.2) e
step_shown s t said.ChoiceMark line clean p h e = begun_choice_shown s t s.within h e
step_shown s t (said.VariantMark l d) line clean p h e = begun_variant_shown s t s.within l d h e
step_shown s t said.EndMark line clean p h e = ended_choice_shown s t s.within h e

-- ---- all lines

said_ok : (r : Result ParsedLine ListKind) (f : ParsedLine → Result ReaderState ListKind) (t : ReaderState) → (r >>= f) ≡ Ok t
    → (x : ParsedLine) × (r ≡ Ok x) × (f x ≡ Ok t)
said_ok (Ok x) f t e = (x, refl, e)
said_ok (Err kind) f t e = absurd (cc)

line_shown : (is_file : Bool) (s t : ReaderState) (line : List ℕ) → IsClean line → AreShown s
    → line_read is_file s line ≡ Ok t → AreShown t
unfolding line_read
line_shown is_file s t line clean h e =
    let p = said_ok (said_in is_file s.within line) (λ what. step s what line) t e in
    step_shown s t p.0 line clean (said_pointed is_file s.within line p.0 p.1) h p.2

pub then_is : {A B : Type 0} (r : Result A ListFault) (f : A → Result B ListFault) (y : B) → then_ok r f ≡ Ok y
    → (x : A) × (r ≡ Ok x) × (f x ≡ Ok y)
then_is (Ok x) f y e = (x, refl, e)
then_is (Err fault) f y e = absurd (cc)

at_line_is : (n : ℕ) (r : Result ReaderState ListKind) (t : ReaderState) → at_line n r ≡ Ok t → r ≡ Ok t
at_line_is n (Ok x) t e = cc
at_line_is n (Err kind) t e = absurd (cc)

run_shown : (is_file : Bool) (s t : ReaderState) (lines : List Line) → AllByRecursion IsCleanLine lines → AreShown s
    → run is_file s lines ≡ Ok t → AreShown t
unfolding run
run_shown is_file s t [] clean h e = let is : s ≡ t = cc in subst AreShown is h
run_shown is_file s t (line ∷ lines) clean h e =
    let p = then_is (at_line line.number (line_read is_file s line.text)) (λ u. run is_file u lines) t e in
    run_shown is_file p.0 t lines clean.1
    (line_shown is_file s p.0 line.text clean.0 h
    (at_line_is line.number (line_read is_file s line.text) p.0 p.1)) p.2

started_shown : (within : Within) → AreShown (started within)
started_shown within = record { blocks = tt; variants = tt; items = tt }

all_shown : (is_file : Bool) (wrap : Option ℕ) (first : ℕ) (text : List ℕ) (within : Within) (t : ReaderState)
    → all_read is_file wrap first text (started within) ≡ Ok t → AreShown t
unfolding all_read
all_shown is_file wrap first text within t e =
    let p = then_is (run is_file (started within) (joined wrap first (raw_lines text)))
    (λ u. at_line (first + length (raw_lines text)) (ended u u.within)) t e in
    let ran = run_shown is_file (started within) p.0 (joined wrap first (raw_lines text))
    (joined_clean wrap first text) (started_shown within) p.1 in
    ended_shown p.0 t p.0.within ran (at_line_is (first + length (raw_lines text)) (ended p.0 p.0.within) t p.2)

-- blocks that are read show their items
pub read_shown : (is_file : Bool) (wrap : Option ℕ) (first : ℕ) (text : List ℕ) (within : Within) (t : ReaderState)
    → all_read is_file wrap first text (started within) ≡ Ok t → AllByRecursion IsShownBlock t.blocks
read_shown is_file wrap first text within t e = (all_shown is_file wrap first text within t e).blocks
