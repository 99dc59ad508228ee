-- What the listings of a file say is read of it.
use Rattle.std.proofs.Common.{◌≡◌, ◌∙◌, refl, sym, ap, subst, arith, inl, inr, ℕ, zero, suc, ◌+◌, ◌≤◌, ◌<◌, Bool, true, false, List, [], ◌∷◌, ◌++◌, length, drop, append-nil, append_assoc, length-append, Option, Some, None}
use Rattle.std.specs.Prelude.{◌==◌, ◌&&◌, ◌||◌, codes, if◌then◌else◌, is_some, nat_lt, not, take_while, Result, Ok, Err, ℤ}
use Rattle.std.specs.List.{AllByRecursion, sum_by}
use Rattle.std.specs.Str.{bytes_eq}
use Rattle.std.proofs.lemmas.Bool.{eqb-true}
use Rattle.std.proofs.lemmas.List.Sums.{sum_by-append, sum_by-cons}
use Rattle.pg_lemmas.proofs.Bools.{by_bool, if_false, if_true}
use Rattle.pg_lemmas.proofs.Lists.{some_is}
use Rattle.pg_lemmas.proofs.Numbers.{less_of}
use Rattle.pg_list.specs.Barrier.{barrier_body}
use Rattle.pg_list.specs.declared.item.Item.{Item}
use Rattle.pg_list.specs.declared.item.Item.TheVariants.{Carry}
use Rattle.pg_list.specs.declared.variants.Variant.{Variant}
use Rattle.pg_list.specs.declared.blocks.Block.{Block}
use Rattle.pg_list.specs.declared.blocks.Block.TheVariants.{One, Choice}
use Rattle.pg_list.specs.Bodies.{extended, extended_blocks, with_line}
use Rattle.pg_list.specs.Counts.{block_size, item_count, item_limit}
use Rattle.pg_list.specs.Shapes.{fits_first, is_shaped}
use Rattle.pg_scan.specs.Parts.{after, on}
use Rattle.pg_showbox.specs.Nodes.{node_item}
use Rattle.pg_showbox.specs.ParsedLine.{block_line, galley_line, listing_line, pointed_at, root_at}
use Rattle.pg_showbox.specs.Parts.{◌>>=◌}
use Rattle.pg_showbox.specs.Reading.{in_listing, line_read, said_in}
use Rattle.pg_showbox.specs.State.{begun_choice, begun_listing, begun_variant, closed, ended, ended_choice, longer_last, next_variant, or_first, placed, placed_barrier, placed_block, placed_item, started, step, whole_choice}
use Rattle.pg_showbox.specs.declared.kinds.ListKind.{ListKind}
use Rattle.pg_showbox.specs.declared.kinds.ListKind.TheVariants.{BadLine, Limit}
use Rattle.pg_showbox.specs.declared.node.Node.{Node}
use Rattle.pg_showbox.specs.declared.node.Node.TheVariants as node
use Rattle.pg_showbox.specs.declared.parsed.ParsedLine.{ParsedLine}
use Rattle.pg_showbox.specs.declared.parsed.ParsedLine.TheVariants as said
use Rattle.pg_showbox.specs.declared.state.ReaderState.{ReaderState}
use Rattle.pg_showbox.specs.declared.state.Within.{Within}
use Rattle.pg_showbox.specs.declared.state.Within.TheVariants.{Outside, Listing, InChoice, InVariant}
use Rattle.pg_showbox.proofs.ReadBack.{longer_node}
use Rattle.law_readers.specs.Galleys.{HasWidth, HaveSameInserts, IsDeeper, IsFirstWidth, IsShaped, Listing as AListing, ListingsAreRead, SaysBarrier, SaysBlock, SaysBlocks, SaysChoice, SaysItem, SaysVariant, begins_listing, behind_point, further_lines, is_listed, listings}
use Rattle.law_readers.specs.InOrder.{InOrder}
use Rattle.law_readers.specs.LinesRead.{lines_read}
use Rattle.law_readers.proofs.Behind.{BeginsBehind, behind, behind_begins, behind_more, behind_none, behind_shorter, front_behind}
use Rattle.law_readers.proofs.Ordered.{longer_behind}
use Rattle.law_readers.proofs.Through.{Through, leads_galley, no_root, outside_line, through_both}

-- ---- a line that says something in a listing

pointed : (line : List ℕ) (it : ParsedLine) → block_line line ≡ Ok it → is_some (after (codes ".") line) ≡ true
unfolding block_line
pointed line it e = by (after (codes ".") line) e
  where
    by : (o : Option (List ℕ)) → on o pointed_at (Err BadLine) ≡ Ok it → is_some o ≡ true
    by None e = absurd cc
    by (Some bytes) e = refl

-- it begins with a point, so it is no root and not empty
point_listed : (line : List ℕ) → is_some (after (codes ".") line) ≡ true →
    (begins_listing line ≡ false) × (bytes_eq line [] ≡ false)
unfolding after
point_listed [] point = absurd cc
point_listed (c ∷ cs) point = by (c == 46) refl point
  where
    by : (b : Bool) → (c == 46) ≡ b → is_some (if b && true then Some (drop 1 (c ∷ cs)) else None) ≡ true →
        (begins_listing (c ∷ cs) ≡ false) × (bytes_eq (c ∷ cs) [] ≡ false)
    by true is point =
        let same : c ≡ 46 = eqb-true c 46 is in
        (subst (λ (x : ℕ). begins_listing (x ∷ cs) ≡ false) (sym same) refl, refl)
    by false is point = absurd cc

read_listed : (is_file : Bool) (s : ReaderState) (line : List ℕ) (it : ParsedLine) → in_listing s.within ≡ true →
    block_line line ≡ Ok it → line_read is_file s line ≡ step s it line
unfolding line_read said_in galley_line listing_line
read_listed false s line it inside says =
    ap (λ (r : Result ParsedLine ListKind). r >>= (λ it. step s it line)) says
read_listed true s line it inside says =
    let (root, some) = point_listed line (pointed line it says) in
    ap (λ (r : Result ParsedLine ListKind). r >>= (λ it. step s it line))
    (no_root line (root_at line) (listing_line (in_listing s.within) line) root
    ∙ ap (λ (b : Bool). listing_line b line) inside
    ∙ if_false (bytes_eq line []) (Ok said.Blank) (block_line line) some ∙ says)

inside_of : (within at : Within) → at ≡ within → in_listing within ≡ true → in_listing at ≡ true
inside_of within at same inside = ap in_listing same ∙ inside

one_count : (block : Block) → item_count (block ∷ []) ≡ block_size block
one_count block =
    let first : item_count (block ∷ []) ≡ block_size block + item_count [] = sum_by-cons block_size block [] in
    let none : item_count [] ≡ 0 = refl in
    omega (arith, first, none)

-- the items of variants
abbrev items_of : List Variant → ℕ
items_of variants = sum_by (λ (variant : Variant). length variant.items) variants

fits_at : (first : Variant) (done : List Variant) (variant : Variant) (more : List Variant) →
    AllByRecursion (λ (it : Variant). fits_first (first ∷ []) it.items ≡ true) (done ++ variant ∷ more) →
    fits_first (first ∷ []) variant.items ≡ true
fits_at first [] variant more each = each.0
fits_at first (one ∷ done) variant more each = fits_at first done variant more each.1

-- a variant behind others has the inserts of the first
fits_next : (done : List Variant) (variant : Variant) (more : List Variant) → HaveSameInserts (done ++ variant ∷ more) →
    fits_first done variant.items ≡ true
fits_next [] variant more same = refl
fits_next (first ∷ done) variant more same = fits_at first done variant more same

module _ (is_file : Bool) where
  abbrev Goes : ReaderState → List (List ℕ) → ReaderState → Type 0
  Goes s lines u = Through is_file s lines u

  one_line : (s u : ReaderState) (line : List ℕ) (it : ParsedLine) → in_listing s.within ≡ true →
      block_line line ≡ Ok it → step s it line ≡ Ok u → Goes s (line ∷ []) u
  one_line s u line it inside says steps = (u, read_listed is_file s line it inside says ∙ steps, refl)

  -- ---- an item as a block

  -- the state behind a block
  pub record Blocks (s u : ReaderState) (blocks : List Block) : Type 0 where
    pub within : u.within ≡ Listing
    pub width : u.width ≡ s.width
    pub are : u.blocks ≡ s.blocks ++ blocks
    pub count : u.count ≡ s.count + item_count blocks

  deeper_step : (s : ReaderState) (line : List ℕ) → s.within ≡ Listing → s.has_item ≡ true →
      longer_last s s.within (behind_point line)
      ≡ Ok (record s { blocks = extended_blocks (behind_point line) s.blocks })
  unfolding longer_last
  deeper_step s line at has =
      ap (λ (w : Within). longer_last s w (behind_point line)) at
      ∙ if_true s.has_item (Ok (record s { blocks = extended_blocks (behind_point line) s.blocks })) (Err BadLine) has

  record Deepened (s u : ReaderState) (old : List Block) (node : Node) (body : List ℕ) : Type 0 where
    within : u.within ≡ Listing
    width : u.width ≡ s.width
    are : u.blocks ≡ old ++ One (node_item node body) ∷ []
    count : u.count ≡ s.count

  deepen : (lines : List (List ℕ)) (s : ReaderState) (old : List Block) (node : Node) (body : List ℕ) →
      AllByRecursion IsDeeper lines → s.within ≡ Listing → s.has_item ≡ true →
      s.blocks ≡ old ++ One (node_item node body) ∷ [] →
      (u : ReaderState) × Goes s lines u × Deepened s u old node (body ++ further_lines lines)
  unfolding step
  deepen [] s old node body each at has are = (
    s,
    refl,
    record {
      within = at;
      width = refl;
      are = are ∙ ap (λ (text : List ℕ). old ++ One (node_item node text) ∷ []) (sym (append-nil body));
      count = refl;
    },
  )
  deepen (line ∷ lines) s old node body each at has are =
      let longer : extended_blocks (behind_point line) s.blocks
      ≡ old ++ One (node_item node (body ++ 10 ∷ behind_point line)) ∷ [] =
      ap (extended_blocks (behind_point line)) are
      ∙ longer_behind old (One (node_item node body) ∷ []) (behind_point line) tt
      ∙ ap (λ (item : Item). old ++ One item ∷ []) (longer_node node body (behind_point line)) in
      let (u, goes, is) = deepen lines (record s { blocks = extended_blocks (behind_point line) s.blocks }) old node
      (body ++ 10 ∷ behind_point line) each.1 at has longer in (
        u,
        (
          record s { blocks = extended_blocks (behind_point line) s.blocks },
          read_listed is_file s line said.Deeper (inside_of Listing s.within at refl) each.0 ∙ deeper_step s line at has,
          goes,
        ),
        record {
          within = is.within;
          width = is.width;
          are = is.are ∙ ap (λ (text : List ℕ). old ++ One (node_item node text) ∷ [])
              (append_assoc body (10 ∷ behind_point line) (further_lines lines));
          count = is.count;
        },
      )

  next_block : (s : ReaderState) (item : Item) → s.count < item_limit →
      placed_block s item ≡ Ok (record s { blocks = s.blocks ++ One item ∷ []; has_item = true; count = s.count + 1 })
  unfolding placed_block
  next_block s item less = if_true (nat_lt s.count item_limit)
      (Ok (record s { blocks = s.blocks ++ One item ∷ []; has_item = true; count = s.count + 1 })) (Err Limit)
      (less_of s.count item_limit less)

  placed_one : (s : ReaderState) (item : Item) → s.within ≡ Listing → s.count < item_limit →
      placed s s.within item
      ≡ Ok (record s { blocks = s.blocks ++ One item ∷ []; has_item = true; count = s.count + 1 })
  unfolding placed
  placed_one s item at less = ap (λ (w : Within). placed s w item) at ∙ next_block s item less

  barrier_placed : (s : ReaderState) → s.within ≡ Listing → s.count < item_limit → placed_barrier s s.within
      ≡ Ok (record s { blocks = s.blocks ++ One (Carry barrier_body) ∷ []; has_item = true; count = s.count + 1 })
  unfolding placed_barrier
  barrier_placed s at less = ap (λ (w : Within). placed_barrier s w) at ∙ next_block s (Carry barrier_body) less

  -- an item whose first line places it with this body
  lines_go : (s : ReaderState) (lines deeper : List (List ℕ)) (first : List ℕ) (node : Node) (body : List ℕ)
      (item : Item) → lines ≡ first ∷ deeper → item ≡ node_item node (body ++ further_lines deeper) →
      line_read is_file s first
      ≡ Ok (record s { blocks = s.blocks ++ One (node_item node body) ∷ []; has_item = true; count = s.count + 1 }) →
      AllByRecursion IsDeeper deeper → s.within ≡ Listing →
      (u : ReaderState) × Goes s lines u × Blocks s u (One item ∷ [])
  lines_go s lines deeper first node body item are whole reads goes_on at =
      let (u, goes, is) = deepen deeper
      (record s { blocks = s.blocks ++ One (node_item node body) ∷ []; has_item = true; count = s.count + 1 })
      s.blocks node body goes_on at refl refl in (
        u,
        subst (λ (l : List (List ℕ)). Goes s l u) (sym are) (
          record s { blocks = s.blocks ++ One (node_item node body) ∷ []; has_item = true; count = s.count + 1 },
          reads,
          goes,
        ),
        record {
          within = is.within;
          width = is.width;
          are = is.are ∙ ap (λ (it : Item). s.blocks ++ One it ∷ []) (sym whole);
          count = (let total = is.count in let one = one_count (One item) in omega (arith, total, one));
        },
      )

  item_goes : (s : ReaderState) (lines : List (List ℕ)) (item : Item) → SaysItem lines item → s.within ≡ Listing →
      s.count < item_limit → (u : ReaderState) × Goes s lines u × Blocks s u (One item ∷ [])
  unfolding step
  item_goes s lines item says at less =
      lines_go s lines says.deeper says.first says.node (behind_point says.first) item says.are says.is
      (read_listed is_file s says.first (said.Item says.node) (inside_of Listing s.within at refl) says.says
      ∙ placed_one s (node_item says.node (behind_point says.first)) at less) says.goes_on at

  barrier_goes : (s : ReaderState) (lines : List (List ℕ)) (item : Item) → SaysBarrier lines item →
      s.within ≡ Listing → s.count < item_limit → (u : ReaderState) × Goes s lines u × Blocks s u (One item ∷ [])
  unfolding step
  barrier_goes s lines item says at less =
      lines_go s lines says.deeper says.first node.Carry barrier_body item says.are says.is
      (read_listed is_file s says.first said.Barrier (inside_of Listing s.within at refl) says.says
      ∙ barrier_placed s at less) says.goes_on at

  -- ---- an item of a variant

  record Items (s u : ReaderState) (items : List Item) : Type 0 where
    within : u.within ≡ s.within
    width : u.width ≡ s.width
    blocks : u.blocks ≡ s.blocks
    variants : u.variants ≡ s.variants
    are : u.items ≡ s.items ++ items
    count : u.count ≡ s.count + length items

  record DeepenedItems (s u : ReaderState) (old : List Item) (node : Node) (body : List ℕ) : Type 0 where
    within : u.within ≡ s.within
    width : u.width ≡ s.width
    blocks : u.blocks ≡ s.blocks
    variants : u.variants ≡ s.variants
    are : u.items ≡ old ++ node_item node body ∷ []
    count : u.count ≡ s.count

  deeper_in : (s : ReaderState) (line : List ℕ) (looseness : ℤ) (demerits : ℕ) →
      s.within ≡ InVariant looseness demerits → s.has_item ≡ true →
      longer_last s s.within (behind_point line) ≡ Ok (record s { items = extended (behind_point line) s.items })
  unfolding longer_last
  deeper_in s line looseness demerits at has =
      ap (λ (w : Within). longer_last s w (behind_point line)) at
      ∙ if_true s.has_item (Ok (record s { items = extended (behind_point line) s.items })) (Err BadLine) has

  last_longer : (old : List Item) (item : Item) (line : List ℕ) →
      extended line (old ++ item ∷ []) ≡ old ++ with_line line item ∷ []
  last_longer [] item line = refl
  last_longer (first ∷ []) item line = refl
  last_longer (first ∷ next ∷ old) item line = ap (λ (items : List Item). first ∷ items) (last_longer (next ∷ old) item line)

  deepen_in : (lines : List (List ℕ)) (s : ReaderState) (looseness : ℤ) (demerits : ℕ) (old : List Item) (node : Node)
      (body : List ℕ) → AllByRecursion IsDeeper lines → s.within ≡ InVariant looseness demerits → s.has_item ≡ true →
      s.items ≡ old ++ node_item node body ∷ [] →
      (u : ReaderState) × Goes s lines u × DeepenedItems s u old node (body ++ further_lines lines)
  unfolding step
  deepen_in [] s looseness demerits old node body each at has are = (
    s,
    refl,
    record {
      within = refl;
      width = refl;
      blocks = refl;
      variants = refl;
      are = are ∙ ap (λ (text : List ℕ). old ++ node_item node text ∷ []) (sym (append-nil body));
      count = refl;
    },
  )
  deepen_in (line ∷ lines) s looseness demerits old node body each at has are =
      let longer : extended (behind_point line) s.items ≡ old ++ node_item node (body ++ 10 ∷ behind_point line) ∷ [] =
      ap (extended (behind_point line)) are ∙ last_longer old (node_item node body) (behind_point line)
      ∙ ap (λ (item : Item). old ++ item ∷ []) (longer_node node body (behind_point line)) in
      let (u, goes, is) = deepen_in lines (record s { items = extended (behind_point line) s.items }) looseness demerits old
      node (body ++ 10 ∷ behind_point line) each.1 at has longer in (
        u,
        (
          record s { items = extended (behind_point line) s.items },
          read_listed is_file s line said.Deeper (inside_of (InVariant looseness demerits) s.within at refl) each.0
              ∙ deeper_in s line looseness demerits at has,
          goes,
        ),
        record {
          within = is.within;
          width = is.width;
          blocks = is.blocks;
          variants = is.variants;
          are = is.are ∙ ap (λ (text : List ℕ). old ++ node_item node text ∷ [])
              (append_assoc body (10 ∷ behind_point line) (further_lines lines));
          count = is.count;
        },
      )

  placed_in : (s : ReaderState) (item : Item) (looseness : ℤ) (demerits : ℕ) → s.within ≡ InVariant looseness demerits →
      s.count < item_limit →
      placed s s.within item ≡ Ok (record s { items = s.items ++ item ∷ []; has_item = true; count = s.count + 1 })
  unfolding placed placed_item
  placed_in s item looseness demerits at less =
      ap (λ (w : Within). placed s w item) at
      ∙ if_true (nat_lt s.count item_limit)
      (Ok (record s { items = s.items ++ item ∷ []; has_item = true; count = s.count + 1 })) (Err Limit)
      (less_of s.count item_limit less)

  item_in : (s : ReaderState) (lines : List (List ℕ)) (item : Item) (looseness : ℤ) (demerits : ℕ) →
      SaysItem lines item → s.within ≡ InVariant looseness demerits → s.count < item_limit →
      (u : ReaderState) × Goes s lines u × Items s u (item ∷ [])
  unfolding step
  item_in s lines item looseness demerits says at less =
      let (u, goes, is) = deepen_in says.deeper (record s {
        items = s.items ++ node_item says.node (behind_point says.first) ∷ [];
        has_item = true;
        count = s.count + 1;
      }) looseness demerits s.items says.node (behind_point says.first) says.goes_on at refl refl in (
        u,
        subst (λ (l : List (List ℕ)). Goes s l u) (sym says.are) (
          record s {
            items = s.items ++ node_item says.node (behind_point says.first) ∷ [];
            has_item = true;
            count = s.count + 1;
          },
          read_listed is_file s says.first (said.Item says.node)
              (inside_of (InVariant looseness demerits) s.within at refl) says.says
              ∙ placed_in s (node_item says.node (behind_point says.first)) looseness demerits at less,
          goes,
        ),
        record {
          within = is.within;
          width = is.width;
          blocks = is.blocks;
          variants = is.variants;
          are = is.are ∙ ap (λ (it : Item). s.items ++ it ∷ []) (sym says.is);
          count = is.count;
        },
      )

  items_in : (items : List Item) (s : ReaderState) (lines : List (List ℕ)) (looseness : ℤ) (demerits : ℕ) →
      InOrder SaysItem lines items → s.within ≡ InVariant looseness demerits → s.count + length items ≤ item_limit →
      (u : ReaderState) × Goes s lines u × Items s u items
  items_in [] s lines looseness demerits none at few = (
    s,
    subst (λ (l : List (List ℕ)). Goes s l s) (sym none) refl,
    record {
      within = refl;
      width = refl;
      blocks = refl;
      variants = refl;
      are = sym (append-nil s.items);
      count = omega arith;
    },
  )
  items_in (item ∷ items) s lines looseness demerits (front, rest, cut, says, more) at few =
      let (u, goes, is) = item_in s front item looseness demerits says at (omega (arith, few)) in
      let number = is.count in
      let (v, later, are) = items_in items u rest looseness demerits more (is.within ∙ at) (omega (arith, few, number)) in
      let total = are.count in (
        v,
        subst (λ (l : List (List ℕ)). Goes s l v) (sym cut) (through_both is_file s u v front rest goes later),
        record {
          within = are.within ∙ is.within;
          width = are.width ∙ is.width;
          blocks = are.blocks ∙ is.blocks;
          variants = are.variants ∙ is.variants;
          are = are.are ∙ ap (λ (xs : List Item). xs ++ items) is.are ∙ append_assoc s.items (item ∷ []) items;
          count = omega (arith, number, total);
        },
      )

  -- ---- variants

  -- the next variant may begin, and the choice may end, with these variants
  record Ready (s : ReaderState) (done : List Variant) : Type 0 where
    inside : in_listing s.within ≡ true
    opens : (looseness : ℤ) (demerits : ℕ) → length done < 5 → begun_variant s s.within looseness demerits
        ≡ Ok (record s { variants = done; items = []; within = InVariant looseness demerits; has_item = false })
    ends : 1 ≤ length done → ended_choice s s.within ≡ Ok (record s {
      blocks = s.blocks ++ Choice done ∷ [];
      variants = [];
      items = [];
      within = Listing;
      has_item = false;
    })

  ready_first : (s : ReaderState) →
      Ready (record s { within = InChoice; variants = []; items = []; has_item = false }) []
  unfolding begun_variant next_variant
  ready_first s = record {
    inside = refl;
    opens = λ looseness demerits less. refl;
    ends = λ some. absurd (omega (arith, some));
  }

  closes_to : (s : ReaderState) (looseness : ℤ) (demerits : ℕ) → is_shaped s.items ≡ true →
      fits_first s.variants s.items ≡ true → closed s looseness demerits ≡ Ok (record s {
        variants = s.variants ++ record { looseness = looseness; demerits = demerits; items = s.items } ∷ [];
        items = [];
      })
  unfolding closed
  closes_to s looseness demerits shaped fits = rw (shaped, fits) refl

  ready_more : (s : ReaderState) (looseness : ℤ) (demerits : ℕ) → s.within ≡ InVariant looseness demerits →
      is_shaped s.items ≡ true → fits_first s.variants s.items ≡ true →
      Ready s (s.variants ++ record { looseness = looseness; demerits = demerits; items = s.items } ∷ [])
  unfolding begun_variant next_variant ended_choice whole_choice
  ready_more s looseness demerits at shaped fits = record {
    inside = inside_of (InVariant looseness demerits) s.within at refl;
    opens = λ next paid less.
        ap (λ (w : Within). begun_variant s w next paid) at
        ∙ ap (λ (r : Result ReaderState ListKind). r >>= (λ t. next_variant t next paid))
        (closes_to s looseness demerits shaped fits)
        ∙ if_true (nat_lt (length (s.variants
        ++ record { looseness = looseness; demerits = demerits; items = s.items } ∷ [])) 5) (Ok (record s {
          variants = s.variants ++ record { looseness = looseness; demerits = demerits; items = s.items } ∷ [];
          items = [];
          within = InVariant next paid;
          has_item = false;
        })) (Err Limit) (less_of (length (s.variants
        ++ record { looseness = looseness; demerits = demerits; items = s.items } ∷ [])) 5 less);
    ends = λ some. ap (λ (w : Within). ended_choice s w) at
        ∙ ap (λ (r : Result ReaderState ListKind). r >>= whole_choice) (closes_to s looseness demerits shaped fits);
  }

  record Variants (s u : ReaderState) (done : List Variant) (number : ℕ) : Type 0 where
    ready : Ready u done
    width : u.width ≡ s.width
    blocks : u.blocks ≡ s.blocks
    count : u.count ≡ s.count + number

  variant_goes : (s : ReaderState) (lines : List (List ℕ)) (done : List Variant) (variant : Variant) → Ready s done →
      SaysVariant lines variant → length done < 5 → IsShaped variant → fits_first done variant.items ≡ true →
      s.count + length variant.items ≤ item_limit →
      (u : ReaderState) × Goes s lines u × Variants s u (done ++ variant ∷ []) (length variant.items)
  unfolding step
  variant_goes s lines done variant ready says less shaped fits few =
      let (u, goes, is) = items_in variant.items (record s {
        variants = done;
        items = [];
        within = InVariant variant.looseness variant.demerits;
        has_item = false;
      }) says.rest variant.looseness variant.demerits says.items refl few in
      let all = ready_more u variant.looseness variant.demerits is.within
      (ap is_shaped is.are ∙ shaped)
      (ap (λ (done : List Variant). fits_first done u.items) is.variants
      ∙ ap (λ (items : List Item). fits_first done items) is.are ∙ fits) in (
        u,
        subst (λ (l : List (List ℕ)). Goes s l u) (sym says.are) (
          record s {
            variants = done;
            items = [];
            within = InVariant variant.looseness variant.demerits;
            has_item = false;
          },
          read_listed is_file s says.marker (said.VariantMark variant.looseness variant.demerits) ready.inside says.says
              ∙ ready.opens variant.looseness variant.demerits less,
          goes,
        ),
        record {
          ready = subst (λ (vs : List Variant). Ready u vs)
              (ap (λ (vs : List Variant). vs
              ++ record { looseness = variant.looseness; demerits = variant.demerits; items = u.items } ∷ []) is.variants
              ∙ ap (λ (items : List Item). done
              ++ record { looseness = variant.looseness; demerits = variant.demerits; items = items } ∷ []) is.are) all;
          width = is.width;
          blocks = is.blocks;
          count = is.count;
        },
      )

  variants_go : (variants : List Variant) (s : ReaderState) (lines : List (List ℕ)) (done : List Variant) →
      Ready s done → InOrder SaysVariant lines variants → length (done ++ variants) ≤ 5 →
      AllByRecursion IsShaped variants → HaveSameInserts (done ++ variants) → s.count + items_of variants ≤ item_limit →
      (u : ReaderState) × Goes s lines u × Variants s u (done ++ variants) (items_of variants)
  variants_go [] s lines done ready none few shaped same room = (
    s,
    subst (λ (l : List (List ℕ)). Goes s l s) (sym none) refl,
    record {
      ready = subst (λ (vs : List Variant). Ready s vs) (sym (append-nil done)) ready;
      width = refl;
      blocks = refl;
      count = omega arith;
    },
  )
  variants_go (variant ∷ variants) s lines done ready (front, rest, cut, says, more) few shaped same room =
      let sum : items_of (variant ∷ variants) ≡ length variant.items + items_of variants =
      sum_by-cons (λ (it : Variant). length it.items) variant variants in
      let long = length-append done (variant ∷ variants) in
      let regroup : (done ++ variant ∷ []) ++ variants ≡ done ++ variant ∷ variants =
      append_assoc done (variant ∷ []) variants in
      let (u, goes, is) = variant_goes s front done variant ready says (omega (arith, few, long)) shaped.0
      (fits_next done variant variants same) (omega (arith, room, sum)) in
      let number = is.count in
      let (v, later, are) = variants_go variants u rest (done ++ variant ∷ []) is.ready more
      (subst (λ (vs : List Variant). length vs ≤ 5) (sym regroup) few) shaped.1
      (subst (λ (vs : List Variant). HaveSameInserts vs) (sym regroup) same) (omega (arith, room, sum, number)) in
      let total = are.count in (
        v,
        subst (λ (l : List (List ℕ)). Goes s l v) (sym cut) (through_both is_file s u v front rest goes later),
        record {
          ready = subst (λ (vs : List Variant). Ready v vs) regroup are.ready;
          width = are.width ∙ is.width;
          blocks = are.blocks ∙ is.blocks;
          count = omega (arith, number, total, sum);
        },
      )

  begun_at : (s : ReaderState) → s.within ≡ Listing → begun_choice s s.within
      ≡ Ok (record s { within = InChoice; variants = []; items = []; has_item = false })
  unfolding begun_choice
  begun_at s at = ap (λ (w : Within). begun_choice s w) at

  choice_goes : (s : ReaderState) (lines : List (List ℕ)) (variants : List Variant) → SaysChoice lines variants →
      s.within ≡ Listing → s.count + items_of variants ≤ item_limit →
      (u : ReaderState) × Goes s lines u × Blocks s u (Choice variants ∷ [])
  unfolding step
  choice_goes s lines variants says at room =
      let (v, goes, are) = variants_go variants
      (record s { within = InChoice; variants = []; items = []; has_item = false }) says.inner [] (ready_first s) says.each
      says.few says.shaped says.inserts room in
      let last : ReaderState = record v {
        blocks = v.blocks ++ Choice variants ∷ [];
        variants = [];
        items = [];
        within = Listing;
        has_item = false;
      } in
      let number = are.count in
      let size = one_count (Choice variants) in (
        record v {
          blocks = v.blocks ++ Choice variants ∷ [];
          variants = [];
          items = [];
          within = Listing;
          has_item = false;
        },
        subst (λ (l : List (List ℕ)). Goes s l (record v {
          blocks = v.blocks ++ Choice variants ∷ [];
          variants = [];
          items = [];
          within = Listing;
          has_item = false;
        })) (sym says.are) (
          record s { within = InChoice; variants = []; items = []; has_item = false },
          read_listed is_file s says.begin said.ChoiceMark (inside_of Listing s.within at refl) says.begins ∙ begun_at s at,
          through_both is_file (record s { within = InChoice; variants = []; items = []; has_item = false }) v
              (record v {
                blocks = v.blocks ++ Choice variants ∷ [];
                variants = [];
                items = [];
                within = Listing;
                has_item = false;
              }) says.inner (says.last ∷ []) goes
              (one_line v (record v {
                blocks = v.blocks ++ Choice variants ∷ [];
                variants = [];
                items = [];
                within = Listing;
                has_item = false;
              }) says.last said.EndMark are.ready.inside says.ends (are.ready.ends says.some)),
        ),
        record {
          within = refl;
          width = are.width;
          are = ap (λ (blocks : List Block). blocks ++ Choice variants ∷ []) are.blocks;
          count = omega (arith, number, size);
        },
      )

  -- ---- blocks

  block_goes : (block : Block) (s : ReaderState) (lines : List (List ℕ)) → SaysBlock lines block → s.within ≡ Listing →
      s.count + block_size block ≤ item_limit → (u : ReaderState) × Goes s lines u × Blocks s u (block ∷ [])
  block_goes (One item) s lines (inl says) at room = item_goes s lines item says at (omega (arith, room))
  block_goes (One item) s lines (inr says) at room = barrier_goes s lines item says at (omega (arith, room))
  block_goes (Choice variants) s lines says at room = choice_goes s lines variants says at room

  pub blocks_go : (blocks : List Block) (s : ReaderState) (lines : List (List ℕ)) → InOrder SaysBlock lines blocks →
      s.within ≡ Listing → s.count + item_count blocks ≤ item_limit →
      (u : ReaderState) × Goes s lines u × Blocks s u blocks
  blocks_go [] s lines none at room = (
    s,
    subst (λ (l : List (List ℕ)). Goes s l s) (sym none) refl,
    record { within = at; width = refl; are = sym (append-nil s.blocks); count = omega arith },
  )
  blocks_go (block ∷ blocks) s lines (front, rest, cut, says, more) at room =
      let sum : item_count (block ∷ blocks) ≡ block_size block + item_count blocks = sum_by-cons block_size block blocks in
      let size = one_count block in
      let (u, goes, is) = block_goes block s front says at (omega (arith, room, sum)) in
      let number = is.count in
      let (v, later, are) = blocks_go blocks u rest more is.within (omega (arith, room, sum, number, size)) in
      let total = are.count in (
        v,
        subst (λ (l : List (List ℕ)). Goes s l v) (sym cut) (through_both is_file s u v front rest goes later),
        record {
          within = are.within;
          width = are.width ∙ is.width;
          are = are.are ∙ ap (λ (xs : List Block). xs ++ blocks) is.are ∙ append_assoc s.blocks (block ∷ []) blocks;
          count = omega (arith, number, total, sum, size);
        },
      )

-- ---- listings

-- no choice is open
abbrev IsClosed : Within → Type 0
IsClosed Outside = Unit {0}
IsClosed Listing = Unit {0}
IsClosed InChoice = ⊥
IsClosed (InVariant looseness demerits) = ⊥

-- the end of a listing, where one is open
record Ended (s : ReaderState) : Type 0 where
  last : ReaderState
  is : ended s s.within ≡ Ok last
  within : last.within ≡ Outside
  blocks : last.blocks ≡ s.blocks
  width : last.width ≡ s.width
  count : last.count ≡ s.count

ends_at : (s : ReaderState) (within : Within) → s.within ≡ within → IsClosed within → Ended s
unfolding ended
ends_at s Outside at closed = record {
  last = s;
  is = ap (λ (w : Within). ended s w) at;
  within = at;
  blocks = refl;
  width = refl;
  count = refl;
}
ends_at s Listing at closed = record {
  last = record s { within = Outside; has_item = false };
  is = ap (λ (w : Within). ended s w) at;
  within = refl;
  blocks = refl;
  width = refl;
  count = refl;
}
ends_at s InChoice at closed = absurd closed
ends_at s (InVariant looseness demerits) at closed = absurd closed

no_root_listed : (a b : Bool) → not (a || b) ≡ true → a ≡ false
no_root_listed true b h = absurd cc
no_root_listed false b h = refl

-- no listing begins with its lines
listings_behind : (lines : List (List ℕ)) → listings lines ≡ listings (behind is_listed lines)
listings_behind [] = refl
listings_behind (line ∷ lines) = by_bool (is_listed line)
    (λ so. if_false (begins_listing line) (record { root = line; lines = take_while is_listed lines } ∷ listings lines)
    (listings lines) (no_root_listed (begins_listing line) (bytes_eq line []) so)
    ∙ listings_behind lines ∙ ap listings (sym (behind_more is_listed line lines so)))
    (λ other. ap listings (sym (behind_none is_listed line lines other)))

-- where a listing is open, lines follow that are none of it
abbrev IsBetween : Within → List (List ℕ) → Type 0
IsBetween Outside lines = Unit {0}
IsBetween Listing lines = BeginsBehind is_listed lines
IsBetween InChoice lines = ⊥
IsBetween (InVariant looseness demerits) lines = ⊥

between_closed : (within : Within) (lines : List (List ℕ)) → IsBetween within lines → IsClosed within
between_closed Outside lines between = tt
between_closed Listing lines between = tt
between_closed InChoice lines between = absurd between
between_closed (InVariant looseness demerits) lines between = absurd between

-- what is read behind a state
record Behind (s : ReaderState) (lines : List (List ℕ)) (blocks : List Block) : Type 0 where
  state : ReaderState
  through : Through true s lines state
  last : ReaderState
  ends : ended state state.within ≡ Ok last
  are : last.blocks ≡ s.blocks ++ blocks

-- and the width that it tells
abbrev FirstWidth : Option ℤ → ℤ → List (List ℕ) → Type 0
FirstWidth None width lines = IsFirstWidth width (listings lines)
FirstWidth (Some first) width lines = first ≡ width

record Found (s : ReaderState) (lines : List (List ℕ)) (blocks : List Block) (width : ℤ) : Type 0 where
  behind : Behind s lines blocks
  wide : behind.last.width ≡ Some width

root_reads : (s : ReaderState) (line : List ℕ) (width : ℤ) → HasWidth width (record { root = line; lines = [] }) →
    begins_listing line ≡ true → line_read true s line ≡ begun_listing s width
unfolding line_read said_in galley_line step
root_reads s line width says root =
    let (rest, at) = some_is (after (codes "\\vbox(") line) root in
    ap (λ (r : Result ParsedLine ListKind). r >>= (λ it. step s it line))
    (ap (λ (o : Option (List ℕ)). on o (root_at line) (listing_line (in_listing s.within) line)) at
    ∙ sym (ap (λ (o : Option (List ℕ)). on o (root_at line) (listing_line false line)) at) ∙ says)

record Opened (s : ReaderState) (width : ℤ) : Type 0 where
  state : ReaderState
  is : begun_listing s width ≡ Ok state
  within : state.within ≡ Listing
  blocks : state.blocks ≡ s.blocks
  wide : state.width ≡ or_first s.width width
  count : state.count ≡ s.count

opened_at : (s : ReaderState) (width : ℤ) → Ended s → Opened s width
unfolding begun_listing
opened_at s width it = record {
  state = record it.last { within = Listing; has_item = false; width = or_first it.last.width width };
  is = ap (λ (r : Result ReaderState ListKind). r >>= (λ t. Ok (record t {
    within = Listing;
    has_item = false;
    width = or_first t.width width;
  }))) it.is;
  within = refl;
  blocks = it.blocks;
  wide = ap (λ (o : Option ℤ). or_first o width) it.width;
  count = it.count;
}

-- an empty line, or one that says nothing, outside of the listings behind it
passed : (s : ReaderState) (line : List ℕ) (within : Within) → s.within ≡ within → begins_listing line ≡ false →
    IsBetween within (line ∷ []) → (u : ReaderState) × (line_read true s line ≡ Ok u) × (u.within ≡ Outside)
    × (u.blocks ≡ s.blocks) × (u.width ≡ s.width) × (u.count ≡ s.count)
unfolding line_read said_in galley_line listing_line step
passed s line Outside at other between = (s, outside_line s line at other, at, refl, refl, refl)
passed s line Listing at other between =
    let ends = ends_at s Listing at tt in (
      ends.last,
      ap (λ (r : Result ParsedLine ListKind). r >>= (λ it. step s it line))
          (no_root line (root_at line) (listing_line (in_listing s.within) line) other
          ∙ ap (λ (w : Within). listing_line (in_listing w) line) at
          ∙ if_true (bytes_eq line []) (Ok said.Blank) (block_line line)
          (blank (begins_listing line) (bytes_eq line []) other between)) ∙ ends.is,
      ends.within,
      ends.blocks,
      ends.width,
      ends.count,
    )
  where
    blank : (a b : Bool) → a ≡ false → not (a || b) ≡ false → b ≡ true
    blank true b p q = absurd cc
    blank false true p q = refl
    blank false false p q = absurd cc
passed s line InChoice at other between = absurd between
passed s line (InVariant looseness demerits) at other between = absurd between

same_width : (listing : AListing) (one other : ℤ) → HasWidth one listing → HasWidth other listing → one ≡ other
same_width listing one other first second = root_same (sym first ∙ second)
  where
    root_same : ◌≡◌ {A = Result ParsedLine ListKind} (Ok (said.Root one)) (Ok (said.Root other)) → one ≡ other
    root_same e = cc

between_one : (within : Within) (line : List ℕ) (lines : List (List ℕ)) → IsBetween within (line ∷ lines) →
    IsBetween within (line ∷ [])
between_one Outside line lines between = tt
between_one Listing line lines between = between
between_one InChoice line lines between = absurd between
between_one (InVariant looseness demerits) line lines between = absurd between

-- the width that is told in the end, where no listing follows
last_width : (first : Option ℤ) (width : ℤ) → FirstWidth first width [] → first ≡ Some width
last_width None width tells = absurd tells
last_width (Some wide) width tells = ap (λ (w : ℤ). Some w) tells

-- and where one follows
next_width : (first : Option ℤ) (width wide : ℤ) (line : List ℕ) (lines : List (List ℕ)) →
    begins_listing line ≡ true → FirstWidth first width (line ∷ lines) →
    HasWidth wide (record { root = line; lines = take_while is_listed lines }) → or_first first wide ≡ Some width
next_width None width wide line lines root tells says =
    let first : HasWidth width (record { root = line; lines = take_while is_listed lines }) =
    subst (λ (all : List AListing). IsFirstWidth width all)
    (if_true (begins_listing line) (record { root = line; lines = take_while is_listed lines } ∷ listings lines)
    (listings lines) root) tells in
    ap (λ (w : ℤ). Some w)
    (same_width (record { root = line; lines = take_while is_listed lines }) wide width says first)
next_width (Some first) width wide line lines root tells says = ap (λ (w : ℤ). Some w) tells

other_width : (first : Option ℤ) (width : ℤ) (line : List ℕ) (lines : List (List ℕ)) → begins_listing line ≡ false →
    FirstWidth first width (line ∷ lines) → FirstWidth first width lines
other_width None width line lines other tells = subst (λ (all : List AListing). IsFirstWidth width all)
    (if_false (begins_listing line) (record { root = line; lines = take_while is_listed lines } ∷ listings lines)
    (listings lines) other) tells
other_width (Some first) width line lines other tells = tells

-- of so many lines at most, behind any state
abbrev Finds : ℕ → Type 0
Finds n = (lines : List (List ℕ)) (s : ReaderState) (blocks : List Block) (width : ℤ) → length lines ≤ n →
    IsBetween s.within lines → FirstWidth s.width width lines → InOrder SaysBlocks blocks (listings lines) →
    s.count + item_count blocks ≤ item_limit → Found s lines blocks width

no_lines : (s : ReaderState) (blocks : List Block) (width : ℤ) → IsBetween s.within [] → FirstWidth s.width width [] →
    blocks ≡ [] → Found s [] blocks width
no_lines s blocks width between tells none =
    let ends = ends_at s s.within refl (between_closed s.within [] between) in
    record {
      behind = record {
        state = s;
        through = refl;
        last = ends.last;
        ends = ends.is;
        are = ends.blocks ∙ sym (append-nil s.blocks) ∙ ap (λ (x : List Block). s.blocks ++ x) (sym none);
      };
      wide = ends.width ∙ last_width s.width width tells;
    }

module _ (n : ℕ) (on : Finds n) (line : List ℕ) (lines : List (List ℕ)) (s : ReaderState) (blocks : List Block)
    (width : ℤ) (long : length (line ∷ lines) ≤ suc n) (between : IsBetween s.within (line ∷ lines))
    (tells : FirstWidth s.width width (line ∷ lines)) (are : InOrder SaysBlocks blocks (listings (line ∷ lines)))
    (room : s.count + item_count blocks ≤ item_limit) where
  find_other : begins_listing line ≡ false → Found s (line ∷ lines) blocks width
  find_other other =
      let (u, read, at, same, wide, count) = passed s line s.within refl other (between_one s.within line lines between) in
      let it = on lines u blocks width (omega (arith, long)) (subst (λ (w : Within). IsBetween w lines) (sym at) tt)
      (subst (λ (o : Option ℤ). FirstWidth o width lines) (sym wide) (other_width s.width width line lines other tells))
      (subst (λ (all : List AListing). InOrder SaysBlocks blocks all) (if_false (begins_listing line)
      (record { root = line; lines = take_while is_listed lines } ∷ listings lines) (listings lines) other) are)
      (omega (arith, room, count)) in
      record {
        behind = record {
          state = it.behind.state;
          through = (u, read, it.behind.through);
          last = it.behind.last;
          ends = it.behind.ends;
          are = it.behind.are ∙ ap (λ (x : List Block). x ++ blocks) same;
        };
        wide = it.wide;
      }

  find_opened : begins_listing line ≡ true → (front rest : List Block) → blocks ≡ front ++ rest →
      SaysBlocks front (record { root = line; lines = take_while is_listed lines }) →
      InOrder SaysBlocks rest (listings lines) → Found s (line ∷ lines) blocks width
  find_opened root front rest cut says more =
      let sum : item_count blocks ≡ item_count front + item_count rest =
      ap item_count cut ∙ sum_by-append block_size front rest in
      let new = opened_at s says.width (ends_at s s.within refl (between_closed s.within (line ∷ lines) between)) in
      let number = new.count in
      let (v, goes, is) = blocks_go true front new.state (take_while is_listed lines) says.each new.within
      (omega (arith, room, sum, number)) in
      let total = is.count in
      let short = behind_shorter is_listed lines in
      let wide : v.width ≡ Some width =
      is.width ∙ new.wide ∙ next_width s.width width says.width line lines root tells says.root in
      let it = on (behind is_listed lines) v rest width (omega (arith, long, short))
      (subst (λ (w : Within). IsBetween w (behind is_listed lines)) (sym is.within) (behind_begins is_listed lines))
      (subst (λ (o : Option ℤ). FirstWidth o width (behind is_listed lines)) (sym wide) refl)
      (subst (λ (all : List AListing). InOrder SaysBlocks rest all) (listings_behind lines) more)
      (omega (arith, room, sum, number, total)) in
      record {
        behind = record {
          state = it.behind.state;
          through = (
            new.state,
            root_reads s line says.width says.root root ∙ new.is,
            subst (λ (l : List (List ℕ)). Through true new.state l it.behind.state) (front_behind is_listed lines)
                (through_both true new.state v it.behind.state (take_while is_listed lines) (behind is_listed lines) goes
                it.behind.through),
          );
          last = it.behind.last;
          ends = it.behind.ends;
          are = it.behind.are ∙ ap (λ (x : List Block). x ++ rest)
              (is.are ∙ ap (λ (x : List Block). x ++ front) new.blocks)
              ∙ append_assoc s.blocks front rest ∙ ap (λ (x : List Block). s.blocks ++ x) (sym cut);
        };
        wide = it.wide;
      }

  find_root : begins_listing line ≡ true → Found s (line ∷ lines) blocks width
  find_root root =
      let (front, rest, cut, says, more) = subst (λ (all : List AListing). InOrder SaysBlocks blocks all)
      (if_true (begins_listing line) (record { root = line; lines = take_while is_listed lines } ∷ listings lines)
      (listings lines) root) are in
      find_opened root front rest cut says more

  find_line : Found s (line ∷ lines) blocks width
  find_line = by_bool (begins_listing line) find_root find_other

found : (n : ℕ) → Finds n
found n [] s blocks width long between tells none room = no_lines s blocks width between tells none
found zero (line ∷ lines) s blocks width long between tells are room = absurd (omega (arith, long))
found (suc n) (line ∷ lines) s blocks width long between tells are room =
    find_line n (found n) line lines s blocks width long between tells are room

pub listings_are_read : ListingsAreRead
listings_are_read wrap text galley is few =
    let it = found (length (lines_read wrap text)) (lines_read wrap text) (started Outside) galley.blocks galley.width
    (omega arith) tt is.width is.blocks (omega (arith, few)) in
    leads_galley wrap text galley (record {
      state = it.behind.state;
      through = it.behind.through;
      last = it.behind.last;
      ends = it.behind.ends;
      width = it.wide;
      blocks = it.behind.are;
    })
