-- What is printed reads back, line by line.
use Rattle.std.proofs.Common.{◌≡◌, ◌∙◌, ◌≤◌, ◌<◌, ◌+◌, ◌^◌, ℕ, suc, ap, sym, arith, List, [], ◌∷◌, ◌++◌, refl, length, true, false, subst, append_assoc, append-nil, Bool, inl, inr}
use Rattle.std.specs.Prelude.{IsTrue, Result, Ok, Option, None, codes, ◌==◌, not, ◌&&◌}
use Rattle.std.specs.List.{AllByRecursion, flat_map}
use Rattle.pg_list.specs.Barrier.{barrier_body}
use Rattle.pg_list.specs.declared.item.Item.{Item}
use Rattle.pg_list.specs.declared.item.Item.TheVariants.{Carry}
use Rattle.pg_list.specs.declared.variants.Variant.{Variant}
use Rattle.pg_list.specs.declared.blocks.Block.{Block}
use Rattle.pg_list.specs.declared.blocks.Block.TheVariants as block
use Rattle.pg_list.specs.Bodies.{with_line, body_of, longer}
use Rattle.pg_list.proofs.BodyLemmas.{extended_last_block, extended_last}
use Rattle.pg_showbox.specs.declared.kinds.ListFault.{ListFault}
use Rattle.pg_showbox.specs.declared.node.Node.{Node}
use Rattle.pg_showbox.specs.declared.node.Node.TheVariants as node
use Rattle.pg_showbox.specs.declared.parsed.ParsedLine.{ParsedLine}
use Rattle.pg_showbox.specs.declared.parsed.ParsedLine.TheVariants as said
use Rattle.pg_showbox.specs.declared.state.ReaderState.{ReaderState}
use Rattle.pg_showbox.specs.declared.state.Within.TheVariants.{Listing, InChoice, InVariant}
use Rattle.pg_scan.specs.Lines.{lines_of, raw_lines, joined, trimmed, is_no_feed}
use Rattle.pg_scan.specs.Parts.{after, past}
use Rattle.pg_showbox.specs.Nodes.{node_item}
use Rattle.pg_showbox.specs.ParsedLine.{pointed_at, marker_at, variant_at, block_line, listing_line, galley_line}
use Rattle.pg_showbox.specs.State.{step, longer_last, placed, placed_barrier, placed_block, placed_item, begun_choice, begun_variant, next_variant, closed, whole_choice, ended_choice}
use Rattle.pg_showbox.specs.Reading.{in_listing, said_in, line_read, run}
use Rattle.std.specs.Prelude.{ℤ}
use Rattle.std.proofs.lemmas.Bool.{lt-ltb}
use Rattle.std.proofs.lemmas.List.Sums.{sum_by-cons}
use Rattle.pg_list.specs.Counts.{block_size, item_count, item_limit}
use Rattle.pg_list.specs.Shapes.{IsBlock}
use Rattle.pg_showbox.specs.Text.{pointed_byte, body_text, block_text, items_text, choice_line, end_line, variant_front, variant_numbers, variant_text}
use Rattle.pg_scan.specs.Lines.{IsClean}
use Rattle.pg_showbox.specs.Shown.{IsDeeper, IsShown, IsShownBarrier, IsShownBlock, deeper_text}
use Rattle.pg_showbox.proofs.RunLemmas.{run_more}
use Rattle.pg_scan.proofs.LineLemmas.{no_return}
use Rattle.pg_showbox.proofs.WholeReads.{whole_reads}
use Rattle.pg_scaled.proofs.ReadsBack.{AreDigits, from_all_digits}
use Rattle.std.proofs.lemmas.Fmt.{decimal_is_IsNumeral}
use Rattle.std.proofs.lemmas.Int.{ints}
use Rattle.std.proofs.lemmas.Bool.Decides.{nat_tests}
use Rattle.std.specs.Fmt.{signed_decimal}
use Rattle.std.specs.Prelude.{decimal, pos, negsuc, neg_ℤ, nat_abs, int_le}
use Rattle.pg_list.specs.Shapes.{IsWithinLimits, begins_with_box, ends_solid, is_shaped, same_insert, inserts, fits_first, IsVariant, AreVariants, HaveEqualInserts}
use Rattle.pg_list.specs.declared.item.Item.TheVariants as item
use Rattle.std.specs.Prelude.{slice_get, ◌-◌}
use Rattle.std.specs.List.{sum_by}
use Rattle.std.specs.Cmp.Lexicographic.{pointwise}
use Rattle.std.proofs.Common.{length-append}
use Rattle.pg_lemmas.proofs.Lists.{all_append}
use Rattle.pg_lemmas.proofs.Bools.{both, true_both}
use Rattle.pg_list.proofs.NewLemmas.{begins_back, solid_back, inserts_self}

not_true : (b : Bool) → IsTrue (not b) → b ≡ false
not_true true h = absurd (cc)
not_true false h = refl

pub no_feed_is : (c : ℕ) → IsTrue (is_no_feed c) → (c == 10) ≡ false
no_feed_is c h = not_true (c == 10) h

lines_line : (line rest : List ℕ) → AllByRecursion (λ c. IsTrue (is_no_feed c)) line
    → lines_of (line ++ 10 ∷ rest) ≡ line ∷ lines_of rest
unfolding lines_of
lines_line [] rest h = refl
lines_line (c ∷ cs) rest h = rw (no_feed_is c h.0, lines_line cs rest h.1) refl

abbrev pub text_run : ReaderState → ℕ → List ℕ → Result ReaderState ListFault
text_run s n text = run true s (joined None n (raw_lines text))

joined_line : (n : ℕ) (line rest : List ℕ) → IsClean line → joined None n (raw_lines (line ++ 10 ∷ rest))
    ≡ record { number = n; text = line } ∷ joined None (n + 1) (raw_lines rest)
unfolding joined
joined_line n line rest clean = rw (lines_line line rest clean.no_feed, clean.no_return) refl

-- this text takes one state to another, whatever follows it
abbrev pub Reads : ReaderState → List ℕ → ReaderState → Type 0
Reads s text t = (n : ℕ) (rest : List ℕ) → (m : ℕ) × (text_run s n (text ++ rest) ≡ text_run t m rest)

pub reads_none : (s : ReaderState) → Reads s [] s
reads_none s n rest = (n, refl)

pub reads_then : (s t u : ReaderState) (a b : List ℕ) → Reads s a t → Reads t b u → Reads s (a ++ b) u
reads_then s t u a b first second n rest =
    let one = first n (b ++ rest) in
    let two = second one.0 rest in
    (two.0, ap (λ (text : List ℕ). text_run s n text) (append_assoc a b rest) ∙ one.1 ∙ two.1)

pub reads_line : (s t : ReaderState) (line : List ℕ) → IsClean line → line_read true s line ≡ Ok t
    → Reads s (line ++ 10 ∷ []) t
reads_line s t line clean e n rest = (
  n + 1,
  ap (λ (text : List ℕ). text_run s n text) (append_assoc line (10 ∷ []) rest)
      ∙ run_more true s t (joined None n (raw_lines (line ++ 10 ∷ rest))) (joined None (n + 1) (raw_lines rest)) n
      line (joined_line n line rest clean) e,
)

-- a line with a point in a listing
point_said : (line : List ℕ) → galley_line true (46 ∷ line) ≡ pointed_at line
unfolding galley_line listing_line block_line after
point_said line = refl

pub past_point : (line : List ℕ) → past (codes ".") (46 ∷ line) ≡ line
unfolding past after
past_point line = refl

pointed_line : (s : ReaderState) (line : List ℕ) (what : ParsedLine) → in_listing s.within ≡ true → pointed_at line ≡ Ok what
    → line_read true s (46 ∷ line) ≡ step s what (46 ∷ line)
unfolding line_read said_in
pointed_line s line what inside says = rw (inside, point_said line, says) refl

pub longer_node : (n : Node) (body line : List ℕ) → with_line line (node_item n body) ≡ node_item n (longer body line)
longer_node (node.Box h d) body line = refl
longer_node (node.Rule h d) body line = refl
longer_node (node.Glue w s o k) body line = refl
longer_node (node.Kern w) body line = refl
longer_node (node.Penalty v) body line = refl
longer_node (node.Insert c s) body line = refl
longer_node node.Carry body line = refl

-- states whose last item is the one that is shown
pub record HasLast (K : Item → ReaderState) : Type 0 where
  pub inside : (x : Item) → in_listing (K x).within ≡ true
  pub longer : (x : Item) (line : List ℕ) → longer_last (K x) (K x).within line ≡ Ok (K (with_line line x))

abbrev deeper_lines : List (List ℕ) → List ℕ
deeper_lines [] = []
deeper_lines (line ∷ lines) = ((46 ∷ line) ++ 10 ∷ []) ++ deeper_lines lines

one_deeper : (K : Item → ReaderState) (x : Item) (line : List ℕ) → HasLast K → IsDeeper line
    → line_read true (K x) (46 ∷ line) ≡ Ok (K (with_line line x))
unfolding step
one_deeper K x line last is = pointed_line (K x) line said.Deeper (last.inside x) is.says
    ∙ rw (past_point line) (last.longer x line)

deeper_reads : (K : Item → ReaderState) (n : Node) (body : List ℕ) (lines : List (List ℕ)) → HasLast K
    → AllByRecursion IsDeeper lines
    → Reads (K (node_item n body)) (deeper_lines lines) (K (node_item n (body ++ deeper_text lines)))
deeper_reads K n body [] last each = subst (λ (b : List ℕ). Reads (K (node_item n body)) [] (K (node_item n b)))
    (sym (append-nil body)) (reads_none (K (node_item n body)))
deeper_reads K n body (line ∷ lines) last each =
    let here = one_deeper K (node_item n body) line last each.0
    ∙ ap (λ (x : Item). Ok (K x)) (longer_node n body line) in
    let one = reads_line (K (node_item n body)) (K (node_item n (longer body line))) (46 ∷ line) each.0.clean here in
    let more = deeper_reads K n (longer body line) lines last each.1 in
    subst (λ (b : List ℕ). Reads (K (node_item n body)) (deeper_lines (line ∷ lines)) (K (node_item n b)))
    (append_assoc body (10 ∷ line) (deeper_text lines))
    (reads_then (K (node_item n body)) (K (node_item n (longer body line)))
    (K (node_item n (longer body line ++ deeper_text lines))) ((46 ∷ line) ++ 10 ∷ [])
    (deeper_lines lines) one more)

-- the text of a body is the text of its lines
pointed_clean : (line more : List ℕ) → AllByRecursion (λ c. IsTrue (is_no_feed c)) line
    → flat_map pointed_byte (line ++ more) ≡ line ++ flat_map pointed_byte more
pointed_clean [] more h = refl
pointed_clean (c ∷ cs) more h = rw (no_feed_is c h.0, pointed_clean cs more h.1) refl

body_lines : (first : List ℕ) (lines : List (List ℕ)) → AllByRecursion (λ c. IsTrue (is_no_feed c)) first
    → AllByRecursion IsDeeper lines
    → body_text (first ++ deeper_text lines) ≡ ((46 ∷ first) ++ 10 ∷ []) ++ deeper_lines lines
body_lines first [] clean each =
    ap (λ (text : List ℕ). 46 ∷ (text ++ 10 ∷ [])) (pointed_clean first [] clean ∙ append-nil first)
    ∙ sym (append-nil ((46 ∷ first) ++ 10 ∷ []))
body_lines first (line ∷ lines) clean each =
    let more = body_lines line lines each.0.clean.no_feed.1 each.1 in
    let F = flat_map pointed_byte (line ++ deeper_text lines) in
    ap (λ (text : List ℕ). 46 ∷ (text ++ 10 ∷ [])) (pointed_clean first (10 ∷ (line ++ deeper_text lines)) clean)
    ∙ ap (λ (text : List ℕ). 46 ∷ text) (append_assoc first (10 ∷ 46 ∷ F) (10 ∷ []))
    ∙ ap (λ (text : List ℕ). 46 ∷ (first ++ 10 ∷ text)) more
    ∙ sym (append_assoc (46 ∷ first) (10 ∷ []) (((46 ∷ line) ++ 10 ∷ []) ++ deeper_lines lines))

body_of_node : (n : Node) (body : List ℕ) → body_of (node_item n body) ≡ body
body_of_node (node.Box h d) body = refl
body_of_node (node.Rule h d) body = refl
body_of_node (node.Glue w s o k) body = refl
body_of_node (node.Kern w) body = refl
body_of_node (node.Penalty v) body = refl
body_of_node (node.Insert c s) body = refl
body_of_node node.Carry body = refl

first_line : (s : ReaderState) (K : Item → ReaderState) (n : Node) (line : List ℕ) → in_listing s.within ≡ true
    → ((x : Item) → placed s s.within x ≡ Ok (K x)) → pointed_at line ≡ Ok (said.Item n)
    → line_read true s (46 ∷ line) ≡ Ok (K (node_item n line))
unfolding step
first_line s K n line inside place says = pointed_line s line (said.Item n) inside says
    ∙ rw (past_point line) (place (node_item n line))

pub item_reads : (s : ReaderState) (K : Item → ReaderState) (item : Item) → IsShown item → in_listing s.within ≡ true → HasLast K
    → ((x : Item) → placed s s.within x ≡ Ok (K x)) → Reads s (body_text (body_of item)) (K item)
item_reads s K item shown inside last place =
    let n = shown.node in
    let body = shown.first ++ deeper_text shown.deeper in
    let one = reads_line s (K (node_item n shown.first)) (46 ∷ shown.first) shown.clean
    (first_line s K n shown.first inside place shown.says) in
    let more = deeper_reads K n shown.first shown.deeper last shown.each in
    let all = reads_then s (K (node_item n shown.first)) (K (node_item n body)) ((46 ∷ shown.first) ++ 10 ∷ [])
    (deeper_lines shown.deeper) one more in
    let text : body_text (body_of (node_item n body)) ≡ ((46 ∷ shown.first) ++ 10 ∷ []) ++ deeper_lines shown.deeper =
    ap body_text (body_of_node n body) ∙ body_lines shown.first shown.deeper shown.clean.no_feed.1 shown.each in
    subst (λ (x : Item). Reads s (body_text (body_of x)) (K x)) (sym shown.is)
    (subst (λ (t : List ℕ). Reads s t (K (node_item n body))) (sym text) all)

-- a listing after some blocks
abbrev pub in_list : Option ℤ → List Block → Bool → ℕ → ReaderState
in_list width blocks has_item count = record {
  blocks = blocks;
  width = width;
  within = Listing;
  variants = [];
  items = [];
  has_item = has_item;
  count = count;
}

list_last : (width : Option ℤ) (blocks : List Block) (count : ℕ)
    → HasLast (λ x. in_list width (blocks ++ block.One x ∷ []) true (count + 1))
unfolding longer_last
list_last width blocks count = record {
  inside = λ x. refl;
  longer = λ x line. ap (λ (bs : List Block). Ok (in_list width bs true (count + 1)))
      (extended_last_block line blocks (block.One x));
}

list_place : (width : Option ℤ) (blocks : List Block) (has_item : Bool) (count : ℕ) (x : Item) → count < item_limit
    → placed (in_list width blocks has_item count) Listing x
    ≡ Ok (in_list width (blocks ++ block.One x ∷ []) true (count + 1))
unfolding placed placed_block
list_place width blocks has_item count x few = rw (lt-ltb count item_limit few) refl

one_reads : (width : Option ℤ) (blocks : List Block) (has_item : Bool) (count : ℕ) (item : Item) → IsShown item
    → count < item_limit
    → Reads (in_list width blocks has_item count) (body_text (body_of item))
    (in_list width (blocks ++ block.One item ∷ []) true (count + 1))
one_reads width blocks has_item count item shown few =
    item_reads (in_list width blocks has_item count)
    (λ x. in_list width (blocks ++ block.One x ∷ []) true (count + 1)) item shown refl
    (list_last width blocks count) (λ x. list_place width blocks has_item count x few)

-- fixed lines
abbrev no_feeds : List ℕ → Bool
no_feeds [] = true
no_feeds (c ∷ cs) = is_no_feed c && no_feeds cs

pub all_no_feeds : (line : List ℕ) → IsTrue (no_feeds line) → AllByRecursion (λ c. IsTrue (is_no_feed c)) line
all_no_feeds [] e = tt
all_no_feeds (c ∷ cs) e = let p = true_both (is_no_feed c) (no_feeds cs) e in (p.0, all_no_feeds cs p.1)

-- a barrier, with its deeper lines
barrier_clean : IsClean (46 ∷ barrier_body)
unfolding barrier_body trimmed
barrier_clean = record { no_feed = all_no_feeds (46 ∷ codes "\\special{pg:flush}") refl; no_return = refl }

barrier_says : pointed_at barrier_body ≡ Ok said.Barrier
unfolding barrier_body pointed_at marker_at after
barrier_says = refl

barrier_step : (width : Option ℤ) (blocks : List Block) (has_item : Bool) (count : ℕ) → count < item_limit
    → step (in_list width blocks has_item count) said.Barrier (46 ∷ barrier_body)
    ≡ Ok (in_list width (blocks ++ block.One (Carry barrier_body) ∷ []) true (count + 1))
unfolding step placed_barrier placed_block
barrier_step width blocks has_item count few = rw (lt-ltb count item_limit few) refl

barrier_reads : (width : Option ℤ) (blocks : List Block) (has_item : Bool) (count : ℕ) (item : Item) → IsShownBarrier item
    → count < item_limit
    → Reads (in_list width blocks has_item count) (body_text (body_of item))
    (in_list width (blocks ++ block.One item ∷ []) true (count + 1))
barrier_reads width blocks has_item count item shown few =
    let s = in_list width blocks has_item count in
    let K : Item → ReaderState = λ x. in_list width (blocks ++ block.One x ∷ []) true (count + 1) in
    let body = barrier_body ++ deeper_text shown.deeper in
    let one = reads_line s (K (Carry barrier_body)) (46 ∷ barrier_body) barrier_clean
    (pointed_line s barrier_body said.Barrier refl barrier_says ∙ barrier_step width blocks has_item count few) in
    let more = deeper_reads K node.Carry barrier_body shown.deeper (list_last width blocks count) shown.each in
    let all = reads_then s (K (Carry barrier_body)) (K (Carry body)) ((46 ∷ barrier_body) ++ 10 ∷ [])
    (deeper_lines shown.deeper) one more in
    subst (λ (x : Item). Reads s (body_text (body_of x)) (K x)) (sym shown.is)
    (subst (λ (t : List ℕ). Reads s t (K (Carry body)))
    (sym (body_lines barrier_body shown.deeper barrier_clean.no_feed.1 shown.each)) all)

-- a block, after which an item may be longer or not
abbrev pub BlockReads : Option ℤ → List Block → Bool → ℕ → Block → Type 0
BlockReads width blocks has_item count b = (more : Bool) × Reads (in_list width blocks has_item count) (block_text b)
    (in_list width (blocks ++ b ∷ []) more (count + block_size b))

-- a choice
abbrev pub in_var : Option ℤ → List Block → List Variant → ℤ → ℕ → List Item → Bool → ℕ → ReaderState
in_var width blocks variants l d items has_item count =
    record {
      blocks = blocks;
      width = width;
      within = InVariant l d;
      variants = variants;
      items = items;
      has_item =
          has_item;
      count = count;
    }

abbrev pub in_choice : Option ℤ → List Block → ℕ → ReaderState
in_choice width blocks count = record {
  blocks = blocks;
  width = width;
  within = InChoice;
  variants = [];
  items = [];
  has_item = false;
  count = count;
}

var_last : (width : Option ℤ) (blocks : List Block) (variants : List Variant) (l : ℤ) (d : ℕ) (items : List Item)
    (count : ℕ) → HasLast (λ x. in_var width blocks variants l d (items ++ x ∷ []) true (count + 1))
unfolding longer_last
var_last width blocks variants l d items count = record {
  inside = λ x. refl;
  longer = λ x line. ap (λ (xs : List Item). Ok (in_var width blocks variants l d xs true (count + 1)))
      (extended_last line items x);
}

var_place : (width : Option ℤ) (blocks : List Block) (variants : List Variant) (l : ℤ) (d : ℕ) (items : List Item)
    (has_item : Bool) (count : ℕ) (x : Item) → count < item_limit
    → placed (in_var width blocks variants l d items has_item count) (InVariant l d) x
    ≡ Ok (in_var width blocks variants l d (items ++ x ∷ []) true (count + 1))
unfolding placed placed_item
var_place width blocks variants l d items has_item count x few = rw (lt-ltb count item_limit few) refl

abbrev pub ItemsRead : Option ℤ → List Block → List Variant → ℤ → ℕ → List Item → Bool → ℕ → List Item → Type 0
ItemsRead width blocks variants l d items has_item count more =
    (last : Bool) × Reads (in_var width blocks variants l d items has_item count) (items_text more)
    (in_var width blocks variants l d (items ++ more) last (count + length more))

items_read : (width : Option ℤ) (blocks : List Block) (variants : List Variant) (l : ℤ) (d : ℕ) (items : List Item)
    (has_item : Bool) (count : ℕ) (more : List Item) → AllByRecursion IsShown more → count + length more ≤ item_limit
    → ItemsRead width blocks variants l d items has_item count more
items_read width blocks variants l d items has_item count [] shown few = (
  has_item,
  subst (λ (xs : List Item). Reads (in_var width blocks variants l d items has_item count) []
      (in_var width blocks variants l d xs has_item (count + 0))) (sym (append-nil items))
      (subst (λ (n : ℕ). Reads (in_var width blocks variants l d items has_item count) []
      (in_var width blocks variants l d items has_item n)) (omega arith)
      (reads_none (in_var width blocks variants l d items has_item count))),
)
items_read width blocks variants l d items has_item count (x ∷ more) shown few =
    let from = in_var width blocks variants l d items has_item count in
    let one = item_reads from (λ x. in_var width blocks variants l d (items ++ x ∷ []) true (count + 1)) x shown.0
    refl (var_last width blocks variants l d items count)
    (λ x. var_place width blocks variants l d items has_item count x (omega arith)) in
    let rest = items_read width blocks variants l d (items ++ x ∷ []) true (count + 1) more shown.1 (omega arith) in
    let n : count + 1 + length more ≡ count + length (x ∷ more) = omega arith in
    let all = reads_then from (in_var width blocks variants l d (items ++ x ∷ []) true (count + 1))
    (in_var width blocks variants l d ((items ++ x ∷ []) ++ more) rest.0 (count + 1 + length more))
    (body_text (body_of x)) (items_text more) one rest.1 in (
      rest.0,
      subst (λ (xs : List Item). Reads from (items_text (x ∷ more))
          (in_var width blocks variants l d xs rest.0 (count + length (x ∷ more)))) (append_assoc items (x ∷ []) more)
          (subst (λ (m : ℕ). Reads from (items_text (x ∷ more))
          (in_var width blocks variants l d ((items ++ x ∷ []) ++ more) rest.0 m)) n all),
    )

choice_clean : IsClean (46 ∷ codes "\\special{pg:choice}")
unfolding trimmed
choice_clean = record { no_feed = all_no_feeds (46 ∷ codes "\\special{pg:choice}") refl; no_return = refl }

end_clean : IsClean (46 ∷ codes "\\special{pg:end}")
unfolding trimmed
end_clean = record { no_feed = all_no_feeds (46 ∷ codes "\\special{pg:end}") refl; no_return = refl }

choice_says : pointed_at (codes "\\special{pg:choice}") ≡ Ok said.ChoiceMark
unfolding pointed_at marker_at after
choice_says = refl

end_says : pointed_at (codes "\\special{pg:end}") ≡ Ok said.EndMark
unfolding pointed_at marker_at after
end_says = refl

choice_step : (width : Option ℤ) (blocks : List Block) (has_item : Bool) (count : ℕ)
    → step (in_list width blocks has_item count) said.ChoiceMark (46 ∷ codes "\\special{pg:choice}")
    ≡ Ok (in_choice width blocks count)
unfolding step begun_choice
choice_step width blocks has_item count = refl

choice_begins : (width : Option ℤ) (blocks : List Block) (has_item : Bool) (count : ℕ)
    → Reads (in_list width blocks has_item count) choice_line (in_choice width blocks count)
unfolding choice_line
choice_begins width blocks has_item count =
    reads_line (in_list width blocks has_item count) (in_choice width blocks count)
    (46 ∷ codes "\\special{pg:choice}") choice_clean
    (pointed_line (in_list width blocks has_item count) (codes "\\special{pg:choice}") said.ChoiceMark refl
    choice_says ∙ choice_step width blocks has_item count)

-- a variant's marker
abbrev mark_numbers : ℤ → ℕ → List ℕ
mark_numbers l d = signed_decimal l ++ 32 ∷ (decimal d ++ 125 ∷ [])

abbrev mark_line : ℤ → ℕ → List ℕ
mark_line l d = codes "\\special{pg:variant " ++ mark_numbers l d

all_at : {X : Type 0} (P : X → Type 0) (xs ys : List X) (x : X) → AllByRecursion P (xs ++ x ∷ ys) → P x
all_at P [] ys x h = h.0
all_at P (y ∷ xs) ys x h = all_at P xs ys x h.1

digit_no_feed : (d : ℕ) → 48 ≤ d → IsTrue (is_no_feed d)
digit_no_feed d low = let test : (d == 10) ≡ false = grind (arith, nat_tests) in ap not test

pub digits_no_feed : (ds : List ℕ) → AreDigits ds → AllByRecursion (λ c. IsTrue (is_no_feed c)) ds
digits_no_feed [] each = tt
digits_no_feed (d ∷ ds) each = (digit_no_feed d each.0, digits_no_feed ds each.2)

pub decimal_no_feed : (n : ℕ) → n < 2 ^ 64 → AllByRecursion (λ c. IsTrue (is_no_feed c)) (decimal n)
decimal_no_feed n small = digits_no_feed (decimal n) (from_all_digits (decimal n) (decimal_is_IsNumeral n small).0.1)

signed_no_feed : (l : ℤ) → nat_abs l < 2 ^ 63 → AllByRecursion (λ c. IsTrue (is_no_feed c)) (signed_decimal l)
signed_no_feed (pos n) small = decimal_no_feed n (omega arith)
signed_no_feed (negsuc n) small = (refl, decimal_no_feed (suc n) (omega arith))

mark_clean : (l : ℤ) (d : ℕ) → nat_abs l ≤ 100 → d ≤ 100000000 → IsClean (46 ∷ mark_line l d)
mark_clean l d looseness demerits =
    let P : ℕ → Type 0 = λ c. IsTrue (is_no_feed c) in
    let front = codes ".\\special{pg:variant " in
    let shape : 46 ∷ mark_line l d ≡ (front ++ (signed_decimal l ++ 32 ∷ decimal d)) ++ 125 ∷ [] =
    ap (λ (xs : List ℕ). front ++ xs) (sym (append_assoc (signed_decimal l) (32 ∷ decimal d) (125 ∷ [])))
    ∙ sym (append_assoc front (signed_decimal l ++ 32 ∷ decimal d) (125 ∷ [])) in
    record {
      no_feed = all_append P front (mark_numbers l d) (all_no_feeds front refl)
          (all_append P (signed_decimal l) (32 ∷ (decimal d ++ 125 ∷ [])) (signed_no_feed l (omega arith))
          (refl, all_append P (decimal d) (125 ∷ []) (decimal_no_feed d (omega arith)) (refl, tt)));
      no_return = ap trimmed shape ∙ no_return (front ++ (signed_decimal l ++ 32 ∷ decimal d)) 125 refl ∙ sym shape;
    }

low_ok : (l : ℤ) → nat_abs l ≤ 100 → int_le (neg_ℤ (pos 100)) l ≡ true
low_ok (pos n) h = refl
low_ok (negsuc n) h = grind (arith, nat_tests, ints)

high_ok : (l : ℤ) → nat_abs l ≤ 100 → int_le l (pos 100) ≡ true
high_ok (pos n) h = grind (arith, nat_tests, ints)
high_ok (negsuc n) h = refl

demerits_ok : (d : ℕ) → d ≤ 100000000 → int_le (pos d) (pos 100000000) ≡ true
demerits_ok d h = grind (arith, nat_tests, ints)

not_negative : (d : ℕ) → int_le (pos 0) (pos d) ≡ true
not_negative d = grind (arith, nat_tests, ints)

numbers_say : (l : ℤ) (d : ℕ) → nat_abs l ≤ 100 → d ≤ 100000000
    → variant_at (mark_numbers l d) ≡ Ok (said.VariantMark l d)
unfolding variant_at after
numbers_say l d looseness demerits =
    rw (
      whole_reads (neg_ℤ (pos 100)) (pos 100) l (32 ∷ (decimal d ++ 125 ∷ [])) (omega arith) (low_ok l looseness)
          (high_ok l looseness) refl,
      whole_reads (pos 0) (pos 100000000) (pos d) (125 ∷ []) (omega arith) (not_negative d)
          (demerits_ok d demerits) refl,
    ) refl

mark_says : (l : ℤ) (d : ℕ) → pointed_at (mark_line l d) ≡ variant_at (mark_numbers l d)
unfolding pointed_at marker_at after
mark_says l d = refl

mark_text : (variant : Variant)
    → variant_text variant ≡ ((46 ∷ mark_line variant.looseness variant.demerits) ++ 10 ∷ [])
    ++ items_text variant.items
unfolding variant_front
mark_text variant =
    let l = variant.looseness in
    let d = variant.demerits in
    let front = codes ".\\special{pg:variant " in
    let numbers : variant_numbers l d ≡ mark_numbers l d ++ 10 ∷ [] =
    ap (λ (xs : List ℕ). signed_decimal l ++ 32 ∷ xs) (sym (append_assoc (decimal d) (125 ∷ []) (10 ∷ [])))
    ∙ sym (append_assoc (signed_decimal l) (32 ∷ (decimal d ++ 125 ∷ [])) (10 ∷ [])) in
    ap (λ (xs : List ℕ). front ++ (xs ++ items_text variant.items)) numbers
    ∙ sym (append_assoc front (mark_numbers l d ++ 10 ∷ []) (items_text variant.items))
    ∙ ap (λ (xs : List ℕ). xs ++ items_text variant.items) (sym (append_assoc front (mark_numbers l d) (10 ∷ [])))

-- the marker and the items of a variant
variant_reads : (s : ReaderState) (width : Option ℤ) (blocks : List Block) (variants : List Variant) (count : ℕ)
    (variant : Variant) → in_listing s.within ≡ true
    → begun_variant s s.within variant.looseness variant.demerits
    ≡ Ok (in_var width blocks variants variant.looseness variant.demerits [] false count)
    → AllByRecursion IsShown variant.items → IsWithinLimits variant → count + length variant.items ≤ item_limit
    → (last : Bool) × Reads s (variant_text variant)
    (in_var width blocks variants variant.looseness variant.demerits variant.items last
    (count + length variant.items))
unfolding step
variant_reads s width blocks variants count variant inside begins shown limits few =
    let l = variant.looseness in
    let d = variant.demerits in
    let from = in_var width blocks variants l d [] false count in
    let here : line_read true s (46 ∷ mark_line l d) ≡ Ok from =
    pointed_line s (mark_line l d) (said.VariantMark l d) inside
    (mark_says l d ∙ numbers_say l d limits.looseness limits.demerits) ∙ begins in
    let one = reads_line s from (46 ∷ mark_line l d) (mark_clean l d limits.looseness limits.demerits) here in
    let more = items_read width blocks variants l d [] false count variant.items shown few in
    let to = in_var width blocks variants l d variant.items more.0 (count + length variant.items) in (
      more.0,
      subst (λ (text : List ℕ). Reads s text to) (sym (mark_text variant))
          (reads_then s from to ((46 ∷ mark_line l d) ++ 10 ∷ []) (items_text variant.items) one more.1),
    )

shaped_back : (variant : Variant) → IsVariant variant → is_shaped variant.items ≡ true
shaped_back variant h = both (begins_with_box variant.items) (ends_solid variant.items)
    (begins_back variant.items h.begins) (solid_back (slice_get variant.items (length variant.items - 1)) h.ends)

fits_back : (variants more : List Variant) (variant : Variant) → HaveEqualInserts (variants ++ variant ∷ more)
    → fits_first variants variant.items ≡ true
fits_back [] more variant h = refl
fits_back (first ∷ variants) more variant h =
    let same = all_at (λ (w : Variant). inserts w.items ≡ inserts first.items) variants more variant h in
    subst (λ (xs : List Item). pointwise same_insert (inserts first.items) xs ≡ true) (sym same)
    (inserts_self first.items)

close_reads : (width : Option ℤ) (blocks : List Block) (variants : List Variant) (variant : Variant) (last : Bool)
    (count : ℕ) → is_shaped variant.items ≡ true → fits_first variants variant.items ≡ true
    → closed (in_var width blocks variants variant.looseness variant.demerits variant.items last count)
    variant.looseness variant.demerits
    ≡ Ok (in_var width blocks (variants ++ variant ∷ []) variant.looseness variant.demerits [] last count)
unfolding closed
close_reads width blocks variants variant last count shaped fits = rw (shaped, fits) refl

next_reads : (width : Option ℤ) (blocks : List Block) (variants : List Variant) (l : ℤ) (d : ℕ) (last : Bool)
    (count : ℕ) (next : Variant) → length variants < 5
    → next_variant (in_var width blocks variants l d [] last count) next.looseness next.demerits
    ≡ Ok (in_var width blocks variants next.looseness next.demerits [] false count)
unfolding next_variant
next_reads width blocks variants l d last count next few = rw (lt-ltb (length variants) 5 few) refl

begun_reads : (width : Option ℤ) (blocks : List Block) (variants : List Variant) (variant : Variant) (last : Bool)
    (count : ℕ) (next : Variant) → is_shaped variant.items ≡ true → fits_first variants variant.items ≡ true
    → length (variants ++ variant ∷ []) < 5
    → begun_variant (in_var width blocks variants variant.looseness variant.demerits variant.items last count)
    (InVariant variant.looseness variant.demerits) next.looseness next.demerits
    ≡ Ok (in_var width blocks (variants ++ variant ∷ []) next.looseness next.demerits [] false count)
unfolding begun_variant
begun_reads width blocks variants variant last count next shaped fits few =
    rw (close_reads width blocks variants variant last count shaped fits)
    (next_reads width blocks (variants ++ variant ∷ []) variant.looseness variant.demerits last count next few)

end_step : (width : Option ℤ) (blocks : List Block) (variants : List Variant) (variant : Variant) (last : Bool)
    (count : ℕ) → is_shaped variant.items ≡ true → fits_first variants variant.items ≡ true
    → ended_choice (in_var width blocks variants variant.looseness variant.demerits variant.items last count)
    (InVariant variant.looseness variant.demerits)
    ≡ Ok (in_list width (blocks ++ block.Choice (variants ++ variant ∷ []) ∷ []) false count)
unfolding ended_choice whole_choice
end_step width blocks variants variant last count shaped fits =
    rw (close_reads width blocks variants variant last count shaped fits) refl

end_reads : (width : Option ℤ) (blocks : List Block) (variants : List Variant) (variant : Variant) (last : Bool)
    (count : ℕ) → is_shaped variant.items ≡ true → fits_first variants variant.items ≡ true
    → Reads (in_var width blocks variants variant.looseness variant.demerits variant.items last count) end_line
    (in_list width (blocks ++ block.Choice (variants ++ variant ∷ []) ∷ []) false count)
unfolding end_line step
end_reads width blocks variants variant last count shaped fits =
    let from = in_var width blocks variants variant.looseness variant.demerits variant.items last count in
    let to = in_list width (blocks ++ block.Choice (variants ++ variant ∷ []) ∷ []) false count in
    let says : line_read true from (46 ∷ codes "\\special{pg:end}") ≡ Ok to =
    pointed_line from (codes "\\special{pg:end}") said.EndMark refl end_says
    ∙ end_step width blocks variants variant last count shaped fits in
    reads_line from to (46 ∷ codes "\\special{pg:end}") end_clean says

abbrev pub total_of : List Variant → ℕ
total_of variants = sum_by (λ (variant : Variant). length variant.items) variants

rest_reads : (width : Option ℤ) (blocks : List Block) (variants : List Variant) (variant : Variant) (last : Bool)
    (count : ℕ) (more : List Variant)
    → AreVariants (variants ++ variant ∷ more) → AllByRecursion (λ (w : Variant). AllByRecursion IsShown w.items) more
    → count + total_of more ≤ item_limit
    → Reads (in_var width blocks variants variant.looseness variant.demerits variant.items last count)
    (flat_map variant_text more ++ end_line)
    (in_list width (blocks ++ block.Choice (variants ++ variant ∷ more) ∷ []) false (count + total_of more))
rest_reads width blocks variants variant last count [] are shown few =
    let shaped = shaped_back variant (all_at IsVariant variants [] variant are.each) in
    let fits = fits_back variants [] variant are.equal_inserts in
    let n : count ≡ count + total_of [] = omega arith in
    subst (λ (m : ℕ). Reads (in_var width blocks variants variant.looseness variant.demerits variant.items last count)
    end_line (in_list width (blocks ++ block.Choice (variants ++ variant ∷ []) ∷ []) false m)) n
    (end_reads width blocks variants variant last count shaped fits)
rest_reads width blocks variants variant last count (next ∷ more) are shown few =
    let shaped = shaped_back variant (all_at IsVariant variants (next ∷ more) variant are.each) in
    let fits = fits_back variants (next ∷ more) variant are.equal_inserts in
    let size = sum_by-cons (λ (w : Variant). length w.items) next more in
    let shape : (variants ++ variant ∷ []) ++ next ∷ more ≡ variants ++ variant ∷ next ∷ more =
    append_assoc variants (variant ∷ []) (next ∷ more) in
    let are_more = subst AreVariants (sym shape) are in
    let room : length (variants ++ variant ∷ []) < 5 =
    omega (arith, are_more.few, length-append (variants ++ variant ∷ []) (next ∷ more)) in
    let from = in_var width blocks variants variant.looseness variant.demerits variant.items last count in
    let limits = all_at IsWithinLimits (variants ++ variant ∷ []) more next are_more.limits in
    let one = variant_reads from width blocks (variants ++ variant ∷ []) count next refl
    (begun_reads width blocks variants variant last count next shaped fits room) shown.0 limits
    (omega (arith, size)) in
    let middle = in_var width blocks (variants ++ variant ∷ []) next.looseness next.demerits next.items one.0
    (count + length next.items) in
    let rest = rest_reads width blocks (variants ++ variant ∷ []) next one.0 (count + length next.items) more are_more
    shown.1 (omega (arith, size)) in
    let n : count + length next.items + total_of more ≡ count + total_of (next ∷ more) = omega (arith, size) in
    let to = in_list width (blocks ++ block.Choice ((variants ++ variant ∷ []) ++ next ∷ more) ∷ []) false
    (count + length next.items + total_of more) in
    let all = reads_then from middle to (variant_text next) (flat_map variant_text more ++ end_line) one.1 rest in
    subst (λ (ws : List Variant). Reads from (flat_map variant_text (next ∷ more) ++ end_line)
    (in_list width (blocks ++ block.Choice ws ∷ []) false (count + total_of (next ∷ more)))) shape
    (subst (λ (m : ℕ). Reads from (flat_map variant_text (next ∷ more) ++ end_line)
    (in_list width (blocks ++ block.Choice ((variants ++ variant ∷ []) ++ next ∷ more) ∷ []) false m)) n
    (subst (λ (text : List ℕ). Reads from text to)
    (sym (append_assoc (variant_text next) (flat_map variant_text more) end_line)) all))

first_step : (width : Option ℤ) (blocks : List Block) (count : ℕ) (variant : Variant)
    → begun_variant (in_choice width blocks count) InChoice variant.looseness variant.demerits
    ≡ Ok (in_var width blocks [] variant.looseness variant.demerits [] false count)
unfolding begun_variant next_variant
first_step width blocks count variant = refl

choice_reads : (width : Option ℤ) (blocks : List Block) (has_item : Bool) (count : ℕ) (variants : List Variant)
    → IsShownBlock (block.Choice variants) → IsBlock (block.Choice variants)
    → count + block_size (block.Choice variants) ≤ item_limit
    → Reads (in_list width blocks has_item count) (block_text (block.Choice variants))
    (in_list width (blocks ++ block.Choice variants ∷ []) false (count + block_size (block.Choice variants)))
choice_reads width blocks has_item count [] shown is few = absurd (omega (arith, is.shape.some))
choice_reads width blocks has_item count (variant ∷ variants) shown is few =
    let size = sum_by-cons (λ (w : Variant). length w.items) variant variants in
    let are : AreVariants (variant ∷ variants) = record {
      few = is.shape.few;
      each = is.shape.each;
      equal_inserts =
          is.equal_inserts;
      limits = is.limits;
      ranges = is.ranges;
    } in
    let start = in_list width blocks has_item count in
    let one = variant_reads (in_choice width blocks count) width blocks [] count variant refl
    (first_step width blocks count variant) shown.0 is.limits.0 (omega (arith, size)) in
    let middle = in_var width blocks [] variant.looseness variant.demerits variant.items one.0
    (count + length variant.items) in
    let rest = rest_reads width blocks [] variant one.0 (count + length variant.items) variants are shown.1
    (omega (arith, size)) in
    let to = in_list width (blocks ++ block.Choice (variant ∷ variants) ∷ []) false
    (count + length variant.items + total_of variants) in
    let inner = reads_then (in_choice width blocks count) middle to (variant_text variant)
    (flat_map variant_text variants ++ end_line) one.1 rest in
    let text : variant_text variant ++ (flat_map variant_text variants ++ end_line) ≡ flat_map variant_text
    (variant ∷ variants) ++ end_line =
    sym (append_assoc (variant_text variant) (flat_map variant_text variants) end_line) in
    let all = reads_then start (in_choice width blocks count) to choice_line
    (flat_map variant_text (variant ∷ variants) ++ end_line) (choice_begins width blocks has_item count)
    (subst (λ (t : List ℕ). Reads (in_choice width blocks count) t to) text inner) in
    let n : count + length variant.items + total_of variants ≡ count + block_size
    (block.Choice (variant ∷ variants)) = omega (arith, size) in
    subst (λ (m : ℕ). Reads start (block_text (block.Choice (variant ∷ variants)))
    (in_list width (blocks ++ block.Choice (variant ∷ variants) ∷ []) false m)) n all

block_reads : (width : Option ℤ) (blocks : List Block) (has_item : Bool) (count : ℕ) (b : Block) → IsShownBlock b
    → IsBlock b → count + block_size b ≤ item_limit → BlockReads width blocks has_item count b
block_reads width blocks has_item count (block.One item) (inl shown) is few =
    (true, one_reads width blocks has_item count item shown (omega arith))
block_reads width blocks has_item count (block.One item) (inr shown) is few =
    (true, barrier_reads width blocks has_item count item shown (omega arith))
block_reads width blocks has_item count (block.Choice variants) shown is few =
    (false, choice_reads width blocks has_item count variants shown is few)

abbrev pub BlocksRead : Option ℤ → List Block → Bool → ℕ → List Block → Type 0
BlocksRead width blocks has_item count more = (last : Bool) × Reads (in_list width blocks has_item count)
    (flat_map block_text more) (in_list width (blocks ++ more) last (count + item_count more))

pub blocks_read : (width : Option ℤ) (blocks : List Block) (has_item : Bool) (count : ℕ) (more : List Block)
    → AllByRecursion IsShownBlock more → AllByRecursion IsBlock more → count + item_count more ≤ item_limit
    → BlocksRead width blocks has_item count more
blocks_read width blocks has_item count [] shown is few = (
  has_item,
  subst (λ (bs : List Block). Reads (in_list width blocks has_item count) [] (in_list width bs has_item (count + 0)))
      (sym (append-nil blocks))
      (subst (λ (n : ℕ). Reads (in_list width blocks has_item count) [] (in_list width blocks has_item n))
      (omega arith) (reads_none (in_list width blocks has_item count))),
)
blocks_read width blocks has_item count (b ∷ more) shown is few =
    let size = sum_by-cons block_size b more in
    let one = block_reads width blocks has_item count b shown.0 is.0 (omega (arith, size)) in
    let rest = blocks_read width (blocks ++ b ∷ []) one.0 (count + block_size b) more shown.1 is.1
    (omega (arith, size)) in
    let n : count + block_size b + item_count more ≡ count + item_count (b ∷ more) = omega (arith, size) in
    let all = reads_then (in_list width blocks has_item count)
    (in_list width (blocks ++ b ∷ []) one.0 (count + block_size b))
    (in_list width ((blocks ++ b ∷ []) ++ more) rest.0 (count + block_size b + item_count more))
    (block_text b) (flat_map block_text more) one.1 rest.1 in (
      rest.0,
      subst (λ (bs : List Block). Reads (in_list width blocks has_item count) (flat_map block_text (b ∷ more))
          (in_list width bs rest.0 (count + item_count (b ∷ more)))) (append_assoc blocks (b ∷ []) more)
          (subst (λ (m : ℕ). Reads (in_list width blocks has_item count) (flat_map block_text (b ∷ more))
          (in_list width ((blocks ++ b ∷ []) ++ more) rest.0 m)) n all),
    )
