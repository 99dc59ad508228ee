-- What is read of a file of paragraphs is what its paragraphs say.
use Rattle.std.proofs.Common.{◌≡◌, ◌∙◌, refl, sym, ap, subst, arith, ℕ, suc, ◌+◌, ◌≤◌, ◌⊎◌, inl, inr, Bool, true, false, List, [], ◌∷◌, ◌++◌, length, append-nil, append_assoc, length-append, Option, Some, None}
use Rattle.std.specs.Prelude.{◌==◌, ◌&&◌, codes, drop, if◌then◌else◌, is_some, nat_lt, not, take_while, Result, Ok, Err}
use Rattle.std.proofs.lemmas.Bool.{eqb-true}
use Rattle.std.specs.List.{AllByRecursion}
use Rattle.std.specs.Str.{bytes_eq}
use Rattle.pg_lemmas.proofs.Bools.{by_bool, if_false, if_true}
use Rattle.pg_lemmas.proofs.Lists.{all_append, none_is, some_is}
use Rattle.pg_lemmas.proofs.Numbers.{less_true}
use Rattle.pg_list.specs.Bodies.{longer}
use Rattle.pg_scan.specs.Lines.{Line, joined, raw_lines}
use Rattle.pg_scan.specs.Parts.{after, on}
use Rattle.pg_showbox.specs.ParsedLine.{ends_cut}
use Rattle.pg_showbox.specs.Parts.{◌>>=◌, due, past_size}
use Rattle.pg_showbox.specs.Reading.{at_line, then_ok}
use Rattle.pg_showbox.specs.declared.kinds.ListFault.{ListFault}
use Rattle.pg_showbox.specs.declared.kinds.ListKind.{ListKind}
use Rattle.pg_showbox.specs.declared.kinds.ListKind.TheVariants.{BadLine, Limit, NoListing, Truncated}
use Rattle.pg_hlist.specs.Items.{extended, node_item, para_limit, with_line}
use Rattle.pg_hlist.specs.Nodes.{node_at}
use Rattle.pg_hlist.specs.ParsedLine.{inside_line, line_parsed, outside_line, pointed_at, root_at}
use Rattle.pg_hlist.specs.Reading.{closed, empty, ended, line_read, longer_last, opened, paras_of, placed, run, some_paras, step}
use Rattle.pg_hlist.specs.declared.draft.Draft.{Draft}
use Rattle.pg_hlist.specs.declared.item.HItem.{HItem}
use Rattle.pg_hlist.specs.declared.item.HNode.{HNode}
use Rattle.pg_hlist.specs.declared.item.HNode.TheVariants as node
use Rattle.pg_hlist.specs.declared.item.ParaLine.{ParaLine}
use Rattle.pg_hlist.specs.declared.item.ParaLine.TheVariants as said
use Rattle.law_words.proofs.Equal.{bytes_same}
use Rattle.law_readers.specs.Galleys.{AreClosed, behind_point, further_lines}
use Rattle.law_readers.specs.InOrder.{InOrder}
use Rattle.law_readers.specs.LinesRead.{lines_read}
use Rattle.law_readers.specs.Paragraphs.{IsDeeper, Paragraph, ParagraphFaultsStay, PassesOverLinesOutside, ReadsItsParagraphs, SayParagraphs, SaysItem, begins_paragraph, is_filled, paragraphs}
use Rattle.law_readers.proofs.Joined.{From, ends_whole, joined_both, joined_from, texts}
use Rattle.law_readers.proofs.Listed.{if_said, ok_said, said_inside}
use Rattle.law_readers.proofs.Ordered.{further_more, in_order_longer, in_order_more, taken_more, taken_none}
use Rattle.pg_showbox.proofs.ShownLemmas.{then_is}
use Rattle.law_readers.proofs.Through.{at_inside, fault_line}

-- each line leads from one draft to the next
abbrev pub Leads : Draft → List (List ℕ) → Draft → Type 0
Leads s [] t = s ≡ t
Leads s (line ∷ lines) t = (u : Draft) × (line_read s line ≡ Ok u) × Leads u lines t

pub leads_both : (s u t : Draft) (lines more : List (List ℕ)) → Leads s lines u → Leads u more t → Leads s (lines ++ more) t
leads_both s u t [] more first second = subst (λ (x : Draft). Leads x more t) (sym first) second
leads_both s u t (line ∷ lines) more (next, is, rest) second = (next, is, leads_both next u t lines more rest second)

leads_cut : (s t : Draft) (lines more : List (List ℕ)) → Leads s (lines ++ more) t →
    (u : Draft) × Leads s lines u × Leads u more t
leads_cut s t [] more all = (s, refl, all)
leads_cut s t (line ∷ lines) more (next, is, rest) =
    let (u, first, second) = leads_cut next t lines more rest in (u, (next, is, first), second)

run_leads : (s t : Draft) (lines : List Line) → run s lines ≡ Ok t → Leads s (texts lines) t
unfolding run
run_leads s t [] e = cc
run_leads s t (line ∷ lines) e =
    let (u, is, rest) = then_is (at_line line.number (line_read s line.text)) (λ (x : Draft). run x lines) t e in
    (u, at_inside line.number (line_read s line.text) u is, run_leads u t lines rest)

leads_run : (s t : Draft) (lines : List Line) → Leads s (texts lines) t → run s lines ≡ Ok t
unfolding run
leads_run s t [] e = ap (λ (x : Draft). Ok x) e
leads_run s t (line ∷ lines) (u, is, rest) =
    ap (λ (r : Result Draft ListKind). then_ok (at_line line.number r) (λ x. run x lines)) is
    ∙ leads_run u t lines rest

some_inside : (all paras : List (List HItem)) → some_paras all ≡ Ok paras → all ≡ paras
some_inside [] paras e = absurd cc
some_inside (items ∷ all) paras e = cc

-- the lines of a file lead to some paragraphs
pub record LeadsTo (lines : List (List ℕ)) (paras : List (List HItem)) : Type 0 where
  pub last : Draft
  pub through : Leads empty lines last
  pub some : some_paras (closed last).paras ≡ Ok paras

paras_lead : (text : List ℕ) (paras : List (List HItem)) → paras_of text ≡ Ok paras →
    LeadsTo (lines_read None text) paras
unfolding paras_of
paras_lead text paras e =
    let (last, read, some) = then_is (run empty (joined None 1 (raw_lines text)))
    (λ (s : Draft). some_paras (closed s).paras) paras e in
    record { last = last; through = run_leads empty last (joined None 1 (raw_lines text)) read; some = some }

pub lead_paras : (text : List ℕ) (paras : List (List HItem)) → LeadsTo (lines_read None text) paras →
    paras_of text ≡ Ok paras
unfolding paras_of
lead_paras text paras leads =
    ap (λ (r : Result Draft ListFault). then_ok r (λ (s : Draft). some_paras (closed s).paras))
    (leads_run empty leads.last (joined None 1 (raw_lines text)) leads.through) ∙ leads.some

-- ---- items

pub node_longer : (it : HNode) (body line : List ℕ) → with_line line (node_item it body) ≡ node_item it (longer body line)
node_longer (node.Box width height depth) body line = refl
node_longer (node.Glue width stretch order shrink) body line = refl
node_longer (node.Kern width) body line = refl
node_longer (node.Penalty value) body line = refl

says_longer : (lines : List (List ℕ)) (item : HItem) (line : List ℕ) → SaysItem lines item → IsDeeper line →
    SaysItem (lines ++ line ∷ []) (with_line (behind_point line) item)
says_longer lines item line says deeper = record {
  first = says.first;
  deeper = says.deeper ++ line ∷ [];
  node = says.node;
  are = ap (λ (l : List (List ℕ)). l ++ line ∷ []) says.are;
  says = says.says;
  goes_on = all_append IsDeeper says.deeper (line ∷ []) says.goes_on (deeper, tt);
  is = ap (with_line (behind_point line)) says.is
      ∙ node_longer says.node (behind_point says.first ++ further_lines says.deeper) (behind_point line)
      ∙ ap (λ (text : List ℕ). node_item says.node text)
      (append_assoc (behind_point says.first) (further_lines says.deeper) (10 ∷ behind_point line)
      ∙ ap (λ (text : List ℕ). behind_point says.first ++ text) (sym (further_more says.deeper line)));
}

longer_items : (lines : List (List ℕ)) (items : List HItem) (line : List ℕ) → 1 ≤ length items →
    InOrder SaysItem lines items → IsDeeper line →
    InOrder SaysItem (lines ++ line ∷ []) (extended (behind_point line) items)
longer_items lines items line some are deeper = in_order_longer SaysItem (λ (items : List HItem). 1 ≤ length items) line
    (with_line (behind_point line)) (extended (behind_point line)) (record {
      some = λ none. omega (arith, none);
      behind = λ x y xs _. omega arith;
      last = λ x. refl;
      more = λ x y xs. refl;
      says = λ part x _ says. says_longer part x line says deeper;
    }) lines items some are

extended_length : (items : List HItem) (line : List ℕ) → length (extended line items) ≡ length items
extended_length [] line = refl
extended_length (item ∷ []) line = refl
extended_length (item ∷ next ∷ items) line = ap suc (extended_length (next ∷ items) line)

one_says : (line : List ℕ) (it : HNode) → inside_line line ≡ Ok (said.Item it) →
    SaysItem (line ∷ []) (node_item it (behind_point line))
one_says line it says = record {
  first = line;
  deeper = [];
  node = it;
  are = refl;
  says = says;
  goes_on = tt;
  is = ap (λ (text : List ℕ). node_item it text) (sym (append-nil (behind_point line)));
}

-- ---- lines in a paragraph

-- a line that is not empty begins with a point, and says an item or goes on with one
record IsItemLine (line : List ℕ) (it : ParaLine) : Type 0 where
  pointed : is_some (after (codes ".") line) ≡ true
  is : (it ≡ said.Deeper) ⊎ ((one : HNode) × (it ≡ said.Item one))

pointed_said : (bytes : List ℕ) (it : ParaLine) → pointed_at bytes ≡ Ok it →
    (it ≡ said.Deeper) ⊎ ((one : HNode) × (it ≡ said.Item one))
unfolding pointed_at
pointed_said bytes it e = by (is_some (after (codes ".") bytes)) e
  where
    by : (b : Bool) → (if b then Ok said.Deeper else node_at bytes >>= (λ one. Ok (said.Item one))) ≡ Ok it →
        (it ≡ said.Deeper) ⊎ ((one : HNode) × (it ≡ said.Item one))
    by true e = inl (sym (ok_said said.Deeper it e))
    by false e =
        let (one, _, last) = said_inside (node_at bytes) (λ (one : HNode). Ok (said.Item one)) it e in
        inr (one, sym (ok_said (said.Item one) it last))

item_line : (line : List ℕ) (it : ParaLine) → bytes_eq line [] ≡ false → inside_line line ≡ Ok it → IsItemLine line it
unfolding inside_line
item_line line it some e = by (after (codes ".") line) refl
    (sym (if_false (bytes_eq line []) (Ok said.Blank) (on (after (codes ".") line) pointed_at (Err BadLine)) some) ∙ e)
  where
    by : (o : Option (List ℕ)) → after (codes ".") line ≡ o → on o pointed_at (Err BadLine) ≡ Ok it →
        IsItemLine line it
    by None at e = absurd cc
    by (Some bytes) at e = record { pointed = ap is_some at; is = pointed_said bytes it e }

-- and is no root
pub no_root : (line : List ℕ) → is_some (after (codes ".") line) ≡ true → begins_paragraph line ≡ false
unfolding after
no_root [] point = absurd cc
no_root (c ∷ cs) point = by (c == 46) refl point
  where
    by : (b : Bool) → (c == 46) ≡ b → is_some (if b && true then Some (drop 1 (c ∷ cs)) else None) ≡ true →
        begins_paragraph (c ∷ cs) ≡ false
    by true is point =
        let same : c ≡ 46 = eqb-true c 46 is in
        subst (λ (x : ℕ). begins_paragraph (x ∷ cs) ≡ false) (sym same) refl
    by false is point = absurd cc

pub root_empty : (line : List ℕ) → line ≡ [] → begins_paragraph line ≡ false
unfolding after
root_empty line e = subst (λ (x : List ℕ). begins_paragraph x ≡ false) (sym e) refl

-- the lines of a paragraph so far have said these items
record HoldsItems (paras : List (List HItem)) (before : List (List ℕ)) (s : Draft) : Type 0 where
  items : List HItem
  at : s.current ≡ Some items
  kept : s.paras ≡ paras
  are : InOrder SaysItem before items
  few : length items ≤ para_limit

module _ (paras : List (List HItem)) (before : List (List ℕ)) (line : List ℕ) (s u : Draft) where
  with_items : (items : List HItem) → opened s items ≡ u → s.paras ≡ paras →
      InOrder SaysItem (before ++ line ∷ []) items → length items ≤ para_limit → HoldsItems paras (before ++ line ∷ []) u
  with_items items same kept are few = record {
    items = items;
    at = sym (ap (λ (x : Draft). x.current) same);
    kept = sym (ap (λ (x : Draft). x.paras) same) ∙ kept;
    are = are;
    few = few;
  }

  item_step : (it : HNode) (items : List HItem) → s.paras ≡ paras → InOrder SaysItem before items →
      length items ≤ para_limit → inside_line line ≡ Ok (said.Item it) →
      placed s (Some items) (node_item it (behind_point line)) ≡ Ok u → HoldsItems paras (before ++ line ∷ []) u
  unfolding placed
  item_step it items kept are few says e =
      let (less, same) = if_said (nat_lt (length items) para_limit)
      (opened s (items ++ node_item it (behind_point line) ∷ [])) u Limit e in
      let fewer = less_true (length items) para_limit less in
      let long = length-append items (node_item it (behind_point line) ∷ []) in
      with_items (items ++ node_item it (behind_point line) ∷ []) same kept
      (in_order_more SaysItem before (line ∷ []) items (node_item it (behind_point line)) are (one_says line it says))
      (omega (arith, long, fewer))

  deeper_step : (items : List HItem) → s.paras ≡ paras → InOrder SaysItem before items → length items ≤ para_limit →
      IsDeeper line → longer_last s (Some items) (behind_point line) ≡ Ok u → HoldsItems paras (before ++ line ∷ []) u
  unfolding longer_last
  deeper_step [] kept are few deeper e = absurd cc
  deeper_step (item ∷ items) kept are few deeper e =
      let long = extended_length (item ∷ items) (behind_point line) in
      with_items (extended (behind_point line) (item ∷ items))
      (ok_said (opened s (extended (behind_point line) (item ∷ items))) u e) kept
      (longer_items before (item ∷ items) line (omega arith) are deeper) (omega (arith, long, few))

  inside_step : HoldsItems paras before s → bytes_eq line [] ≡ false → line_read s line ≡ Ok u →
      HoldsItems paras (before ++ line ∷ []) u × (begins_paragraph line ≡ false)
  unfolding line_read line_parsed step
  inside_step holds some e =
      let (it, says, steps) = said_inside (line_parsed (is_some s.current) line) (λ (it : ParaLine). step s it line) u e in
      let alone : inside_line line ≡ Ok it =
      sym (ap (λ (o : Option (List HItem)). line_parsed (is_some o) line) holds.at) ∙ says in
      let item = item_line line it some alone in
      (by it item.is alone steps, no_root line item.pointed)
    where
      by : (it : ParaLine) → (it ≡ said.Deeper) ⊎ ((one : HNode) × (it ≡ said.Item one)) → inside_line line ≡ Ok it →
          step s it line ≡ Ok u → HoldsItems paras (before ++ line ∷ []) u
      by it (inl deeper) alone steps =
          deeper_step holds.items holds.kept holds.are holds.few (alone ∙ ap (λ (x : ParaLine). Ok x) deeper)
          (sym (ap (λ (x : ParaLine). step s x line) deeper
          ∙ ap (λ (o : Option (List HItem)). longer_last s o (behind_point line)) holds.at) ∙ steps)
      by it (inr (one, is)) alone steps =
          item_step one holds.items holds.kept holds.are holds.few (alone ∙ ap (λ (x : ParaLine). Ok x) is)
          (sym (ap (λ (x : ParaLine). step s x line) is
          ∙ ap (λ (o : Option (List HItem)). placed s o (node_item one (behind_point line))) holds.at) ∙ steps)

  blank_step : HoldsItems paras before s → bytes_eq line [] ≡ true → line_read s line ≡ Ok u → closed s ≡ u
  unfolding line_read line_parsed step inside_line
  blank_step holds none e = ok_said (closed s) u
      (sym (ap (λ (o : Option (List HItem)). line_parsed (is_some o) line >>= (λ it. step s it line)) holds.at
      ∙ ap (λ (r : Result ParaLine ListKind). r >>= (λ it. step s it line))
      (if_true (bytes_eq line []) (Ok said.Blank) (on (after (codes ".") line) pointed_at (Err BadLine)) none)) ∙ e)

-- ---- lines outside of paragraphs

pub outside_read : (s : Draft) (line : List ℕ) → s.current ≡ None → begins_paragraph line ≡ false → line_read s line ≡ Ok s
unfolding line_read line_parsed step outside_line
outside_read s line at other =
    ap (λ (o : Option (List HItem)). line_parsed (is_some o) line >>= (λ it. step s it line)) at
    ∙ ap (λ (o : Option (List ℕ)). on o (root_at line) (Ok said.Nothing) >>= (λ it. step s it line))
    (none_is (after (codes "\\hbox(") line) other)

root_only : (line sizes : List ℕ) (it : ParaLine) → root_at line sizes ≡ Ok it → it ≡ said.Root
unfolding root_at
root_only line sizes it e =
    let (plus, _, behind_plus) = said_inside (past_size sizes) (λ (plus : List ℕ). due (codes "+") plus
    >>= (λ depth. past_size depth >>= (λ close. due (codes ")x") close >>= (λ width. past_size width
    >>= (λ rest. if ends_cut line then Err Truncated else Ok said.Root))))) it e in
    let (depth, _, behind_depth) = said_inside (due (codes "+") plus) (λ (depth : List ℕ). past_size depth
    >>= (λ close. due (codes ")x") close >>= (λ width. past_size width
    >>= (λ rest. if ends_cut line then Err Truncated else Ok said.Root)))) it behind_plus in
    let (close, _, behind_close) = said_inside (past_size depth) (λ (close : List ℕ). due (codes ")x") close
    >>= (λ width. past_size width
    >>= (λ rest. if ends_cut line then Err Truncated else Ok said.Root))) it behind_depth in
    let (width, _, behind_width) = said_inside (due (codes ")x") close) (λ (width : List ℕ). past_size width
    >>= (λ rest. if ends_cut line then Err Truncated else Ok said.Root)) it behind_close in
    let (rest, _, last) = said_inside (past_size width)
    (λ (rest : List ℕ). if ends_cut line then Err Truncated else Ok said.Root) it behind_width in
    cut (ends_cut line) last
  where
    cut : (b : Bool) → (if b then Err Truncated else Ok said.Root) ≡ Ok it → it ≡ said.Root
    cut true e = absurd cc
    cut false e = sym (ok_said said.Root it e)

root_line : (line rest : List ℕ) → after (codes "\\hbox(") line ≡ Some rest → outside_line line ≡ root_at line rest
unfolding outside_line
root_line line rest at = ap (λ (o : Option (List ℕ)). on o (root_at line) (Ok said.Nothing)) at

root_read : (s u : Draft) (line : List ℕ) → s.current ≡ None → begins_paragraph line ≡ true → line_read s line ≡ Ok u →
    (outside_line line ≡ Ok said.Root) × (opened s [] ≡ u)
unfolding line_read line_parsed step
root_read s u line at root e =
    let (it, says, steps) = said_inside (line_parsed (is_some s.current) line) (λ (it : ParaLine). step s it line) u e in
    let alone : outside_line line ≡ Ok it =
    sym (ap (λ (o : Option (List HItem)). line_parsed (is_some o) line) at) ∙ says in
    let (rest, found) = some_is (after (codes "\\hbox(") line) root in
    let is = root_only line rest it (sym (root_line line rest found) ∙ alone) in (
      alone ∙ ap (λ (x : ParaLine). Ok x) is,
      ok_said (opened s []) u (sym (ap (λ (x : ParaLine). step s x line) is) ∙ steps),
    )

-- ---- all lines

-- outside of paragraphs: what follows are the paragraphs to come
record SaysOutside (s last : Draft) (lines : List (List ℕ)) : Type 0 where
  mine : List (List HItem)
  paras : ended last.paras last.current ≡ s.paras ++ mine
  are : SayParagraphs mine (paragraphs lines)

-- in a paragraph: the rest of its lines comes first
record SaysInside (paras : List (List HItem)) (before : List (List ℕ)) (last : Draft) (lines : List (List ℕ)) :
    Type 0 where
  items : List HItem
  mine : List (List HItem)
  all : ended last.paras last.current ≡ paras ++ items ∷ mine
  each : InOrder SaysItem (before ++ take_while is_filled lines) items
  few : length items ≤ para_limit
  are : SayParagraphs mine (paragraphs lines)

abbrev Says : List (List ℕ) → Draft → Draft → Type 0
Says lines s last = (s.current ≡ None → SaysOutside s last lines)
    × ((paras : List (List HItem)) (before : List (List ℕ)) → HoldsItems paras before s →
    SaysInside paras before last lines)

no_more : (s t : Draft) → s ≡ t → Says [] s t
no_more s t same = (
  λ at. record {
    mine = [];
    paras = sym (ap (λ (x : Draft). ended x.paras x.current) same) ∙ ap (ended s.paras) at ∙ sym (append-nil s.paras);
    are = tt;
  },
  λ paras before holds. record {
    items = holds.items;
    mine = [];
    all = sym (ap (λ (x : Draft). ended x.paras x.current) same) ∙ ap (ended s.paras) holds.at
        ∙ ap (λ (x : List (List HItem)). x ++ holds.items ∷ []) holds.kept;
    each = subst (λ (l : List (List ℕ)). InOrder SaysItem l holds.items) (sym (append-nil before)) holds.are;
    few = holds.few;
    are = tt;
  },
)

module _ (line : List ℕ) (lines : List (List ℕ)) (s u last : Draft) (read : line_read s line ≡ Ok u)
    (later : Says lines u last) where
  paragraphs_same : begins_paragraph line ≡ false → (mine : List (List HItem)) → SayParagraphs mine (paragraphs lines) →
      SayParagraphs mine (paragraphs (line ∷ lines))
  paragraphs_same other mine are = subst (λ (all : List Paragraph). SayParagraphs mine all)
      (sym (if_false (begins_paragraph line) (record { root = line; lines = take_while is_filled lines } ∷ paragraphs lines)
      (paragraphs lines) other)) are

  at_root : s.current ≡ None → begins_paragraph line ≡ true → SaysOutside s last (line ∷ lines)
  at_root at root =
      let (says, same) = root_read s u line at root read in
      let holds : HoldsItems s.paras [] u = record {
        items = [];
        at = sym (ap (λ (x : Draft). x.current) same);
        kept = sym (ap (λ (x : Draft). x.paras) same);
        are = refl;
        few = omega arith;
      } in
      let it = later.1 s.paras [] holds in
      record {
        mine = it.items ∷ it.mine;
        paras = it.all;
        are = subst (λ (all : List Paragraph). SayParagraphs (it.items ∷ it.mine) all)
            (sym (if_true (begins_paragraph line)
            (record { root = line; lines = take_while is_filled lines } ∷ paragraphs lines) (paragraphs lines) root))
            (record { root = says; each = it.each; few = it.few }, it.are);
      }

  at_other : s.current ≡ None → begins_paragraph line ≡ false → SaysOutside s last (line ∷ lines)
  at_other at other =
      let same = ok_said s u (sym (outside_read s line at other) ∙ read) in
      let it = later.0 (sym (ap (λ (x : Draft). x.current) same) ∙ at) in
      record {
        mine = it.mine;
        paras = it.paras ∙ ap (λ (x : Draft). x.paras ++ it.mine) (sym same);
        are = paragraphs_same other it.mine it.are;
      }

  filled_test : (b : Bool) → b ≡ false → not b ≡ true
  filled_test b e = ap not e

  at_item : (paras : List (List HItem)) (before : List (List ℕ)) → HoldsItems paras before s →
      bytes_eq line [] ≡ false → SaysInside paras before last (line ∷ lines)
  at_item paras before holds some =
      let (next, other) = inside_step paras before line s u holds some read in
      let it = later.1 paras (before ++ line ∷ []) next in
      record {
        items = it.items;
        mine = it.mine;
        all = it.all;
        each = subst (λ (l : List (List ℕ)). InOrder SaysItem l it.items)
            (append_assoc before (line ∷ []) (take_while is_filled lines)
            ∙ ap (λ (l : List (List ℕ)). before ++ l)
            (sym (taken_more is_filled line lines (filled_test (bytes_eq line []) some)))) it.each;
        few = it.few;
        are = paragraphs_same other it.mine it.are;
      }

  at_blank : (paras : List (List HItem)) (before : List (List ℕ)) → HoldsItems paras before s →
      bytes_eq line [] ≡ true → SaysInside paras before last (line ∷ lines)
  at_blank paras before holds none =
      let same = blank_step paras before line s u holds none read in
      let it = later.0 (sym (ap (λ (x : Draft). x.current) same)) in
      let blank : line ≡ [] = bytes_same line [] none in
      record {
        items = holds.items;
        mine = it.mine;
        all = it.paras ∙ ap (λ (x : List (List HItem)). x ++ it.mine)
            (sym (ap (λ (x : Draft). x.paras) same) ∙ ap (ended s.paras) holds.at
            ∙ ap (λ (x : List (List HItem)). x ++ holds.items ∷ []) holds.kept)
            ∙ append_assoc paras (holds.items ∷ []) it.mine;
        each = subst (λ (l : List (List ℕ)). InOrder SaysItem l holds.items)
            (sym (ap (λ (l : List (List ℕ)). before ++ l) (taken_none is_filled line lines (ap not none))
            ∙ append-nil before)) holds.are;
        few = holds.few;
        are = paragraphs_same (root_empty line blank) it.mine it.are;
      }

  any_line : Says (line ∷ lines) s last
  any_line = (
    λ at. by_bool (begins_paragraph line) (at_root at) (at_other at),
    λ paras before holds. by_bool (bytes_eq line []) (at_blank paras before holds) (at_item paras before holds),
  )

says_all : (lines : List (List ℕ)) (s t : Draft) → Leads s lines t → Says lines s t
says_all [] s t leads = no_more s t leads
says_all (line ∷ lines) s t (u, read, rest) = any_line line lines s u t read (says_all lines u t rest)

pub reads_paragraphs : ReadsItsParagraphs
reads_paragraphs text paras e =
    let leads = paras_lead text paras e in
    let it = (says_all (lines_read None text) empty leads.last leads.through).0 refl in
    subst (λ (x : List (List HItem)). SayParagraphs x (paragraphs (lines_read None text)))
    (sym it.paras ∙ some_inside (closed leads.last).paras paras leads.some) it.are

-- ---- lines that do not matter

outside_lines : (s : Draft) (lines : List (List ℕ)) → s.current ≡ None →
    AllByRecursion (λ line. begins_paragraph line ≡ false) lines → Leads s lines s
outside_lines s [] at each = refl
outside_lines s (line ∷ lines) at each = (s, outside_read s line at each.0, outside_lines s lines at each.1)

outside_leads : (s t : Draft) (lines : List (List ℕ)) → s.current ≡ None →
    AllByRecursion (λ line. begins_paragraph line ≡ false) lines → Leads s lines t → s ≡ t
outside_leads s t [] at each leads = leads
outside_leads s t (line ∷ lines) at each (u, is, rest) =
    let same = ok_said s u (sym (outside_read s line at each.0) ∙ is) in
    same ∙ outside_leads u t lines (sym (ap (λ (x : Draft). x.current) same) ∙ at) each.1 rest

empty_read : (s u : Draft) → line_read s [] ≡ Ok u → u.current ≡ None
unfolding line_read line_parsed step inside_line outside_line after
empty_read s u e = by s.current refl e
  where
    by : (o : Option (List HItem)) → s.current ≡ o → (line_parsed (is_some o) [] >>= (λ it. step s it [])) ≡ Ok u →
        u.current ≡ None
    by None at e = sym (ap (λ (x : Draft). x.current) (ok_said s u e)) ∙ at
    by (Some items) at e = sym (ap (λ (x : Draft). x.current) (ok_said (closed s) u e))

closed_outside : (lines : List (List ℕ)) (t : Draft) → AreClosed lines → Leads empty lines t → t.current ≡ None
closed_outside lines t (inl none) leads =
    let same = subst (λ (l : List (List ℕ)). Leads empty l t) none leads in
    sym (ap (λ (x : Draft). x.current) same)
closed_outside lines t (inr (front, cut)) leads =
    let (u, _, (v, is, rest)) = leads_cut empty t front ([] ∷ [])
    (subst (λ (l : List (List ℕ)). Leads empty l t) cut leads) in
    sym (ap (λ (x : Draft). x.current) rest) ∙ empty_read u v is

module _ (before outside behind : List (List ℕ)) (paras : List (List HItem)) (ends : AreClosed before)
    (each : AllByRecursion (λ line. begins_paragraph line ≡ false) outside) where
  leave_out : LeadsTo (before ++ (outside ++ behind)) paras → LeadsTo (before ++ behind) paras
  leave_out leads =
      let (u, first, rest) = leads_cut empty leads.last before (outside ++ behind) leads.through in
      let (v, skipped, last) = leads_cut u leads.last outside behind rest in
      let same = outside_leads u v outside (closed_outside before u ends first) each skipped in
      record {
        last = leads.last;
        through = leads_both empty u leads.last before behind first
            (subst (λ (x : Draft). Leads x behind leads.last) (sym same) last);
        some = leads.some;
      }

  put_in : LeadsTo (before ++ behind) paras → LeadsTo (before ++ (outside ++ behind)) paras
  put_in leads =
      let (u, first, last) = leads_cut empty leads.last before behind leads.through in
      let skipped = outside_lines u outside (closed_outside before u ends first) each in
      record {
        last = leads.last;
        through = leads_both empty u leads.last before (outside ++ behind) first
            (leads_both u u leads.last outside behind skipped last);
        some = leads.some;
      }

pub passes_over : PassesOverLinesOutside
passes_over more less before outside behind paras ends each more_are less_are = (
  λ e. lead_paras less paras (subst (λ (lines : List (List ℕ)). LeadsTo lines paras) (sym less_are)
      (leave_out before outside behind paras ends each
      (subst (λ (lines : List (List ℕ)). LeadsTo lines paras) more_are (paras_lead more paras e)))),
  λ e. lead_paras more paras (subst (λ (lines : List (List ℕ)). LeadsTo lines paras) (sym more_are)
      (put_in before outside behind paras ends each
      (subst (λ (lines : List (List ℕ)). LeadsTo lines paras) less_are (paras_lead less paras e)))),
)

-- ---- faults

run_both : (s : Draft) (front back : List Line) → run s (front ++ back) ≡ then_ok (run s front) (λ t. run t back)
unfolding run
run_both s [] back = refl
run_both s (line ∷ front) back = by (at_line line.number (line_read s line.text)) (λ t. run_both t front back)
  where
    by : (r : Result Draft ListFault) →
        ((t : Draft) → run t (front ++ back) ≡ then_ok (run t front) (λ u. run u back)) →
        then_ok r (λ t. run t (front ++ back)) ≡ then_ok (then_ok r (λ t. run t front)) (λ u. run u back)
    by (Ok t) on = on t
    by (Err fault) on = refl

fault_from : (s : Draft) (n : ℕ) (lines : List Line) (fault : ListFault) → From n lines → run s lines ≡ Err fault →
    n ≤ fault.line
unfolding run
fault_from s n [] fault each e = absurd cc
fault_from s n (line ∷ lines) fault each e =
    by (at_line line.number (line_read s line.text)) refl (λ t. fault_from t n lines fault each.1) e
  where
    by : (r : Result Draft ListFault) → at_line line.number (line_read s line.text) ≡ r →
        ((t : Draft) → run t lines ≡ Err fault → n ≤ fault.line) → then_ok r (λ t. run t lines) ≡ Err fault →
        n ≤ fault.line
    by (Ok t) is on e = on t e
    by (Err other) is on e =
        let same : other ≡ fault = cc in
        let line_is = fault_line line.number (line_read s line.text) other is in
        let first = each.0 in
        let number : other.line ≡ fault.line = ap (λ (f : ListFault). f.line) same in
        omega (arith, line_is, number, first)

-- what is made of the lines in front, and of those behind them
abbrev paras_behind : ℕ → List (List ℕ) → Result Draft ListFault → Result (List (List HItem)) ListFault
paras_behind front back r = then_ok (then_ok r (λ t. run t (joined None (1 + front) back)))
    (λ s. some_paras (closed s).paras)

paras_cut : (front back : List (List ℕ)) (text : List ℕ) → raw_lines text ≡ front ++ back →
    paras_of text ≡ paras_behind (length front) back (run empty (joined None 1 front))
unfolding paras_of
paras_cut front back text e = ap (λ (r : Result Draft ListFault). then_ok r (λ s. some_paras (closed s).paras))
    (ap (λ (lines : List (List ℕ)). run empty (joined None 1 lines)) e
    ∙ ap (run empty) (joined_both None 1 front back (ends_whole front))
    ∙ run_both empty (joined None 1 front) (joined None (1 + length front) back))

module _ (front rest : List (List ℕ)) (fault : ListFault) (some : 1 ≤ fault.line)
    (within : fault.line ≤ length front) where
  no_paragraph : (all : List (List HItem)) → some_paras all ≡ Err fault → ⊥
  no_paragraph [] e =
      let same : record { line = 0; kind = NoListing } ≡ fault = cc in
      let number : 0 ≡ fault.line = ap (λ (f : ListFault). f.line) same in
      omega (arith, number, some)
  no_paragraph (items ∷ all) e = absurd cc

  behind : (t : Draft) (r : Result Draft ListFault) → run t (joined None (1 + length front) rest) ≡ r →
      then_ok r (λ s. some_paras (closed s).paras) ≡ Err fault → ⊥
  behind t (Ok u) at e = no_paragraph (closed u).paras e
  behind t (Err found) at e =
      let same : found ≡ fault = cc in
      let number : found.line ≡ fault.line = ap (λ (f : ListFault). f.line) same in
      let low = fault_from t (1 + length front) (joined None (1 + length front) rest) found
      (joined_from None (1 + length front) rest) at in
      omega (arith, number, low, within)

  -- the fault is one of the lines in front
  in_front : (r : Result Draft ListFault) → paras_behind (length front) rest r ≡ Err fault → r ≡ Err fault
  in_front (Ok t) e = absurd (behind t (run t (joined None (1 + length front) rest)) refl e)
  in_front (Err found) e = let same : found ≡ fault = cc in ap (λ (f : ListFault). Err f) same

pub paragraph_faults_stay : ParagraphFaultsStay
paragraph_faults_stay front one other fault (rest, begins) (others, begin_alike) is some within =
    let at = in_front front rest fault some within (run empty (joined None 1 front))
    (sym (paras_cut front rest one begins) ∙ is) in
    paras_cut front others other begin_alike ∙ ap (paras_behind (length front) others) at
