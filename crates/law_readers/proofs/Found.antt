-- What the paragraphs of a file say is read of it.
use Rattle.std.proofs.Common.{◌≡◌, ◌∙◌, refl, sym, ap, subst, arith, ℕ, zero, suc, ◌+◌, ◌≤◌, ◌<◌, Bool, true, false, List, [], ◌∷◌, ◌++◌, length, append-nil, append_assoc, length-append, Option, Some, None}
use Rattle.std.specs.Prelude.{codes, if◌then◌else◌, is_some, nat_lt, not, take_while, Result, Ok, Err}
use Rattle.std.specs.List.{AllByRecursion}
use Rattle.std.specs.Str.{bytes_eq}
use Rattle.pg_lemmas.proofs.Bools.{by_bool, if_false, if_true, not_both}
use Rattle.pg_lemmas.proofs.Lists.{all_append}
use Rattle.pg_lemmas.proofs.Numbers.{less_of}
use Rattle.pg_scan.specs.Parts.{after, on}
use Rattle.pg_showbox.specs.Parts.{◌>>=◌}
use Rattle.pg_showbox.specs.declared.kinds.ListKind.{ListKind}
use Rattle.pg_showbox.specs.declared.kinds.ListKind.TheVariants.{BadLine, Limit}
use Rattle.pg_hlist.specs.Items.{extended, node_item, para_limit, with_line}
use Rattle.pg_hlist.specs.ParsedLine.{inside_line, line_parsed, outside_line, pointed_at}
use Rattle.pg_hlist.specs.Reading.{closed, empty, ended, line_read, longer_last, opened, placed, some_paras, step}
use Rattle.pg_hlist.specs.declared.draft.Draft.{Draft}
use Rattle.pg_hlist.specs.declared.item.HItem.{HItem}
use Rattle.pg_hlist.specs.declared.item.HNode.{HNode}
use Rattle.pg_hlist.specs.declared.item.ParaLine.{ParaLine}
use Rattle.pg_hlist.specs.declared.item.ParaLine.TheVariants as said
use Rattle.law_words.proofs.Equal.{bytes_same}
use Rattle.law_readers.specs.Galleys.{behind_point, further_lines}
use Rattle.law_readers.specs.InOrder.{InOrder}
use Rattle.law_readers.specs.LinesRead.{lines_read}
use Rattle.law_readers.specs.Paragraphs.{IsDeeper, Paragraph, ParagraphsAreRead, SayParagraphs, SaysItem, SaysParagraph, begins_paragraph, is_filled, paragraphs}
use Rattle.law_readers.proofs.Behind.{BeginsBehind, behind, behind_begins, behind_shorter, front_behind}
use Rattle.law_readers.proofs.Paras.{Leads, lead_paras, leads_both, no_root, node_longer, outside_read, root_empty}

-- ---- lines in a paragraph

pointed : (line : List ℕ) (it : ParaLine) → bytes_eq line [] ≡ false → inside_line line ≡ Ok it →
    is_some (after (codes ".") line) ≡ true
unfolding inside_line
pointed line it some e = by (after (codes ".") line)
    (sym (if_false (bytes_eq line []) (Ok said.Blank) (on (after (codes ".") line) pointed_at (Err BadLine)) some) ∙ e)
  where
    by : (o : Option (List ℕ)) → on o pointed_at (Err BadLine) ≡ Ok it → is_some o ≡ true
    by None e = absurd cc
    by (Some bytes) e = refl

-- a line that says an item, or goes on with one, is not empty
item_filled : (line : List ℕ) (node : HNode) → inside_line line ≡ Ok (said.Item node) → bytes_eq line [] ≡ false
unfolding inside_line
item_filled line node e = by (bytes_eq line []) e
  where
    by : (b : Bool) → (if b then Ok said.Blank else on (after (codes ".") line) pointed_at (Err BadLine))
        ≡ Ok (said.Item node) → b ≡ false
    by true e = absurd cc
    by false e = refl

deeper_filled : (line : List ℕ) → IsDeeper line → bytes_eq line [] ≡ false
unfolding inside_line
deeper_filled line e = by (bytes_eq line []) e
  where
    by : (b : Bool) → (if b then Ok said.Blank else on (after (codes ".") line) pointed_at (Err BadLine))
        ≡ Ok said.Deeper → b ≡ false
    by true e = absurd cc
    by false e = refl

abbrev NoRoots : List (List ℕ) → Type 0
NoRoots lines = AllByRecursion (λ (line : List ℕ). begins_paragraph line ≡ false) lines

deeper_roots : (lines : List (List ℕ)) → AllByRecursion IsDeeper lines → NoRoots lines
deeper_roots [] each = tt
deeper_roots (line ∷ lines) each =
    (no_root line (pointed line said.Deeper (deeper_filled line each.0) each.0), deeper_roots lines each.1)

items_roots : (items : List HItem) (lines : List (List ℕ)) → InOrder SaysItem lines items → NoRoots lines
items_roots [] lines none = subst (λ (l : List (List ℕ)). NoRoots l) (sym none) tt
items_roots (item ∷ items) lines (front, rest, cut, says, more) =
    subst (λ (l : List (List ℕ)). NoRoots l) (sym cut)
    (all_append (λ (line : List ℕ). begins_paragraph line ≡ false) front rest
    (subst (λ (l : List (List ℕ)). NoRoots l) (sym says.are) (
      no_root says.first (pointed says.first (said.Item says.node) (item_filled says.first says.node says.says) says.says),
      deeper_roots says.deeper says.goes_on,
    )) (items_roots items rest more))

read_inside : (s : Draft) (line : List ℕ) (it : ParaLine) (items : List HItem) → s.current ≡ Some items →
    inside_line line ≡ Ok it → line_read s line ≡ step s it line
unfolding line_read line_parsed
read_inside s line it items at says =
    ap (λ (o : Option (List HItem)). line_parsed (is_some o) line >>= (λ it. step s it line)) at
    ∙ ap (λ (r : Result ParaLine ListKind). r >>= (λ it. step s it line)) says

longer_at : (s : Draft) (items : List HItem) (line : List ℕ) → 1 ≤ length items →
    longer_last s (Some items) line ≡ Ok (opened s (extended line items))
unfolding longer_last
longer_at s [] line some = absurd (omega (arith, some))
longer_at s (item ∷ items) line some = refl

last_longer : (old : List HItem) (item : HItem) (line : List ℕ) →
    extended line (old ++ item ∷ []) ≡ old ++ with_line line item ∷ []
last_longer [] item line = refl
last_longer (first ∷ []) item line = refl
last_longer (first ∷ next ∷ old) item line = ap (λ (items : List HItem). first ∷ items) (last_longer (next ∷ old) item line)

record Holds (s u : Draft) (items : List HItem) : Type 0 where
  paras : u.paras ≡ s.paras
  at : u.current ≡ Some items

deepen : (lines : List (List ℕ)) (s : Draft) (old : List HItem) (node : HNode) (body : List ℕ) →
    AllByRecursion IsDeeper lines → s.current ≡ Some (old ++ node_item node body ∷ []) →
    (u : Draft) × Leads s lines u × Holds s u (old ++ node_item node (body ++ further_lines lines) ∷ [])
unfolding step
deepen [] s old node body each at = (
  s,
  refl,
  record {
    paras = refl;
    at = at ∙ ap (λ (text : List ℕ). Some (old ++ node_item node text ∷ [])) (sym (append-nil body));
  },
)
deepen (line ∷ lines) s old node body each at =
    let some = length-append old (node_item node body ∷ []) in
    let longer : extended (behind_point line) (old ++ node_item node body ∷ [])
    ≡ old ++ node_item node (body ++ 10 ∷ behind_point line) ∷ [] =
    last_longer old (node_item node body) (behind_point line)
    ∙ ap (λ (item : HItem). old ++ item ∷ []) (node_longer node body (behind_point line)) in
    let (u, leads, is) = deepen lines (opened s (extended (behind_point line) (old ++ node_item node body ∷ []))) old node
    (body ++ 10 ∷ behind_point line) each.1 (ap (λ (items : List HItem). Some items) longer) in (
      u,
      (
        opened s (extended (behind_point line) (old ++ node_item node body ∷ [])),
        read_inside s line said.Deeper (old ++ node_item node body ∷ []) at each.0
            ∙ ap (λ (o : Option (List HItem)). longer_last s o (behind_point line)) at
            ∙ longer_at s (old ++ node_item node body ∷ []) (behind_point line) (omega (arith, some)),
        leads,
      ),
      record {
        paras = is.paras;
        at = is.at ∙ ap (λ (text : List ℕ). Some (old ++ node_item node text ∷ []))
            (append_assoc body (10 ∷ behind_point line) (further_lines lines));
      },
    )

placed_at : (s : Draft) (old : List HItem) (item : HItem) → s.current ≡ Some old → length old < para_limit →
    placed s s.current item ≡ Ok (opened s (old ++ item ∷ []))
unfolding placed
placed_at s old item at less =
    ap (λ (o : Option (List HItem)). placed s o item) at
    ∙ if_true (nat_lt (length old) para_limit) (Ok (opened s (old ++ item ∷ []))) (Err Limit)
    (less_of (length old) para_limit less)

item_goes : (s : Draft) (lines : List (List ℕ)) (old : List HItem) (item : HItem) → SaysItem lines item →
    s.current ≡ Some old → length old < para_limit → (u : Draft) × Leads s lines u × Holds s u (old ++ item ∷ [])
unfolding step
item_goes s lines old item says at less =
    let (u, leads, is) = deepen says.deeper (opened s (old ++ node_item says.node (behind_point says.first) ∷ [])) old
    says.node (behind_point says.first) says.goes_on refl in (
      u,
      subst (λ (l : List (List ℕ)). Leads s l u) (sym says.are) (
        opened s (old ++ node_item says.node (behind_point says.first) ∷ []),
        read_inside s says.first (said.Item says.node) old at says.says
            ∙ placed_at s old (node_item says.node (behind_point says.first)) at less,
        leads,
      ),
      record {
        paras = is.paras;
        at = is.at ∙ ap (λ (it : HItem). Some (old ++ it ∷ [])) (sym says.is);
      },
    )

items_go : (items : List HItem) (s : Draft) (lines : List (List ℕ)) (old : List HItem) → InOrder SaysItem lines items →
    s.current ≡ Some old → length old + length items ≤ para_limit →
    (u : Draft) × Leads s lines u × Holds s u (old ++ items)
items_go [] s lines old none at few = (
  s,
  subst (λ (l : List (List ℕ)). Leads s l s) (sym none) refl,
  record { paras = refl; at = at ∙ ap (λ (items : List HItem). Some items) (sym (append-nil old)) },
)
items_go (item ∷ items) s lines old (front, rest, cut, says, more) at few =
    let (u, leads, is) = item_goes s front old item says at (omega (arith, few)) in
    let long = length-append old (item ∷ []) in
    let (v, later, are) = items_go items u rest (old ++ item ∷ []) more is.at (omega (arith, few, long)) in (
      v,
      subst (λ (l : List (List ℕ)). Leads s l v) (sym cut) (leads_both s u v front rest leads later),
      record {
        paras = are.paras ∙ is.paras;
        at = are.at ∙ ap (λ (xs : List HItem). Some xs) (append_assoc old (item ∷ []) items);
      },
    )

-- ---- all lines

paragraphs_behind : (front back : List (List ℕ)) → NoRoots front → paragraphs (front ++ back) ≡ paragraphs back
paragraphs_behind [] back each = refl
paragraphs_behind (line ∷ front) back each =
    if_false (begins_paragraph line)
    (record { root = line; lines = take_while is_filled (front ++ back) } ∷ paragraphs (front ++ back))
    (paragraphs (front ++ back)) each.0 ∙ paragraphs_behind front back each.1

-- where a paragraph is open, it ends here
abbrev IsBetween : Option (List HItem) → List (List ℕ) → Type 0
IsBetween None lines = Unit {0}
IsBetween (Some items) lines = BeginsBehind is_filled lines

record Found (s : Draft) (lines : List (List ℕ)) (paras : List (List HItem)) : Type 0 where
  state : Draft
  leads : Leads s lines state
  are : ended state.paras state.current ≡ ended s.paras s.current ++ paras

abbrev Finds : ℕ → Type 0
Finds n = (lines : List (List ℕ)) (s : Draft) (paras : List (List HItem)) → length lines ≤ n →
    IsBetween s.current lines → SayParagraphs paras (paragraphs lines) → Found s lines paras

no_lines : (s : Draft) (paras : List (List HItem)) → SayParagraphs paras [] → Found s [] paras
no_lines s [] none = record { state = s; leads = refl; are = sym (append-nil (ended s.paras s.current)) }
no_lines s (items ∷ paras) none = absurd none

is_blank : (line : List ℕ) → is_filled line ≡ false → bytes_eq line [] ≡ true
is_blank line e = by_bool (bytes_eq line []) (λ so. so) (λ other. absurd (not_both (is_filled line) (ap not other) e))

-- an empty line, or one that says nothing
passed : (s : Draft) (line : List ℕ) (lines : List (List ℕ)) (o : Option (List HItem)) → s.current ≡ o →
    begins_paragraph line ≡ false → IsBetween o (line ∷ lines) →
    (u : Draft) × (line_read s line ≡ Ok u) × (u.current ≡ None) × (u.paras ≡ ended s.paras s.current)
unfolding line_read line_parsed step inside_line
passed s line lines None at other between = (s, outside_read s line at other, at, sym (ap (ended s.paras) at))
passed s line lines (Some items) at other between = (
  closed s,
  ap (λ (o : Option (List HItem)). line_parsed (is_some o) line >>= (λ it. step s it line)) at
      ∙ ap (λ (r : Result ParaLine ListKind). r >>= (λ it. step s it line))
      (if_true (bytes_eq line []) (Ok said.Blank) (on (after (codes ".") line) pointed_at (Err BadLine))
      (is_blank line between)),
  refl,
  refl,
)

-- where a paragraph is open no other one begins
none_open : (o : Option (List HItem)) (line : List ℕ) (lines : List (List ℕ)) → begins_paragraph line ≡ true →
    IsBetween o (line ∷ lines) → o ≡ None
none_open None line lines root between = refl
none_open (Some items) line lines root between =
    let blank : line ≡ [] = bytes_same line [] (is_blank line between) in
    let other = root_empty line blank in absurd (not_both (begins_paragraph line) root other)

root_reads : (s : Draft) (line : List ℕ) → s.current ≡ None → outside_line line ≡ Ok said.Root →
    line_read s line ≡ Ok (opened s [])
unfolding line_read line_parsed step
root_reads s line at says =
    ap (λ (o : Option (List HItem)). line_parsed (is_some o) line >>= (λ it. step s it line)) at
    ∙ ap (λ (r : Result ParaLine ListKind). r >>= (λ it. step s it line)) says

module _ (n : ℕ) (on : Finds n) (line : List ℕ) (lines : List (List ℕ)) (s : Draft) (long : length (line ∷ lines) ≤ suc n)
    (between : IsBetween s.current (line ∷ lines)) where
  find_other : (paras : List (List HItem)) → begins_paragraph line ≡ false →
      SayParagraphs paras (paragraphs (line ∷ lines)) → Found s (line ∷ lines) paras
  find_other paras other are =
      let (u, read, at, same) = passed s line lines s.current refl other between in
      let it = on lines u paras (omega (arith, long))
      (subst (λ (o : Option (List HItem)). IsBetween o lines) (sym at) tt)
      (subst (λ (all : List Paragraph). SayParagraphs paras all) (if_false (begins_paragraph line)
      (record { root = line; lines = take_while is_filled lines } ∷ paragraphs lines) (paragraphs lines) other) are) in
      record {
        state = it.state;
        leads = (u, read, it.leads);
        are = it.are ∙ ap (λ (o : Option (List HItem)). ended u.paras o ++ paras) at
            ∙ ap (λ (x : List (List HItem)). x ++ paras) same;
      }

  find_opened : (items : List HItem) (paras : List (List HItem)) → begins_paragraph line ≡ true →
      SaysParagraph items (record { root = line; lines = take_while is_filled lines }) →
      SayParagraphs paras (paragraphs lines) → Found s (line ∷ lines) (items ∷ paras)
  find_opened items paras root says more =
      let none = none_open s.current line lines root between in
      let few = says.few in
      let (v, goes, is) = items_go items (opened s []) (take_while is_filled lines) [] says.each refl (omega (arith, few)) in
      let short = behind_shorter is_filled lines in
      let others : paragraphs lines ≡ paragraphs (behind is_filled lines) =
      ap paragraphs (sym (front_behind is_filled lines))
      ∙ paragraphs_behind (take_while is_filled lines) (behind is_filled lines)
      (items_roots items (take_while is_filled lines) says.each) in
      let it = on (behind is_filled lines) v paras (omega (arith, long, short))
      (subst (λ (o : Option (List HItem)). IsBetween o (behind is_filled lines)) (sym is.at) (behind_begins is_filled lines))
      (subst (λ (all : List Paragraph). SayParagraphs paras all) others more) in
      record {
        state = it.state;
        leads = (
          opened s [],
          root_reads s line none says.root,
          subst (λ (l : List (List ℕ)). Leads (opened s []) l it.state) (front_behind is_filled lines)
              (leads_both (opened s []) v it.state (take_while is_filled lines) (behind is_filled lines) goes it.leads),
        );
        are = it.are ∙ ap (λ (o : Option (List HItem)). ended v.paras o ++ paras) is.at
            ∙ ap (λ (x : List (List HItem)). (x ++ items ∷ []) ++ paras) is.paras
            ∙ append_assoc s.paras (items ∷ []) paras
            ∙ ap (λ (x : List (List HItem)). x ++ items ∷ paras) (sym (ap (ended s.paras) none));
      }

  find_root : (paras : List (List HItem)) → begins_paragraph line ≡ true →
      SayParagraphs paras (record { root = line; lines = take_while is_filled lines } ∷ paragraphs lines) →
      Found s (line ∷ lines) paras
  find_root [] root are = absurd are
  find_root (items ∷ paras) root are = find_opened items paras root are.0 are.1

  find_line : (paras : List (List HItem)) → SayParagraphs paras (paragraphs (line ∷ lines)) → Found s (line ∷ lines) paras
  find_line paras are = by_bool (begins_paragraph line)
      (λ root. find_root paras root (subst (λ (all : List Paragraph). SayParagraphs paras all)
      (if_true (begins_paragraph line) (record { root = line; lines = take_while is_filled lines } ∷ paragraphs lines)
      (paragraphs lines) root) are))
      (λ other. find_other paras other are)

found : (n : ℕ) → Finds n
found n [] s paras long between are = no_lines s paras are
found zero (line ∷ lines) s paras long between are = absurd (omega (arith, long))
found (suc n) (line ∷ lines) s paras long between are = find_line n (found n) line lines s long between paras are

some_are : (all paras : List (List HItem)) → all ≡ paras → 1 ≤ length paras → some_paras all ≡ Ok paras
some_are all [] same some = absurd (omega (arith, some))
some_are all (items ∷ paras) same some = ap some_paras same

pub paragraphs_are_read : ParagraphsAreRead
paragraphs_are_read text paras are some =
    let it = found (length (lines_read None text)) (lines_read None text) empty paras (omega arith) tt are in
    lead_paras text paras (record {
      last = it.state;
      through = it.leads;
      some = some_are (ended it.state.paras it.state.current) paras it.are some;
    })
