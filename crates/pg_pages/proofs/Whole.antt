-- A page, from its columns.
use Rattle.std.proofs.Common.{◌≡◌, refl, sym, ap, ◌∙◌, ℕ, ◌+◌, ◌≤◌, ◌<◌, arith, List, [], ◌∷◌, ◌++◌, append_assoc, append-nil, map, false, length, true}
use Rattle.std.specs.Prelude.{◌==◌, reverse, codes, ℤ}
use Rattle.std.proofs.lemmas.List.{reverse-append}
use Rattle.pg_plan.specs.Order.{columns_of, page_moves}
use Rattle.pg_plan.specs.declared.pages.Column.{Column}
use Rattle.pg_plan.specs.declared.pages.Page.{Page}
use Rattle.pg_plan.specs.declared.pages.PageMove.{PageMove}
use Rattle.pg_plan.specs.declared.pages.Pagination.{Pagination}
use Rattle.pg_list.specs.GalleyValue.{GalleyValue}
use Rattle.pg_style.specs.Values.{StyleValue}
use Rattle.pg_rules.specs.Legal.{document}
use Rattle.pg_rules.specs.Floats.{plus_counts}
use Rattle.pg_rules.specs.History.{made_wide, next_column, next_page, next_side, placed_of, wide_of}
use Rattle.pg_rules.specs.Room.{Document}
use Rattle.law_columns.proofs.PagesLaws.{later}
use Rattle.pg_lemmas.proofs.Bools.{if_false, if_true}
use Rattle.pg_lemmas.proofs.Numbers.{eq_no, eq_yes}
use Rattle.pg_pages.specs.PageText.{area, head_line, page_text, column_body, column_line, column_text, columns_text, hanging_text, hung_sizes, page_head, page_line}
use Rattle.pg_pages.specs.Sheets.{AreFilled, columns_from, context_at, placed_behind, sheet_behind, sheet_text, sheets_text}
use Rattle.pg_pages.proofs.Later.{HasTurned, are_later, turned_later}

regroup : (x p a l b r : List ℕ) → (x ++ (((p ++ a) ++ l) ++ b)) ++ r ≡ x ++ (p ++ (a ++ ((l ++ b) ++ r)))
regroup x p a l b r = append_assoc x (((p ++ a) ++ l) ++ b) r
    ∙ ap (λ (text : List ℕ). x ++ text) (append_assoc ((p ++ a) ++ l) b r ∙ append_assoc (p ++ a) l (b ++ r)
    ∙ append_assoc p a (l ++ (b ++ r)) ∙ ap (λ (text : List ℕ). p ++ (a ++ text)) (sym (append_assoc l b r)))

-- a page's columns, behind those of the pages before it, are the page in reading order
pub record IsSheet (doc : Document) (page : Page) (columns : List Column) (ms : List PageMove) : Type 0 where
  pub text : columns_text doc (reverse (page_moves page columns) ++ ms) ≡ columns_text doc ms
      ++ sheet_text doc (next_page doc.style ms) (placed_of doc.style ms)
      (record { run = page.run; wide = page.wide; columns = columns })
  pub placed : placed_of doc.style (reverse (page_moves page columns) ++ ms)
      ≡ sheet_behind doc.style (placed_of doc.style ms) (record { run = page.run; wide = page.wide; columns = columns })

-- a page's first column
abbrev pub first_of : Page → Column → PageMove
first_of page column = record { column = column; run = page.run; wide = page.wide }

pub first_apart : (page : Page) (column : Column) (columns : List Column) (ms : List PageMove) →
    reverse (page_moves page (column ∷ columns)) ++ ms
    ≡ reverse (map (later page.run page.wide) columns)
    ++ (record { column = column; run = page.run; wide = page.wide } ∷ ms)
first_apart page column columns ms = ap (λ (xs : List PageMove). xs ++ ms)
    (reverse-append (first_of page column ∷ []) (map (later page.run page.wide) columns))
    ∙ append_assoc (reverse (map (later page.run page.wide) columns)) (first_of page column ∷ []) ms

pub is_sheet : (doc : Document) (page : Page) (column : Column) (columns : List Column) (ms : List PageMove) →
    next_column doc.style ms ≡ 1 → 1 + length columns ≤ doc.style.columns →
    IsSheet doc page (column ∷ columns) ms
is_sheet doc page column columns ms first few =
    let m = first_of page column in
    let lists = first_apart page column columns ms in
    let placed = placed_of doc.style ms in
    let before = plus_counts doc.style placed page.wide in
    let one : (next_column doc.style ms == 1) ≡ true = eq_yes _ _ first in
    let high : wide_of doc (m ∷ ms) ≡ made_wide doc placed page.wide = if_true (next_column doc.style ms == 1) _ _ one in
    let more : 0 < length columns → next_column doc.style (m ∷ ms) ≡ 2 =
    λ some. if_false (next_column doc.style ms == doc.style.columns) 1 (next_column doc.style ms + 1)
    (eq_no (next_column doc.style ms) doc.style.columns (omega (arith, first, few, some)))
    ∙ ap (λ (n : ℕ). n + 1) first in
    let rest = are_later doc page.run page.wide (plus_counts doc.style before column.top) column.bottom 2 columns
    (m ∷ ms) refl (omega arith) (omega (arith, few)) more in
    let others = columns_from doc page.run (made_wide doc placed page.wide) 2
    (placed_behind doc.style before column) columns in
    let body = column_body (context_at doc page.run (made_wide doc placed page.wide) before column) in
    let here : column_text doc m ms ≡ (page_head doc m ms ++ column_line 1 column) ++ body =
    ap (λ (head : List ℕ). (head ++ column_line (next_column doc.style ms) column)
    ++ column_body (context_at doc page.run (wide_of doc (m ∷ ms)) before column))
    (if_true (next_column doc.style ms == 1) (page_head doc m ms) [] one)
    ∙ ap (λ (n : ℕ). (page_head doc m ms ++ column_line n column)
    ++ column_body (context_at doc page.run (wide_of doc (m ∷ ms)) before column)) first
    ∙ ap (λ wide. (page_head doc m ms ++ column_line 1 column)
    ++ column_body (context_at doc page.run wide before column)) high in
    record {
      text = ap (columns_text doc) lists ∙ rest.text
          ∙ ap (λ wide. columns_text doc (m ∷ ms)
          ++ columns_from doc page.run wide 2 (placed_behind doc.style before column) columns) high
          ∙ ap (λ (text : List ℕ). (columns_text doc ms ++ text) ++ others) here
          ∙ regroup (columns_text doc ms)
          (page_line (next_page doc.style ms) (next_side doc.style ms) page.run page.wide)
          (area (codes "wide") (hanging_text doc doc.style.wide placed page.wide
          (hung_sizes doc doc.style.wide placed page.wide))) (column_line 1 column) body others;
      placed = ap (placed_of doc.style) lists ∙ rest.placed;
    }

-- ---- all pages

-- the page turns behind a page that has all its columns
turned_sheet : (doc : Document) (page : Page) (column : Column) (columns : List Column) (ms : List PageMove) →
    next_column doc.style ms ≡ 1 → 1 + length columns ≡ doc.style.columns →
    HasTurned doc.style ms (reverse (page_moves page (column ∷ columns)) ++ ms)
turned_sheet doc page column [] ms first full =
    let last : (next_column doc.style ms == doc.style.columns) ≡ true = eq_yes _ _ (omega (arith, first, full)) in
    record {
      column = if_true (next_column doc.style ms == doc.style.columns) 1 (next_column doc.style ms + 1) last;
      page = if_true (next_column doc.style ms == doc.style.columns) (next_page doc.style ms + 1)
          (next_page doc.style ms) last;
    }
turned_sheet doc page column (other ∷ columns) ms first full =
    let less : (next_column doc.style ms == doc.style.columns) ≡ false = eq_no _ _ (omega (arith, first, full)) in
    let next : next_column doc.style (record { column = column; run = page.run; wide = page.wide } ∷ ms) ≡ 2 =
    if_false (next_column doc.style ms == doc.style.columns) 1 (next_column doc.style ms + 1) less
    ∙ ap (λ (n : ℕ). n + 1) first in
    let same : next_page doc.style (record { column = column; run = page.run; wide = page.wide } ∷ ms)
    ≡ next_page doc.style ms =
    if_false (next_column doc.style ms == doc.style.columns) (next_page doc.style ms + 1) (next_page doc.style ms) less in
    let rest = turned_later doc.style page.run page.wide 2 other columns
    (record { column = column; run = page.run; wide = page.wide } ∷ ms) next (omega (arith, full)) in
    let lists = first_apart page column (other ∷ columns) ms in
    record {
      column = ap (next_column doc.style) lists ∙ rest.column;
      page = ap (next_page doc.style) lists ∙ rest.page ∙ ap (λ (n : ℕ). n + 1) same;
    }

moves_append : (xs ys : List Page) → columns_of (xs ++ ys) ≡ columns_of xs ++ columns_of ys
moves_append [] ys = refl
moves_append (page ∷ xs) ys = ap (λ (more : List PageMove). reverse (page_moves page page.columns) ++ more)
    (moves_append xs ys) ∙ sym (append_assoc (reverse (page_moves page page.columns)) (columns_of xs) (columns_of ys))

pub moves_more : (page : Page) (pages : List Page) (ms : List PageMove) →
    columns_of (reverse (page ∷ pages)) ++ ms
    ≡ columns_of (reverse pages) ++ (reverse (page_moves page page.columns) ++ ms)
moves_more page pages ms =
    ap (λ (them : List Page). columns_of them ++ ms) (reverse-append (page ∷ []) pages)
    ∙ ap (λ (them : List PageMove). them ++ ms) (moves_append (reverse pages) (page ∷ []))
    ∙ append_assoc (columns_of (reverse pages)) (columns_of (page ∷ [])) ms
    ∙ ap (λ (them : List PageMove). columns_of (reverse pages) ++ (them ++ ms))
    (append-nil (reverse (page_moves page page.columns)))

pub sheet_by : (doc : Document) (page : Page) (columns : List Column) (ms : List PageMove) → 1 ≤ length columns →
    length columns ≤ doc.style.columns → next_column doc.style ms ≡ 1 → IsSheet doc page columns ms
sheet_by doc page [] ms some few first = absurd (omega (arith, some))
sheet_by doc page (column ∷ columns) ms some few first = is_sheet doc page column columns ms first (omega (arith, few))

pub turned_by : (doc : Document) (page : Page) (columns : List Column) (ms : List PageMove) → 1 ≤ length columns →
    length columns ≡ doc.style.columns → next_column doc.style ms ≡ 1 →
    HasTurned doc.style ms (reverse (page_moves page columns) ++ ms)
turned_by doc page [] ms some full first = absurd (omega (arith, some))
turned_by doc page (column ∷ columns) ms some full first =
    turned_sheet doc page column columns ms first (omega (arith, full))

-- the text of pages in reading order is that of their columns
pub sheets_are : (doc : Document) (pages : List Page) (ms : List PageMove) → AreFilled doc.style.columns pages →
    next_column doc.style ms ≡ 1 → columns_text doc (columns_of (reverse pages) ++ ms)
    ≡ columns_text doc ms ++ sheets_text doc (next_page doc.style ms) (placed_of doc.style ms) pages
sheets_are doc [] ms filled first = sym (append-nil (columns_text doc ms))
sheets_are doc (page ∷ []) ms filled first =
    ap (columns_text doc) (moves_more page [] ms)
    ∙ (sheet_by doc page page.columns ms filled.0 filled.1 first).text
    ∙ ap (λ (text : List ℕ). columns_text doc ms ++ text)
    (sym (append-nil (sheet_text doc (next_page doc.style ms) (placed_of doc.style ms) page)))
sheets_are doc (page ∷ next ∷ pages) ms filled first =
    let sheet = sheet_by doc page page.columns ms filled.0 (omega (arith, filled.1)) first in
    let turned = turned_by doc page page.columns ms filled.0 filled.1 first in
    let here = sheet_text doc (next_page doc.style ms) (placed_of doc.style ms) page in
    let others = sheets_text doc (next_page doc.style ms + 1) (sheet_behind doc.style (placed_of doc.style ms) page)
    (next ∷ pages) in
    ap (columns_text doc) (moves_more page (next ∷ pages) ms)
    ∙ sheets_are doc (next ∷ pages) (reverse (page_moves page page.columns) ++ ms) filled.2 turned.column
    ∙ ap (λ (n : ℕ). columns_text doc (reverse (page_moves page page.columns) ++ ms)
    ++ sheets_text doc n (placed_of doc.style (reverse (page_moves page page.columns) ++ ms)) (next ∷ pages)) turned.page
    ∙ ap (λ (placed : List ℕ). columns_text doc (reverse (page_moves page page.columns) ++ ms)
    ++ sheets_text doc (next_page doc.style ms + 1) placed (next ∷ pages)) sheet.placed
    ∙ ap (λ (text : List ℕ). text ++ others) sheet.text
    ∙ append_assoc (columns_text doc ms) here others

-- the page text is its first line and the pages in reading order
pub page_text_is : (galley : GalleyValue) (style : StyleValue) (plan : Pagination) (cost : ℤ) →
    AreFilled style.columns plan.pages → page_text galley style plan cost
    ≡ head_line (length plan.pages) cost galley.width
    ++ sheets_text (document galley style) 1 (placed_of style []) plan.pages
unfolding page_text
page_text_is galley style plan cost filled =
    ap (λ (text : List ℕ). head_line (length plan.pages) cost galley.width ++ text)
    (ap (columns_text (document galley style)) (sym (append-nil (columns_of (reverse plan.pages))))
    ∙ sheets_are (document galley style) plan.pages [] filled refl)
