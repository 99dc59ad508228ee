-- The printed columns of a pagination read back as its pages.
use Rattle.std.proofs.Common.{◌≡◌, refl, sym, ap, subst, ◌∙◌, ◌≤◌, ◌+◌, ℕ, Bool, true, false, Some, None, List, [], ◌∷◌, ◌++◌, length, length-append, append_assoc, arith}
use Rattle.std.proofs.lemmas.Bool.Decides.{nat_tests}
use Rattle.std.proofs.lemmas.List.{reverse-append}
use Rattle.std.specs.Prelude.{◌==◌, if◌then◌else◌, reverse}
use Rattle.std.proofs.lemmas.Bool.{eqb-true}
use Rattle.pg_plan.specs.declared.pages.Column.{Column}
use Rattle.pg_plan.specs.declared.pages.Page.{Page}
use Rattle.pg_plan.specs.declared.pages.PageMove.{PageMove}
use Rattle.pg_style.specs.Values.{StyleValue}
use Rattle.pg_rules.specs.Room.{Document}
use Rattle.pg_rules.specs.History.{next_column, next_page, next_side, placed_of, context}
use Rattle.pg_pages.specs.PageText.{column_text, columns_text, column_line as printed_column, column_body, page_head, hanging_text, hung_sizes}
use Rattle.law_columns.specs.Pages.{add_column, page_with, pages_from}
use Rattle.pg_labels.specs.Drafts.{column_number, pages_of, with_last}
use Rattle.pg_labels.specs.declared.draft.Draft.{Draft}
use Rattle.pg_labels.specs.declared.draft.Stands.{Stands}
use Rattle.pg_labels.specs.declared.draft.Stands.TheVariants.{Start, NoneLegal, Head, Begun, ColumnBegun, GoesOn, Labels}
use Rattle.law_read_back.specs.PageRanges.{IsPrintedMove, ArePrintedMoves}
use Rattle.law_read_back.proofs.GapLines.{hanging_pointed}
use Rattle.law_read_back.proofs.Columns.{Held, Leads, held, with_held, with_page, leads_then, leads_none, leads_as, moved, up_to, starts_page, starts_column, is_column_begun, column_begun_is, body_leads, column_line_leads, head_leads, bare_page}
use Rattle.law_columns.proofs.Push.{column_some}

-- ---- the last page

reverse_more : (page : Page) (ps : List Page) → reverse (page ∷ ps) ≡ reverse ps ++ page ∷ []
reverse_more page ps = reverse-append (page ∷ []) ps

-- pages from the last to the first, as those that are done and the last one
abbrev pub held_of : List Page → Held
held_of [] = ([], None)
held_of (page ∷ ps) = (reverse ps, Some page)

pub held_all : (ps : List Page) → with_last (held_of ps).0 (held_of ps).1 ≡ reverse ps
held_all [] = refl
held_all (page ∷ ps) = sym (reverse_more page ps)

held_more : (ps : List Page) (c : Column) → with_held c (held_of ps) ≡ held_of (add_column c ps)
held_more [] c = refl
held_more (page ∷ ps) c = refl

-- the number of the next column of the first of these pages
abbrev front_number : List Page → ℕ
front_number [] = 1
front_number (page ∷ ps) = length page.columns + 1

number_held : (ps : List Page) → column_number (held_of ps).1 ≡ front_number ps
number_held [] = refl
number_held (page ∷ ps) = refl

-- ---- numbers of columns and pages

front_more : (c : Column) (ps : List Page) → (front_number ps == 1) ≡ false →
    front_number (add_column c ps) ≡ front_number ps + 1
front_more c [] h = absurd cc
front_more c (page ∷ ps) h = omega (arith, length-append page.columns (c ∷ []))

behind_more : (full n : ℕ) → ((if n == full then 1 else n + 1) == 1) ≡ false → (if n == full then 1 else n + 1) ≡ n + 1
behind_more full n h = by (n == full) h
  where
    by : (b : Bool) → ((if b then 1 else n + 1) == 1) ≡ false → (if b then 1 else n + 1) ≡ n + 1
    by true h = absurd cc
    by false h = refl

front_is : (style : StyleValue) (ms : List PageMove) → (next_column style ms == 1) ≡ false →
    front_number (pages_from style ms) ≡ next_column style ms
front_is style [] h = absurd cc
front_is style (m ∷ ms) h =
    by (next_column style ms == 1) refl (front_is style ms) ∙ sym (behind_more style.columns (next_column style ms) h)
  where
    by : (b : Bool) → b ≡ (next_column style ms == 1) →
        ((next_column style ms == 1) ≡ false → front_number (pages_from style ms) ≡ next_column style ms) →
        front_number (if b then page_with m.run m.wide (m.column ∷ []) ∷ pages_from style ms
        else add_column m.column (pages_from style ms)) ≡ next_column style ms + 1
    by true e before = let one : next_column style ms ≡ 1 = eqb-true (next_column style ms) 1 (sym e) in
        omega (arith, one)
    by false e before =
        let same = before (sym e) in
        front_more m.column (pages_from style ms) (subst (λ (k : ℕ). (k == 1) ≡ false) (sym same) (sym e))
        ∙ ap (λ (k : ℕ). k + 1) same

same_length : (c : Column) (ps : List Page) → length (add_column c ps) ≡ length ps
same_length c [] = refl
same_length c (page ∷ ps) = refl

-- one more where a page begins
abbrev begins : ℕ → ℕ
begins column = if column == 1 then 1 else 0

begins_behind : (full n : ℕ) → 1 ≤ n → begins (if n == full then 1 else n + 1) ≡ (if n == full then 1 else 0)
begins_behind full n some = by (n == full)
  where
    more : (k : ℕ) → 1 ≤ k → (k + 1 == 1) ≡ false
    more k some = grind (arith, nat_tests)

    by : (b : Bool) → begins (if b then 1 else n + 1) ≡ (if b then 1 else 0)
    by true = refl
    by false = rw (more n some) refl

pages_are : (style : StyleValue) (ms : List PageMove) →
    length (pages_from style ms) + begins (next_column style ms) ≡ next_page style ms
pages_are style [] = refl
pages_are style (m ∷ ms) =
    ap (λ (k : ℕ). length (pages_from style (m ∷ ms)) + k) (begins_behind style.columns (next_column style ms)
    (column_some style ms))
    ∙ by (next_column style ms == 1) (next_column style ms == style.columns) (pages_from style ms) (next_page style ms)
    (pages_are style ms)
  where
    by : (first last : Bool) (ps : List Page) (page : ℕ) → length ps + (if first then 1 else 0) ≡ page →
        length (if first then page_with m.run m.wide (m.column ∷ []) ∷ ps else add_column m.column ps)
        + (if last then 1 else 0) ≡ (if last then page + 1 else page)
    by true true ps page h = omega (arith, h)
    by true false ps page h = omega (arith, h)
    by false true ps page h = omega (arith, h, same_length m.column ps)
    by false false ps page h = omega (arith, h, same_length m.column ps)

length_reverse : (ps : List Page) → length (reverse ps) ≡ length ps
length_reverse [] = refl
length_reverse (page ∷ ps) = ap length (reverse_more page ps) ∙ length-append (reverse ps) (page ∷ [])
    ∙ (let h = length_reverse ps in omega (arith, h))

-- ---- columns

-- where a draft may stand behind these columns
abbrev pub ends_of : List PageMove → Stands → Bool
ends_of [] Start = false
ends_of [] NoneLegal = false
ends_of [] Head = true
ends_of [] (Begun has_wide) = false
ends_of [] ColumnBegun = false
ends_of [] (GoesOn next) = false
ends_of [] (Labels fitness) = false
ends_of (m ∷ ms) stands = up_to 4 stands

ends_page : (ms : List PageMove) (to : Stands) → ends_of ms to ≡ true → starts_page to ≡ true
ends_page [] Start h = absurd cc
ends_page [] NoneLegal h = absurd cc
ends_page [] Head h = refl
ends_page [] (Begun has_wide) h = absurd cc
ends_page [] ColumnBegun h = absurd cc
ends_page [] (GoesOn next) h = refl
ends_page [] (Labels fitness) h = absurd cc
ends_page (m ∷ ms) Start h = absurd cc
ends_page (m ∷ ms) NoneLegal h = absurd cc
ends_page (m ∷ ms) Head h = refl
ends_page (m ∷ ms) (Begun has_wide) h = absurd cc
ends_page (m ∷ ms) ColumnBegun h = absurd cc
ends_page (m ∷ ms) (GoesOn next) h = refl
ends_page (m ∷ ms) (Labels fitness) h = absurd cc

ends_column : (style : StyleValue) (ms : List PageMove) (to : Stands) → (next_column style ms == 1) ≡ false →
    ends_of ms to ≡ true → starts_column to ≡ true
ends_column style [] to first h = absurd cc
ends_column style (m ∷ ms) Start first h = absurd cc
ends_column style (m ∷ ms) NoneLegal first h = absurd cc
ends_column style (m ∷ ms) Head first h = absurd cc
ends_column style (m ∷ ms) (Begun has_wide) first h = refl
ends_column style (m ∷ ms) ColumnBegun first h = absurd cc
ends_column style (m ∷ ms) (GoesOn next) first h = refl
ends_column style (m ∷ ms) (Labels fitness) first h = absurd cc

-- the column and what stands in it, on a page that is there
rest_leads : (doc : Document) (m : PageMove) (ms : List PageMove) → IsPrintedMove doc m ms → (d : Draft) →
    starts_column d.stands ≡ true → column_number d.last ≡ next_column doc.style ms →
    Leads d (printed_column (next_column doc.style ms) m.column ++ column_body (context doc m ms)) (up_to 4)
    (with_held m.column (held d))
rest_leads doc m ms h d able same =
    let number = next_column doc.style ms in
    let pages = with_held m.column (held d) in
    leads_then d (printed_column number m.column) (column_body (context doc m ms)) is_column_begun (up_to 4) pages pages
    (column_line_leads number m.column d able same h.column)
    (λ (to : Stands) (s : is_column_begun to ≡ true).
    body_leads (context doc m ms) (moved d to pages (printed_column number m.column)) (column_begun_is to s) h.body)

leads_pages : (d : Draft) (text : List ℕ) (ends : Stands → Bool) (ps qs : Held) → ps ≡ qs →
    Leads d text ends ps → Leads d text ends qs
leads_pages d text ends ps qs e h = subst (λ (xs : Held). Leads d text ends xs) e h

column_leads : (doc : Document) (m : PageMove) (ms : List PageMove) → IsPrintedMove doc m ms → (d : Draft) →
    ends_of ms d.stands ≡ true → held d ≡ held_of (pages_from doc.style ms) →
    Leads d (column_text doc m ms) (up_to 4) (held_of (pages_from doc.style (m ∷ ms)))
column_leads doc m ms h d able same = by (next_column doc.style ms == 1) refl
  where
    number : ℕ
    number = next_column doc.style ms

    ps : List Page
    ps = pages_from doc.style ms

    line : List ℕ
    line = printed_column number m.column

    body : List ℕ
    body = column_body (context doc m ms)

    by : (b : Bool) → b ≡ (number == 1) →
        Leads d ((if b then page_head doc m ms else []) ++ line ++ body) (up_to 4)
        (held_of (if b then page_with m.run m.wide (m.column ∷ []) ∷ ps else add_column m.column ps))
    by true e =
        let one : number ≡ 1 = eqb-true number 1 (sym e) in
        let count : length ps + 1 ≡ next_page doc.style ms =
        ap (λ (k : ℕ). length ps + (if k == 1 then 1 else 0)) (sym one) ∙ pages_are doc.style ms in
        let all : pages_of d ≡ reverse ps =
        ap (λ (pages : Held). with_last pages.0 pages.1) same ∙ held_all ps in
        let len : length (pages_of d) + 1 ≡ next_page doc.style ms =
        ap (λ (xs : List Page). length xs + 1) all ∙ ap (λ (k : ℕ). k + 1) (length_reverse ps) ∙ count in
        let between = with_page (bare_page m.run m.wide) d in
        let head = head_leads (next_page doc.style ms) (next_side doc.style ms) m.run m.wide
        (hanging_text doc doc.style.wide (placed_of doc.style ms) m.wide
        (hung_sizes doc doc.style.wide (placed_of doc.style ms) m.wide)) d (ends_page ms d.stands able) len h.run h.wide
        (hanging_pointed doc doc.style.wide (placed_of doc.style ms) m.wide
        (hung_sizes doc doc.style.wide (placed_of doc.style ms) m.wide)) in
        let whole = leads_then d (page_head doc m ms) (line ++ body) starts_column (up_to 4) between
        (with_held m.column between) head
        (λ (to : Stands) (s : starts_column to ≡ true).
        rest_leads doc m ms h (moved d to between (page_head doc m ms)) s (sym one)) in
        leads_as d (page_head doc m ms ++ (line ++ body)) (page_head doc m ms ++ line ++ body) (up_to 4)
        (held_of (page_with m.run m.wide (m.column ∷ []) ∷ ps)) (sym (append_assoc (page_head doc m ms) line body))
        (leads_pages d (page_head doc m ms ++ (line ++ body)) (up_to 4) (with_held m.column between)
        (held_of (page_with m.run m.wide (m.column ∷ []) ∷ ps))
        (ap (λ (xs : List Page). (xs, Some (page_with m.run m.wide (m.column ∷ [])))) all) whole)
    by false e =
        let here : column_number d.last ≡ number =
        ap (λ (pages : Held). column_number pages.1) same ∙ number_held ps ∙ front_is doc.style ms (sym e) in
        leads_pages d (line ++ body) (up_to 4) (with_held m.column (held d)) (held_of (add_column m.column ps))
        (ap (with_held m.column) same ∙ held_more ps m.column)
        (rest_leads doc m ms h d (ends_column doc.style ms d.stands (sym e) able) here)

pub columns_lead : (doc : Document) (ms : List PageMove) → ArePrintedMoves doc ms → (d : Draft) → d.stands ≡ Head →
    held d ≡ ([], None) → Leads d (columns_text doc ms) (ends_of ms) (held_of (pages_from doc.style ms))
columns_lead doc [] h d is none = leads_pages d [] (ends_of []) (held d) ([], None) none
    (leads_none d (ends_of []) (ap (ends_of []) is))
columns_lead doc (m ∷ ms) h d is none =
    let between = held_of (pages_from doc.style ms) in
    leads_then d (columns_text doc ms) (column_text doc m ms) (ends_of ms) (up_to 4) between
    (held_of (pages_from doc.style (m ∷ ms))) (columns_lead doc ms h.1 d is none)
    (λ (to : Stands) (s : ends_of ms to ≡ true).
    column_leads doc m ms h.0 (moved d to between (columns_text doc ms)) s refl)
