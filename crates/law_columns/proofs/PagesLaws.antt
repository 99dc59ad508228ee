-- Paginations that fill their pages are lists of columns.
use Rattle.std.proofs.Common.{◌≡◌, refl, sym, ap, subst, ◌∙◌, ℕ, ◌+◌, ◌≤◌, ◌<◌, List, [], ◌∷◌, ◌++◌, append_assoc, map, length, length-append, Bool, true, false, Option, Some, None, arith}
use Rattle.std.specs.Prelude.{◌&&◌, ◌==◌, if◌then◌else◌, nat_le, reverse, not, is_some, slice_get}
use Rattle.std.specs.Option.{option_map_or}
use Rattle.std.proofs.lemmas.Bool.Decides.{nat_tests}
use Rattle.std.proofs.lemmas.List.{reverse-append, reverse-reverse, append-nil}
use Rattle.pg_plan.specs.declared.pages.PageMove.{PageMove}
use Rattle.pg_plan.specs.Order.{page_moves, columns_of, columns, no_floats}
use Rattle.pg_plan.specs.declared.pages.Column.{Column}
use Rattle.pg_plan.specs.declared.pages.Page.{Page}
use Rattle.pg_plan.specs.declared.pages.Pagination.{Pagination}
use Rattle.pg_style.specs.Values.{StyleValue}
use Rattle.pg_rules.specs.Room.{Document}
use Rattle.pg_rules.specs.Floats.{float_numbers, total_count}
use Rattle.pg_rules.specs.History.{next_column, next_run, next_side, is_right, last_run}
use Rattle.pg_rules.specs.Legal.{underfilled, misfilled, has_run, has_wide_counts}
use Rattle.law_columns.specs.Pages.{add_column, page_with, pages_from, plan_of}
use Rattle.law_columns.specs.Stands.{Stand, StandsAfter}
use Rattle.law_columns.proofs.Faults.{none_or, none_unless, or_none, unless_none}
use Rattle.pg_lemmas.proofs.Bools.{both_of, both, by_bool, if_false, if_true}
use Rattle.std.proofs.lemmas.Bool.{eqb-true, leb-true, le-leb}
use Rattle.pg_lemmas.proofs.Numbers.{eq_refl, eq_not}
use Rattle.law_columns.proofs.ColumnCounts.{total_cons}

abbrev pub later : ℕ → List ℕ → Column → PageMove
later run wide column = record { column = column; run = run; wide = no_floats wide }

-- the number of the next column behind a page of n columns
abbrev pub behind : ℕ → ℕ → ℕ
behind full n = if n == full then 1 else n + 1

behind_first : (full n : ℕ) → 1 ≤ n → behind full n ≡ 1 → n ≡ full
behind_first full n h e = by_bool (n == full) (λ t. eqb-true n full t) (λ f. let k : n + 1 ≡ 1 =
    sym (if_false (n == full) 1 (n + 1) f) ∙ e in absurd (omega arith))

behind_more : (full n : ℕ) → (behind full n == 1) ≡ false → (behind full n ≡ n + 1) × (n ≡ full → ⊥)
behind_more full n e = by_bool (n == full)
    (λ t. let k : behind full n ≡ 1 = if_true (n == full) 1 (n + 1) t in absurd (eq_not (behind full n) 1 e k))
    (λ f. (if_false (n == full) 1 (n + 1) f, eq_not n full f))

-- ---- a page with one column more

map_push : {X Y : Type 0} (f : X → Y) (xs : List X) (x : X) → map f (xs ++ x ∷ []) ≡ map f xs ++ f x ∷ []
map_push f [] x = refl
map_push f (y ∷ ys) x = ap (λ zs. f y ∷ zs) (map_push f ys x)

page_moves_more : (run : ℕ) (wide : List ℕ) (cs ds : List Column) (page : List Column) (c : Column) →
    1 ≤ length cs →
    reverse (page_moves (page_with run wide ds) (cs ++ c ∷ [])) ≡ later run wide c ∷ reverse
    (page_moves (page_with run wide page) cs)
page_moves_more run wide [] ds page c h = absurd (omega arith)
page_moves_more run wide (d ∷ cs) ds page c h =
    let first : PageMove = record { column = d; run = run; wide = wide } in
    ap (λ (xs : List PageMove). reverse (record { column = d; run = run; wide = wide } ∷ xs))
    (map_push (later run wide) cs c)
    ∙ reverse-append (record { column = d; run = run; wide = wide } ∷ map (later run wide) cs)
    (later run wide c ∷ [])

zeros : (xs ys : List ℕ) → length xs ≡ length ys → total_count xs ≡ 0 → xs ≡ no_floats ys
zeros [] [] l t = refl
zeros [] (y ∷ ys) l t = absurd (omega arith)
zeros (x ∷ xs) [] l t = absurd (omega arith)
zeros (x ∷ xs) (y ∷ ys) l t =
    let s : x + total_count xs ≡ 0 = sym (total_cons x xs) ∙ t in
    let p : x ≡ 0 = omega arith in
    let q : xs ≡ no_floats ys = zeros xs ys (omega arith) (omega arith) in
    cc

-- the pages of columns that stand
pub record Built (style : StyleValue) (ms : List PageMove) (page : Page) (rest : List Page) : Type 0 where
  pub pages : pages_from style ms ≡ page ∷ rest
  pub columns : columns_of (page ∷ rest) ≡ ms
  pub rest_full : underfilled style.columns rest ≡ None
  pub some : 1 ≤ length page.columns
  pub few : length page.columns ≤ style.columns
  pub next : next_column style ms ≡ behind style.columns (length page.columns)
  pub run : Some page.run ≡ last_run ms
  pub wide : length page.wide ≡ length (float_numbers style)

pub wide_long : (doc : Document) (column : ℕ) (m : PageMove) → has_wide_counts doc column m ≡ true →
    length m.wide ≡ length (float_numbers doc.style)
wide_long doc column m h = eqb-true _ _ (both_of (length m.wide == length (float_numbers doc.style)) _ h).0

new_page : (doc : Document) (m : PageMove) (ms : List PageMove) (page : Page) (rest : List Page) →
    1 ≤ doc.style.columns → StandsAfter doc m ms → next_column doc.style ms ≡ 1 →
    Built doc.style ms page rest →
    Built doc.style (m ∷ ms) (page_with m.run m.wide (m.column ∷ [])) (page ∷ rest)
new_page doc m ms page rest some s first b =
    let t : (next_column doc.style ms == 1) ≡ true = subst (λ (z : ℕ). (z == 1) ≡ true) (sym first) refl in
    let whole : length page.columns ≡ doc.style.columns =
    behind_first doc.style.columns (length page.columns) b.some (sym b.next ∙ first) in
    record {
      pages = if_true (next_column doc.style ms == 1) _ _ t
          ∙ ap (λ (ps : List Page). page_with m.run m.wide (m.column ∷ []) ∷ ps) b.pages;
      columns = ap (λ (xs : List PageMove). m ∷ xs) b.columns;
      rest_full = none_or _ _ b.rest_full
          (none_unless _ _ (both (nat_le 1 (length page.columns)) (length page.columns == doc.style.columns)
          (le-leb _ _ b.some) (subst (λ (z : ℕ). (length page.columns == z) ≡ true) whole
          (eq_refl (length page.columns)))));
      some = omega arith;
      few = some;
      next = ap (behind doc.style.columns) first;
      run = refl;
      wide = wide_long doc (next_column doc.style ms) m s.stands.wide;
    }

run_is : (style : StyleValue) (ms : List PageMove) (m : PageMove) (run : ℕ) →
    (next_column style ms == 1) ≡ false → Some run ≡ last_run ms →
    has_run style (next_run style ms) m ≡ true → m.run ≡ run
run_is style ms m run f l h =
    let not_free : next_run style ms ≡ last_run ms =
    by (next_column style ms == 1) (not (is_right (next_side style ms))) (last_run ms) f in
    let t = both_of (is_some (slice_get style.runs m.run))
    (option_map_or (λ (r : ℕ). m.run == r) (next_run style ms) true) h in
    eqb-true m.run run (subst (λ (o : Option ℕ). option_map_or (λ (r : ℕ). m.run == r) o true ≡ true)
    (not_free ∙ sym l) t.1)
  where
    by : (a b : Bool) (o : Option ℕ) → a ≡ false → (if a && b then None else o) ≡ o
    by false b o e = refl
    by true b o e = absurd cc

wide_is : (doc : Document) (column : ℕ) (m : PageMove) (wide : List ℕ) → (column == 1) ≡ false →
    length wide ≡ length (float_numbers doc.style) → has_wide_counts doc column m ≡ true →
    m.wide ≡ no_floats wide
wide_is doc column m wide f l h =
    let t = both_of (length m.wide == length (float_numbers doc.style)) _ h in
    let none : (total_count m.wide == 0) ≡ true =
    sym (if_false (column == 1) _ (total_count m.wide == 0) f) ∙ t.1 in
    zeros m.wide wide (eqb-true _ _ t.0 ∙ sym l) (eqb-true _ _ none)

same_later : (m : PageMove) (run : ℕ) (wide : List ℕ) → m.run ≡ run → m.wide ≡ no_floats wide →
    later run wide m.column ≡ m
same_later m run wide p q = let P : ◌≡◌ {A =
    PageMove} (record { column = m.column; run = run; wide = no_floats wide })
    (record { column = m.column; run = m.run; wide = m.wide }) = cc in P

same_page : (doc : Document) (m : PageMove) (ms : List PageMove) (page : Page) (rest : List Page) →
    StandsAfter doc m ms → (next_column doc.style ms == 1) ≡ false → Built doc.style ms page rest →
    Built doc.style (m ∷ ms) (page_with page.run page.wide (page.columns ++ m.column ∷ [])) rest
same_page doc m ms page rest s f b =
    let more = behind_more doc.style.columns (length page.columns)
    (subst (λ (z : ℕ). (z == 1) ≡ false) b.next f) in
    let n : next_column doc.style ms ≡ length page.columns + 1 = b.next ∙ more.0 in
    let l : length (page.columns ++ m.column ∷ []) ≡ length page.columns + 1 =
    length-append page.columns (m.column ∷ []) in
    let run : m.run ≡ page.run = run_is doc.style ms m page.run f b.run s.stands.takes_run in
    let wide : m.wide ≡ no_floats page.wide =
    wide_is doc (next_column doc.style ms) m page.wide f b.wide s.stands.wide in
    let few : length page.columns ≤ doc.style.columns = b.few in
    let other : length page.columns ≡ doc.style.columns → ⊥ = more.1 in
    record {
      pages = if_false (next_column doc.style ms == 1) _ _ f ∙ ap (add_column m.column) b.pages;
      columns = ap (λ (xs : List PageMove). xs ++ columns_of rest)
          (page_moves_more page.run page.wide page.columns (page.columns ++ m.column ∷ []) page.columns
          m.column b.some)
          ∙ (ap (λ (x : PageMove). x ∷ columns_of (page ∷ rest)) (same_later m page.run page.wide run wide)
          ∙ ap (λ (xs : List PageMove). m ∷ xs) b.columns);
      rest_full = b.rest_full;
      some = omega arith;
      few = fits (length page.columns) doc.style.columns (length (page.columns ++ m.column ∷ [])) few other l;
      next = ap (behind doc.style.columns) (n ∙ sym l);
      run = ap (λ (z : ℕ). Some z) (sym run);
      wide = b.wide;
    }
  where
    fits : (a b c : ℕ) → a ≤ b → (a ≡ b → ⊥) → c ≡ a + 1 → c ≤ b
    fits a b c h k e = omega arith

-- columns that stand fill pages
pub built : (doc : Document) → 1 ≤ doc.style.columns → (m : PageMove) (ms : List PageMove) →
    Stand doc (m ∷ ms) → (page : Page) × ((rest : List Page) × Built doc.style (m ∷ ms) page rest)
built doc some m [] s = (
  page_with m.run m.wide (m.column ∷ []),
  (
    [],
    record {
      pages = refl;
      columns = refl;
      rest_full = refl;
      some = omega arith;
      few = some;
      next = refl;
      run = refl;
      wide = wide_long doc 1 m s.0.stands.wide;
    },
  ),
)
built doc some m (n ∷ ns) (s, rest) = step (built doc some n ns rest)
  where
    step : (page : Page) × ((pages : List Page) × Built doc.style (n ∷ ns) page pages) →
        (page : Page) × ((pages : List Page) × Built doc.style (m ∷ n ∷ ns) page pages)
    step (page, (pages, b)) = by_bool (next_column doc.style (n ∷ ns) == 1)
        (λ t. (
          page_with m.run m.wide (m.column ∷ []),
          (page ∷ pages, new_page doc m (n ∷ ns) page pages some s (eqb-true _ _ t) b),
        ))
        (λ f. (
          page_with page.run page.wide (page.columns ++ m.column ∷ []),
          (pages, same_page doc m (n ∷ ns) page pages s f b),
        ))

-- ---- the pages come back

pub record Comes (style : StyleValue) (ms : List PageMove) (run : ℕ) (wide : List ℕ) (cs : List Column)
    (rest : List Page) : Type 0 where
  pub pages : pages_from style ms ≡ page_with run wide cs ∷ rest
  pub next : next_column style ms ≡ behind style.columns (length cs)

grow : (style : StyleValue) (ms : List PageMove) (run : ℕ) (wide : List ℕ) (done cs : List Column)
    (rest : List Page) → 1 ≤ length done → length done + length cs ≤ style.columns →
    Comes style ms run wide done rest →
    Comes style (reverse (map (later run wide) cs) ++ ms) run wide (done ++ cs) rest
grow style ms run wide done [] rest some few c =
    subst (λ (ds : List Column). Comes style ms run wide ds rest) (sym (append-nil done)) c
grow style ms run wide done (d ∷ cs) rest some few c =
    let less : length done < style.columns = omega arith in
    let other : (length done == style.columns) ≡ false = different (length done) style.columns less in
    let n : next_column style ms ≡ length done + 1 =
    c.next ∙ if_false (length done == style.columns) 1 (length done + 1) other in
    let l : length (done ++ d ∷ []) ≡ length done + 1 = length-append done (d ∷ []) in
    let not_one : (next_column style ms == 1) ≡ false =
    subst (λ (z : ℕ). (z == 1) ≡ false) (sym n) (more_than (length done) some) in
    let here : Comes style (later run wide d ∷ ms) run wide (done ++ d ∷ []) rest = record {
      pages = if_false (next_column style ms == 1) _ _ not_one ∙ ap (add_column d) c.pages;
      next = ap (behind style.columns) (n ∙ sym l);
    } in
    let there : Comes style (reverse (map (later run wide) cs) ++ (later run wide d ∷ ms)) run wide
    ((done ++ d ∷ []) ++ cs) rest =
    grow style (later run wide d ∷ ms) run wide (done ++ d ∷ []) cs rest (omega arith) (omega arith)
    here in
    let lists : reverse (map (later run wide) (d ∷ cs)) ++ ms
    ≡ reverse (map (later run wide) cs) ++ (later run wide d ∷ ms) =
    ap (λ (xs : List PageMove). xs ++ ms) (reverse-append (later run wide d ∷ []) (map (later run wide) cs))
    ∙ append_assoc (reverse (map (later run wide) cs)) (later run wide d ∷ []) ms in
    subst (λ (xs : List PageMove). Comes style xs run wide (done ++ d ∷ cs) rest) (sym lists)
    (subst (λ (ds : List Column). Comes style
    (reverse (map (later run wide) cs) ++ (later run wide d ∷ ms)) run wide ds rest)
    (append_assoc done (d ∷ []) cs) there)
  where
    different : (a b : ℕ) → a < b → (a == b) ≡ false
    different a b h = grind (arith, nat_tests)

    more_than : (n : ℕ) → 1 ≤ n → (n + 1 == 1) ≡ false
    more_than n h = grind (arith, nat_tests)

one_page : (style : StyleValue) (ms : List PageMove) (run : ℕ) (wide : List ℕ) (cs : List Column)
    (rest : List Page) → 1 ≤ length cs → length cs ≤ style.columns → pages_from style ms ≡ rest →
    next_column style ms ≡ 1 → Comes style (reverse (page_moves (page_with run wide cs) cs) ++ ms) run wide cs
    rest
one_page style ms run wide [] rest some few p n = absurd (omega arith)
one_page style ms run wide (c ∷ cs) rest some few p n =
    let first : PageMove = record { column = c; run = run; wide = wide } in
    let t : (next_column style ms == 1) ≡ true = subst (λ (z : ℕ). (z == 1) ≡ true) (sym n) refl in
    let here : Comes style (record { column = c; run = run; wide = wide } ∷ ms) run wide (c ∷ []) rest =
    record {
      pages = if_true (next_column style ms == 1) _ _ t
          ∙ ap (λ (ps : List Page). page_with run wide (c ∷ []) ∷ ps) p;
      next = ap (behind style.columns) n;
    } in
    let there : Comes style (reverse (map (later run wide) cs) ++ (record {
      column = c;
      run = run;
      wide =
          wide;
    } ∷ ms)) run wide (c ∷ cs) rest =
    grow style (record { column = c; run = run; wide = wide } ∷ ms) run wide (c ∷ []) cs rest
    (omega arith) (omega arith) here in
    let lists : reverse (record { column = c; run = run; wide = wide } ∷ map (later run wide) cs) ++ ms
    ≡ reverse (map (later run wide) cs) ++ (record { column = c; run = run; wide = wide } ∷ ms) =
    ap (λ (xs : List PageMove). xs ++ ms)
    (reverse-append (record { column = c; run = run; wide = wide } ∷ []) (map (later run wide) cs))
    ∙ append_assoc (reverse (map (later run wide) cs)) (record {
      column = c;
      run = run;
      wide =
          wide;
    } ∷ []) ms in
    subst (λ (xs : List PageMove). Comes style xs run wide (c ∷ cs) rest) (sym lists) there

full_pages : (style : StyleValue) (pages : List Page) → underfilled style.columns pages ≡ None →
    (pages_from style (columns_of pages) ≡ pages) × (next_column style (columns_of pages) ≡ 1)
full_pages style [] e = (refl, refl)
full_pages style (page ∷ pages) e =
    let t = or_none (underfilled style.columns pages) _ e in
    let s = both_of (nat_le 1 (length page.columns)) (length page.columns == style.columns)
    (unless_none _ _ t.1) in
    let whole : length page.columns ≡ style.columns = eqb-true _ _ s.1 in
    let rest = full_pages style pages t.0 in
    let c : Comes style (columns_of (page ∷ pages)) page.run page.wide page.columns pages =
    one_page style (columns_of pages) page.run page.wide page.columns pages (leb-true _ _ s.0)
    (omega arith) rest.0 rest.1 in
    (c.pages, c.next ∙ if_true (length page.columns == style.columns) 1 (length page.columns + 1) s.1)

-- pages that are filled come back from their columns
pub pages_back : (style : StyleValue) (pages : List Page) → misfilled style.columns pages ≡ None →
    pages_from style (columns_of pages) ≡ pages
pages_back style [] e = refl
pages_back style (page ∷ pages) e =
    let t = or_none (underfilled style.columns pages) _ e in
    let s = both_of (nat_le 1 (length page.columns)) (nat_le (length page.columns) style.columns)
    (unless_none _ _ t.1) in
    let rest = full_pages style pages t.0 in
    let c : Comes style (columns_of (page ∷ pages)) page.run page.wide page.columns pages =
    one_page style (columns_of pages) page.run page.wide page.columns pages (leb-true _ _ s.0)
    (leb-true _ _ s.1) rest.0 rest.1 in
    c.pages

-- a filled pagination is that of its columns
pub plan_back : (style : StyleValue) (plan : Pagination) →
    misfilled style.columns (reverse plan.pages) ≡ None → plan_of style (columns plan) ≡ plan
plan_back style plan e = ap (λ (ps : List Page). record { pages = ps })
    (ap reverse (pages_back style (reverse plan.pages) e) ∙ reverse-reverse plan.pages)

-- the pagination of columns that stand has these columns, and fills its pages
pub record IsPlanOf (style : StyleValue) (ms : List PageMove) : Type 0 where
  pub columns : columns (plan_of style ms) ≡ ms
  pub filled : misfilled style.columns (reverse (plan_of style ms).pages) ≡ None

pub plan_there : (doc : Document) → 1 ≤ doc.style.columns → (ms : List PageMove) → Stand doc ms →
    IsPlanOf doc.style ms
plan_there doc some [] s = record { columns = refl; filled = refl }
plan_there doc some (m ∷ ms) s = step (built doc some m ms s)
  where
    step : (page : Page) × ((rest : List Page) × Built doc.style (m ∷ ms) page rest) →
        IsPlanOf doc.style (m ∷ ms)
    step (page, (rest, b)) =
        let back : reverse (reverse (pages_from doc.style (m ∷ ms))) ≡ page ∷ rest =
        reverse-reverse (pages_from doc.style (m ∷ ms)) ∙ b.pages in
        record {
          columns = ap columns_of back ∙ b.columns;
          filled = ap (misfilled doc.style.columns) back ∙ none_or _ _ b.rest_full
              (none_unless _ _ (both (nat_le 1 (length page.columns))
              (nat_le (length page.columns) doc.style.columns) (le-leb _ _ b.some) (le-leb _ _ b.few)));
        }
