-- The later columns of a page, behind those before them.
use Rattle.std.proofs.Common.{◌≡◌, refl, sym, ap, ◌∙◌, ℕ, zero, suc, ◌+◌, ◌≤◌, ◌<◌, arith, List, [], ◌∷◌, ◌++◌, append_assoc, append-nil, map, length, true, false, Option}
use Rattle.std.specs.Prelude.{◌==◌, reverse, ℤ}
use Rattle.std.specs.List.{range_with_len}
use Rattle.std.proofs.lemmas.Bool.Decides.{nat_tests}
use Rattle.std.proofs.lemmas.List.{reverse-append}
use Rattle.pg_plan.specs.Order.{no_floats}
use Rattle.pg_plan.specs.declared.pages.Column.{Column}
use Rattle.pg_plan.specs.declared.pages.PageMove.{PageMove}
use Rattle.pg_style.specs.Values.{StyleValue}
use Rattle.pg_rules.specs.Floats.{entry, float_numbers, plus_counts}
use Rattle.pg_rules.specs.History.{context, next_column, next_page, placed_of, wide_of}
use Rattle.pg_rules.specs.Room.{Document}
use Rattle.law_columns.proofs.PagesLaws.{later}
use Rattle.law_columns.proofs.Waiting.{entry_plus}
use Rattle.pg_lemmas.proofs.Bools.{if_false, if_true}
use Rattle.pg_lemmas.proofs.Numbers.{eq_no, eq_yes}
use Rattle.pg_pages.specs.PageText.{column_body, column_line, column_text, columns_text}
use Rattle.pg_pages.specs.Sheets.{columns_from, context_at, placed_behind, placed_from, seat_text}

map_same : (f g : ℕ → ℕ) (a n : ℕ) → ((slot : ℕ) → a ≤ slot → slot < a + n → f slot ≡ g slot) →
    map f (range_with_len a n) ≡ map g (range_with_len a n)
map_same f g a zero same = refl
map_same f g a (suc n) same =
    ap (λ (x : ℕ). x ∷ map f (range_with_len (a + 1) n)) (same a (omega arith) (omega arith))
    ∙ ap (λ (xs : List ℕ). g a ∷ xs)
    (map_same f g (a + 1) n (λ slot h k. same slot (omega (arith, h)) (omega (arith, k))))

entry_none : (counts : List ℕ) (slot : ℕ) → entry (no_floats counts) slot ≡ 0
entry_none [] slot = refl
entry_none (n ∷ counts) zero = refl
entry_none (n ∷ counts) (suc slot) = entry_none counts slot

-- no further floats leave counts as they are
none_added : (style : StyleValue) (a b counts : List ℕ) →
    plus_counts style (plus_counts style a b) (no_floats counts) ≡ plus_counts style a b
none_added style a b counts =
    map_same (λ (slot : ℕ). entry (plus_counts style a b) slot + entry (no_floats counts) slot)
    (λ (slot : ℕ). entry a slot + entry b slot) 0 (length (float_numbers style))
    (λ slot h k. let e = entry_plus style a b slot (omega (arith, k)) in let z = entry_none counts slot in
    omega (arith, e, z))

-- the context of a later column
pub context_is : (doc : Document) (run : ℕ) (wide a b : List ℕ) (column : Column) (ms : List PageMove) →
    placed_of doc.style ms ≡ plus_counts doc.style a b → (next_column doc.style ms == 1) ≡ false →
    context doc (later run wide column) ms ≡ context_at doc run (wide_of doc ms) (placed_of doc.style ms) column
context_is doc run wide a b column ms p f =
    ap (λ (high : Option ℤ). context_at doc run high (plus_counts doc.style (placed_of doc.style ms) (no_floats wide)) column)
    (if_false (next_column doc.style ms == 1) _ (wide_of doc ms) f)
    ∙ ap (λ (before : List ℕ). context_at doc run (wide_of doc ms) before column)
    (ap (λ (counts : List ℕ). plus_counts doc.style counts (no_floats wide)) p ∙ none_added doc.style a b wide ∙ sym p)

pub later_text : (doc : Document) (run : ℕ) (wide a b : List ℕ) (column : Column) (ms : List PageMove) →
    placed_of doc.style ms ≡ plus_counts doc.style a b → (next_column doc.style ms == 1) ≡ false →
    column_text doc (later run wide column) ms
    ≡ seat_text doc run (wide_of doc ms) (next_column doc.style ms) (placed_of doc.style ms) column
later_text doc run wide a b column ms p f =
    ap (λ (head : List ℕ). head ++ column_line (next_column doc.style ms) column
    ++ column_body (context doc (later run wide column) ms)) (if_false (next_column doc.style ms == 1) _ [] f)
    ∙ ap (λ it. column_line (next_column doc.style ms) column ++ column_body it) (context_is doc run wide a b column ms p f)

-- a later column adds its own floats alone, and leaves the page's wide area
pub placed_later : (doc : Document) (run : ℕ) (wide a b : List ℕ) (column : Column) (ms : List PageMove) →
    placed_of doc.style ms ≡ plus_counts doc.style a b →
    placed_of doc.style (later run wide column ∷ ms) ≡ placed_behind doc.style (placed_of doc.style ms) column
placed_later doc run wide a b column ms p =
    ap (λ (before : List ℕ). placed_behind doc.style before column)
    (ap (λ (counts : List ℕ). plus_counts doc.style counts (no_floats wide)) p ∙ none_added doc.style a b wide ∙ sym p)

pub lists_same : (run : ℕ) (wide : List ℕ) (column : Column) (columns : List Column) (ms : List PageMove) →
    reverse (map (later run wide) (column ∷ columns)) ++ ms
    ≡ reverse (map (later run wide) columns) ++ (later run wide column ∷ ms)
lists_same run wide column columns ms =
    ap (λ (xs : List PageMove). xs ++ ms)
    (reverse-append (later run wide column ∷ []) (map (later run wide) columns))
    ∙ append_assoc (reverse (map (later run wide) columns)) (later run wide column ∷ []) ms

pub not_one : (n number : ℕ) → n ≡ number → 2 ≤ number → (n == 1) ≡ false
not_one n number e h = grind (arith, nat_tests)

-- the later columns of a page, and the floats placed behind them
pub record AreLater (doc : Document) (run : ℕ) (wide : List ℕ) (number : ℕ) (columns : List Column)
    (ms : List PageMove) : Type 0 where
  pub text : columns_text doc (reverse (map (later run wide) columns) ++ ms) ≡ columns_text doc ms
      ++ columns_from doc run (wide_of doc ms) number (placed_of doc.style ms) columns
  pub placed : placed_of doc.style (reverse (map (later run wide) columns) ++ ms)
      ≡ placed_from doc.style (placed_of doc.style ms) columns

pub are_later : (doc : Document) (run : ℕ) (wide a b : List ℕ) (number : ℕ) (columns : List Column)
    (ms : List PageMove) → placed_of doc.style ms ≡ plus_counts doc.style a b → 2 ≤ number →
    number + length columns ≤ doc.style.columns + 1 → (0 < length columns → next_column doc.style ms ≡ number) →
    AreLater doc run wide number columns ms
are_later doc run wide a b number [] ms p two few next =
    record { text = sym (append-nil (columns_text doc ms)); placed = refl }
are_later doc run wide a b number (column ∷ columns) ms p two few next =
    let m = later run wide column in
    let is : next_column doc.style ms ≡ number = next (omega arith) in
    let other : (next_column doc.style ms == 1) ≡ false = not_one (next_column doc.style ms) number is two in
    let high : wide_of doc (m ∷ ms) ≡ wide_of doc ms = if_false (next_column doc.style ms == 1) _ (wide_of doc ms) other in
    let behind = placed_later doc run wide a b column ms p in
    let more : 0 < length columns → next_column doc.style (m ∷ ms) ≡ number + 1 =
    λ some. if_false (next_column doc.style ms == doc.style.columns) 1 (next_column doc.style ms + 1)
    (eq_no (next_column doc.style ms) doc.style.columns (omega (arith, is, few, some)))
    ∙ ap (λ (n : ℕ). n + 1) is in
    let rest = are_later doc run wide (plus_counts doc.style (placed_of doc.style ms) column.top) column.bottom
    (number + 1) columns (m ∷ ms) behind (omega (arith, two)) (omega (arith, few)) more in
    let here : column_text doc m ms
    ≡ seat_text doc run (wide_of doc ms) number (placed_of doc.style ms) column =
    later_text doc run wide a b column ms p other
    ∙ ap (λ (n : ℕ). seat_text doc run (wide_of doc ms) n (placed_of doc.style ms) column) is in
    let others = columns_from doc run (wide_of doc ms) (number + 1)
    (placed_behind doc.style (placed_of doc.style ms) column) columns in
    record {
      text = ap (columns_text doc) (lists_same run wide column columns ms) ∙ rest.text
          ∙ ap (λ (high : Option ℤ). columns_text doc (m ∷ ms)
          ++ columns_from doc run high (number + 1) (placed_of doc.style (m ∷ ms)) columns) high
          ∙ ap (λ (before : List ℕ). columns_text doc (m ∷ ms)
          ++ columns_from doc run (wide_of doc ms) (number + 1) before columns) behind
          ∙ ap (λ (text : List ℕ). (columns_text doc ms ++ text) ++ others) here
          ∙ append_assoc (columns_text doc ms)
          (seat_text doc run (wide_of doc ms) number (placed_of doc.style ms) column) others;
      placed = ap (placed_of doc.style) (lists_same run wide column columns ms) ∙ rest.placed
          ∙ ap (λ (before : List ℕ). placed_from doc.style before columns) behind;
    }

-- the page turns behind its last column
pub record HasTurned (style : StyleValue) (ms behind : List PageMove) : Type 0 where
  pub column : next_column style behind ≡ 1
  pub page : next_page style behind ≡ next_page style ms + 1

pub turned_later : (style : StyleValue) (run : ℕ) (wide : List ℕ) (number : ℕ) (column : Column) (columns : List Column)
    (ms : List PageMove) → next_column style ms ≡ number → number + length columns ≡ style.columns →
    HasTurned style ms (reverse (map (later run wide) (column ∷ columns)) ++ ms)
turned_later style run wide number column [] ms is few =
    let last : (next_column style ms == style.columns) ≡ true = eq_yes _ _ (omega (arith, is, few)) in
    record {
      column = if_true (next_column style ms == style.columns) 1 (next_column style ms + 1) last;
      page = if_true (next_column style ms == style.columns) (next_page style ms + 1) (next_page style ms) last;
    }
turned_later style run wide number column (other ∷ columns) ms is few =
    let less : (next_column style ms == style.columns) ≡ false = eq_no _ _ (omega (arith, is, few)) in
    let next : next_column style (later run wide column ∷ ms) ≡ number + 1 =
    if_false (next_column style ms == style.columns) 1 (next_column style ms + 1) less ∙ ap (λ (n : ℕ). n + 1) is in
    let same : next_page style (later run wide column ∷ ms) ≡ next_page style ms =
    if_false (next_column style ms == style.columns) (next_page style ms + 1) (next_page style ms) less in
    let rest = turned_later style run wide (number + 1) other columns (later run wide column ∷ ms) next
    (omega (arith, few)) in
    let lists = lists_same run wide column (other ∷ columns) ms in
    record {
      column = ap (next_column style) lists ∙ rest.column;
      page = ap (next_page style) lists ∙ rest.page ∙ ap (λ (n : ℕ). n + 1) same;
    }
