-- Pages in reading order.
use Rattle.std.proofs.Common.{◌≡◌, refl, sym, ap, ◌∙◌, ℕ, ◌+◌, zero, suc, arith, append_assoc, List, [], ◌∷◌, ◌++◌, map, length, Bool, true, false, Option, Some, None}
use Rattle.std.specs.Prelude.{◌==◌, ◌&&◌, ◌||◌, if◌then◌else◌, nat_le, nat_lt, ℤ, pos, codes}
use Rattle.std.specs.List.{range_with_len}
use Rattle.pg_plan.specs.declared.pages.Column.{Column}
use Rattle.pg_plan.specs.declared.pages.Page.{Page}
use Rattle.pg_style.specs.Values.{StyleValue}
use Rattle.std.proofs.lemmas.Bool.{eqb-true}
use Rattle.law_columns.proofs.ColumnCounts.{total_cons}
use Rattle.law_columns.proofs.BoundCounts.{float_total}
use Rattle.pg_rules.specs.Floats.{dealt, entry, plus_counts, float_count, float_numbers, floats, area_height, has_all, is_area_allowed, takes_wide, total_count}
use Rattle.pg_rules.specs.History.{made_wide, placed_of, side_of}
use Rattle.pg_rules.specs.Room.{Document, checked_height}
use Rattle.pg_lemmas.proofs.Bools.{both_of}
use Rattle.pg_lemmas.proofs.Numbers.{less_of}
use Rattle.pg_pages.specs.Sheets.{columns_from, is_any, placed_from, sheet_behind, sheet_text}
use Rattle.pg_pages.specs.PageText.{area, float_bodies, floats_text, hanging_text, hung_sizes, page_line}
use Rattle.pg_pages.specs.Gaps.{hung_gaps, hung_text, shows_gaps}
use Rattle.pg_pages.specs.SetGlue.{own_sizes}
use Rattle.pg_pages.proofs.GapLists.{many}
use Rattle.pg_style.specs.declared.style.Gap.{Gap}
use Rattle.pg_pages.specs.Printed.{hanging_by, wide_by, wide_set}
use Rattle.pg_pages.proofs.Grown.{two_parts}

any_step : (n m : ℕ) (b : Bool) → b ≡ nat_lt 0 m → (nat_lt 0 n || b) ≡ nat_lt 0 (n + m)
any_step zero m b e = let same : m ≡ 0 + m = omega arith in e ∙ ap (nat_lt 0) same
any_step (suc n) m b e =
    let some : nat_lt 0 (suc n) ≡ true = less_of 0 (suc n) (omega arith) in
    let more : nat_lt 0 (suc n + m) ≡ true = less_of 0 (suc n + m) (omega arith) in
    ap (λ (t : Bool). t || b) some ∙ sym more

any_total : (counts : List ℕ) → is_any counts ≡ nat_lt 0 (total_count counts)
any_total [] = refl
any_total (n ∷ counts) = any_step n (total_count counts) (is_any counts) (any_total counts)
    ∙ ap (nat_lt 0) (sym (total_cons n counts))

-- a wide float is there where some count is not 0
any_is : (doc : Document) (counts : List ℕ) → is_area_allowed doc.style takes_wide doc.style.wide.count counts ≡ true →
    is_any counts ≡ nat_lt 0 (float_count doc.style counts)
any_is doc counts t =
    let p = both_of ((length counts == length (float_numbers doc.style))
    && nat_le (total_count counts) doc.style.wide.count) _ t in
    let q = both_of (length counts == length (float_numbers doc.style))
    (nat_le (total_count counts) doc.style.wide.count) p.0 in
    any_total counts ∙ ap (nat_lt 0) (sym (float_total doc.style counts (eqb-true _ _ q.0)))

made_by : (any some allowed all : Bool) (x : ℤ) → any ≡ some → allowed ≡ true →
    (if any then Some (if true && all then x else pos 0) else None)
    ≡ (if some then Some (if allowed && all then x else pos 0) else None)
made_by any some allowed all x p q = rw (p, q) refl

pub made_is : (doc : Document) (placed counts : List ℕ) (any : Bool) →
    is_area_allowed doc.style takes_wide doc.style.wide.count counts ≡ true → any ≡ is_any counts →
    (if any then Some (checked_height (floats doc.blocks doc.style) true doc.style.wide placed counts) else None)
    ≡ made_wide doc placed counts
made_is doc placed counts any allowed e =
    made_by any (nat_lt 0 (float_count doc.style counts))
    (is_area_allowed doc.style takes_wide doc.style.wide.count counts)
    (has_all (floats doc.blocks doc.style) placed counts)
    (area_height doc.style.wide (dealt (floats doc.blocks doc.style) placed counts)) (e ∙ any_is doc counts allowed) allowed

-- ---- the wide area

-- where no gaps are shown their widths do not matter
sizes_free : (b : Bool) (gaps : List Gap) (f : List ℤ → List ℕ) (plain : List ℕ) →
    (if b then f (own_sizes (if b then gaps else [])) else plain) ≡ (if b then f (own_sizes gaps) else plain)
sizes_free true gaps f plain = refl
sizes_free false gaps f plain = refl

wide_text : (doc : Document) (placed counts : List ℕ) → wide_by doc.style (float_bodies doc) placed counts
    ≡ area (codes "wide") (hanging_text doc doc.style.wide placed counts (hung_sizes doc doc.style.wide placed counts))
unfolding wide_by wide_set hanging_by hanging_text floats_text
wide_text doc placed counts =
    ap (area (codes "wide")) (sizes_free (shows_gaps doc.style)
    (hung_gaps doc.style.wide (length (dealt (float_bodies doc) placed counts)))
    (hung_text doc.style.wide (dealt (float_bodies doc) placed counts)) (floats_text doc placed counts)
    ∙ ap (λ (n : ℕ). if shows_gaps doc.style
    then hung_text doc.style.wide (dealt (float_bodies doc) placed counts) (own_sizes (hung_gaps doc.style.wide n))
    else floats_text doc placed counts) (sym (many doc placed counts)))

-- ---- a page from its parts

pub sheet_is : (doc : Document) (number : ℕ) (placed : List ℕ) (page : Page) (bodies : List (List (List ℕ))) →
    bodies ≡ float_bodies doc → (run : ℕ) → run ≡ page.run → (wide : Option ℤ) →
    wide ≡ made_wide doc placed page.wide → (before : List ℕ) → before ≡ plus_counts doc.style placed page.wide →
    (columns : List Column) → columns ≡ page.columns → (old mid new : List ℕ) →
    mid ≡ old ++ (page_line number (side_of doc.style.first number) page.run page.wide
    ++ wide_by doc.style bodies placed page.wide) → new ≡ mid ++ columns_from doc run wide 1 before columns →
    new ≡ old ++ sheet_text doc number placed page
sheet_is doc number placed page bodies b run r wide w before p columns c old mid new m n =
    let front = page_line number (side_of doc.style.first number) page.run page.wide in
    let floats = area (codes "wide") (hanging_text doc doc.style.wide placed page.wide
    (hung_sizes doc doc.style.wide placed page.wide)) in
    let rest = columns_from doc page.run (made_wide doc placed page.wide) 1 (plus_counts doc.style placed page.wide)
    page.columns in
    let same : columns_from doc run wide 1 before columns ≡ rest =
    ap (λ (x : ℕ). columns_from doc x wide 1 before columns) r
    ∙ ap (λ (x : Option ℤ). columns_from doc page.run x 1 before columns) w
    ∙ ap (λ (x : List ℕ). columns_from doc page.run (made_wide doc placed page.wide) 1 x columns) p
    ∙ ap (λ (x : List Column). columns_from doc page.run (made_wide doc placed page.wide) 1
    (plus_counts doc.style placed page.wide) x) c in
    two_parts old mid new (front ++ floats) rest
    (m ∙ (ap (λ (x : List (List (List ℕ))). old ++ (front ++ wide_by doc.style x placed page.wide)) b
    ∙ ap (λ (x : List ℕ). old ++ (front ++ x)) (wide_text doc placed page.wide)))
    (n ∙ ap (λ (text : List ℕ). mid ++ text) same)
    ∙ ap (λ (text : List ℕ). old ++ text) (append_assoc front floats rest)

pub behind_is : (style : StyleValue) (placed : List ℕ) (page : Page) (before : List ℕ) →
    before ≡ plus_counts style placed page.wide → (columns : List Column) → columns ≡ page.columns →
    placed_from style before columns ≡ sheet_behind style placed page
behind_is style placed page before p columns c =
    ap (λ (x : List ℕ). placed_from style x columns) p
    ∙ ap (λ (x : List Column). placed_from style (plus_counts style placed page.wide) x) c

zeros_from : (a n : ℕ) → map (λ (slot : ℕ). entry [] slot + entry [] slot) (range_with_len a n)
    ≡ map (λ (slot : ℕ). 0) (range_with_len a n)
zeros_from a zero = refl
zeros_from a (suc n) = ap (λ (counts : List ℕ). 0 ∷ counts) (zeros_from (a + 1) n)

-- no floats are placed before the first page
pub none_placed : (style : StyleValue) (n : ℕ) → n ≡ length (float_numbers style) → (sum : List ℕ) →
    sum ≡ map (λ (slot : ℕ). entry [] slot + entry [] slot) (range_with_len 0 n) → sum ≡ placed_of style []
none_placed style n e sum is = is ∙ zeros_from 0 n
    ∙ ap (λ (k : ℕ). map (λ (slot : ℕ). 0) (range_with_len 0 k)) e
