-- The items of the pages are the segments of the columns, and these hold each carry once.
use Rattle.std.proofs.Common.{◌≡◌, ◌∙◌, refl, sym, ap, ap₂, ℕ, ◌+◌, Bool, true, false, true≢false, List, [], ◌∷◌, ◌++◌, map, take, cond, codes, Option, Some, None}
use Rattle.std.specs.Prelude.{reverse, not, ◌||◌, if◌then◌else◌, ◌↔◌}
use Rattle.std.specs.List.{cons_option, filter, filter_map, flat_map, list_any}
use Rattle.std.specs.Str.{bytes_eq}
use Rattle.std.proofs.Math.Bool.{false-or}
use Rattle.std.proofs.lemmas.Bool.{cond-true, cond-false}
use Rattle.std.proofs.lemmas.List.Elements.{filter_map-append}
use Rattle.std.proofs.lemmas.List.Folds.{list_any-append}
use Rattle.std.specs.Option.{option_map_or}
use Rattle.std.proofs.lemmas.List.{append-nil, map-append, reverse-append, reverse-reverse}
use Rattle.std.proofs.lemmas.Grind.{flat_map-append}
use Rattle.pg_list.specs.GalleyValue.{GalleyValue}
use Rattle.pg_list.specs.Shapes.{is_discardable}
use Rattle.pg_list.specs.declared.blocks.Block.{Block}
use Rattle.pg_list.specs.declared.item.Item.{Item}
use Rattle.pg_list.specs.declared.item.Item.TheVariants.{BoxItem, Rule, Glue, Kern, Penalty, Insert, Carry}
use Rattle.pg_plan.specs.declared.pages.Column.{Column}
use Rattle.pg_plan.specs.declared.pages.Page.{Page}
use Rattle.pg_plan.specs.declared.pages.PageMove.{PageMove}
use Rattle.pg_plan.specs.declared.pages.Pagination.{Pagination}
use Rattle.pg_plan.specs.Order.{columns, columns_of, no_floats, page_moves}
use Rattle.pg_style.specs.Values.{StyleValue}
use Rattle.pg_list.specs.Flat.{flat_items_at, steps_to}
use Rattle.pg_list.specs.Totals.{trimmed}
use Rattle.pg_breaks.specs.Read.{items_at}
use Rattle.pg_rules.specs.Legal.{document}
use Rattle.pg_rules.specs.Room.{Document}
use Rattle.pg_rules.specs.Ranges.{AreInRange}
use Rattle.law_texts.specs.Texts.{is_kept, segments}
use Rattle.law_texts.proofs.EachOnce.{each_once}
use Rattle.pg_marks.specs.Carries.{is_label, label_of, mark_of, named, use_of}
use Rattle.pg_marks.specs.Heads.{column_items, label_page, page_items, reference_on, references_from, uses}
use Rattle.pg_marks.specs.declared.lists.Reference.{Reference}
use Rattle.pg_marks.proofs.PassedOver.{PassesOver, among_labels, no_mark, no_name}
use Rattle.law_course.specs.MarkLaws.{MarksAreFlat, all_items, flat_of}

-- ---- pages and columns

moves_items : (blocks : List Block) (run : ℕ) (wide : List ℕ) (cs : List Column) →
    flat_map (λ (m : PageMove). column_items blocks m.column)
    (map (λ (later : Column). record { column = later; run = run; wide = wide }) cs)
    ≡ flat_map (column_items blocks) cs
moves_items blocks run wide [] = refl
moves_items blocks run wide (c ∷ cs) = ap (λ xs. column_items blocks c ++ xs) (moves_items blocks run wide cs)

page_moves_items : (blocks : List Block) (page : Page) (cs : List Column) →
    flat_map (λ (m : PageMove). column_items blocks m.column) (page_moves page cs) ≡ flat_map (column_items blocks) cs
page_moves_items blocks page [] = refl
page_moves_items blocks page (c ∷ cs) =
    ap (λ xs. column_items blocks c ++ xs) (moves_items blocks page.run (no_floats page.wide) cs)

segment_is : (o : Option ℕ) (items : List Item) →
    option_map_or (λ (n : ℕ). trimmed (take n items)) o [] ≡ trimmed (option_map_or (λ (n : ℕ). take n items) o [])
segment_is None items = refl
segment_is (Some n) items = refl

segments_are : (doc : Document) (ms : List PageMove) →
    segments doc ms ≡ flat_map (λ (m : PageMove). column_items doc.blocks m.column) (reverse ms)
segments_are doc [] = refl
segments_are doc (m ∷ ms) =
    ap₂ (λ xs ys. xs ++ ys) (segments_are doc ms)
    (segment_is (steps_to doc.blocks (flat_items_at doc.blocks m.column.from m.column.picks) m.column.to)
    (items_at doc.blocks m.column.from m.column.picks))
    ∙ (ap (λ xs. flat_map (λ (m : PageMove). column_items doc.blocks m.column) (reverse ms) ++ xs)
    (sym (append-nil (column_items doc.blocks m.column)))
    ∙ (sym (flat_map-append (λ (m : PageMove). column_items doc.blocks m.column) (reverse ms) (m ∷ []))
    ∙ ap (flat_map (λ (m : PageMove). column_items doc.blocks m.column)) (sym (reverse-append (m ∷ []) ms))))

pages_items : (blocks : List Block) (pages : List Page) →
    flat_map (λ (m : PageMove). column_items blocks m.column) (reverse (columns_of pages))
    ≡ flat_map (page_items blocks) (reverse pages)
pages_items blocks [] = refl
pages_items blocks (page ∷ pages) =
    ap (flat_map (λ (m : PageMove). column_items blocks m.column))
    (reverse-append (reverse (page_moves page page.columns)) (columns_of pages)
    ∙ ap (λ xs. reverse (columns_of pages) ++ xs) (reverse-reverse (page_moves page page.columns)))
    ∙ (flat_map-append (λ (m : PageMove). column_items blocks m.column) (reverse (columns_of pages))
    (page_moves page page.columns)
    ∙ (ap₂ (λ xs ys. xs ++ ys) (pages_items blocks pages)
    (page_moves_items blocks page page.columns ∙ sym (append-nil (page_items blocks page)))
    ∙ (sym (flat_map-append (page_items blocks) (reverse pages) (page ∷ []))
    ∙ ap (flat_map (page_items blocks)) (sym (reverse-append (page ∷ []) pages)))))

items_are : (galley : GalleyValue) (style : StyleValue) (plan : Pagination) →
    all_items galley plan ≡ segments (document galley style) (columns plan)
items_are galley style plan =
    ap (flat_map (page_items galley.blocks)) (sym (reverse-reverse plan.pages))
    ∙ (sym (pages_items galley.blocks (reverse plan.pages)) ∙ sym (segments_are (document galley style) (columns plan)))

-- ---- what kept items decide

one_kept : (f : Item → Option (List ℕ)) (item : Item) (items kept : List Item) (b : Bool) → is_discardable item ≡ b →
    (is_discardable item ≡ true → f item ≡ None) → filter_map f kept ≡ filter_map f items →
    filter_map f (cond (is_kept item) (item ∷ kept) kept) ≡ cons_option (f item) (filter_map f items)
one_kept f item items kept true e passes rest =
    ap (filter_map f) (cond-false (is_kept item) (item ∷ kept) kept (ap not e))
    ∙ (rest ∙ ap (λ o. cons_option o (filter_map f items)) (sym (passes e)))
one_kept f item items kept false e passes rest =
    ap (filter_map f) (cond-true (is_kept item) (item ∷ kept) kept (ap not e))
    ∙ ap (cons_option (f item)) rest

kept_decide : (f : Item → Option (List ℕ)) → PassesOver f → (items : List Item) →
    filter_map f (filter is_kept items) ≡ filter_map f items
kept_decide f passes [] = refl
kept_decide f passes (item ∷ items) =
    one_kept f item items (filter is_kept items) (is_discardable item) refl (passes item) (kept_decide f passes items)

same_kept : (f : Item → Option (List ℕ)) → PassesOver f → (xs ys : List Item) → filter is_kept xs ≡ filter is_kept ys →
    filter_map f xs ≡ filter_map f ys
same_kept f passes xs ys same = sym (kept_decide f passes xs) ∙ (ap (filter_map f) same ∙ kept_decide f passes ys)

-- ---- references

page_none : (name : List ℕ) (blocks : List Block) (n : ℕ) (pages : List Page) →
    (label_page name n (map (page_items blocks) pages) ≡ None) ↔
    (list_any (is_label name) (flat_map (page_items blocks) pages) ≡ false)
page_none name blocks n [] = (λ e. refl, λ e. refl)
page_none name blocks n (page ∷ pages) =
    by (list_any (is_label name) (page_items blocks page))
    (list_any-append (is_label name) (page_items blocks page) (flat_map (page_items blocks) pages))
    (page_none name blocks (n + 1) pages)
  where
    by : (b : Bool) →
        list_any (is_label name) (page_items blocks page ++ flat_map (page_items blocks) pages)
        ≡ (b || list_any (is_label name) (flat_map (page_items blocks) pages)) →
        (label_page name (n + 1) (map (page_items blocks) pages) ≡ None) ↔
        (list_any (is_label name) (flat_map (page_items blocks) pages) ≡ false) →
        ((if b then Some n else label_page name (n + 1) (map (page_items blocks) pages)) ≡ None)
        ↔ (list_any (is_label name) (page_items blocks page ++ flat_map (page_items blocks) pages) ≡ false)
    by true joined rest = (λ e. absurd (some_none e), λ e. absurd (true≢false (true_or joined e)))
      where
        some_none : Some n ≡ None → ⊥
        some_none e = absurd (true≢false (ap (λ (o : Option ℕ). option_map_or (λ (k : ℕ). true) o false) e))

        true_or : list_any (is_label name) (page_items blocks page ++ flat_map (page_items blocks) pages)
            ≡ (true || list_any (is_label name) (flat_map (page_items blocks) pages)) →
            list_any (is_label name) (page_items blocks page ++ flat_map (page_items blocks) pages) ≡ false →
            true ≡ false
        true_or joined e = sym joined ∙ e
    by false joined rest = (
      λ e. joined ∙ (false-or (list_any (is_label name) (flat_map (page_items blocks) pages)) ∙ rest.0 e),
      λ e. rest.1 (sym (false-or (list_any (is_label name) (flat_map (page_items blocks) pages))) ∙ (sym joined ∙ e)),
    )

names_of : (all : List (List Item)) (n : ℕ) (names : List (List ℕ)) →
    map (λ (it : Reference). it.name) (map (reference_on all n) names) ≡ names
names_of all n [] = refl
names_of all n (name ∷ names) = ap (λ xs. name ∷ xs) (names_of all n names)

uses_joined : (all : List (List Item)) (blocks : List Block) (n : ℕ) (pages : List Page) →
    map (λ (it : Reference). it.name) (references_from all n (map (page_items blocks) pages))
    ≡ uses (flat_map (page_items blocks) pages)
uses_joined all blocks n [] = refl
uses_joined all blocks n (page ∷ pages) =
    map-append (λ (it : Reference). it.name) (map (reference_on all n) (uses (page_items blocks page)))
    (references_from all (n + 1) (map (page_items blocks) pages))
    ∙ (ap₂ (λ xs ys. xs ++ ys) (names_of all n (uses (page_items blocks page))) (uses_joined all blocks (n + 1) pages)
    ∙ sym (filter_map-append use_of (page_items blocks page) (flat_map (page_items blocks) pages)))

pub marks_flat : (g : GalleyValue) (s : StyleValue) → AreInRange g s → MarksAreFlat g s
marks_flat g s range plan legal =
    let once = each_once g s range plan legal in
    let kept : filter is_kept (all_items g plan) ≡ filter is_kept (flat_of g plan) =
    ap (filter is_kept) (items_are g s plan) ∙ once.kept in
    let labels : (name : List ℕ) →
    list_any (is_label name) (all_items g plan) ≡ list_any (is_label name) (flat_of g plan) =
    λ name. among_labels name (all_items g plan)
    ∙ (ap (list_any (bytes_eq name))
    (same_kept label_of (no_name (codes "\\special{ref:label ")) (all_items g plan) (flat_of g plan) kept)
    ∙ sym (among_labels name (flat_of g plan))) in
    record {
      kept = kept;
      marks = same_kept mark_of no_mark (all_items g plan) (flat_of g plan) kept;
      uses = uses_joined (map (page_items g.blocks) plan.pages) g.blocks 1 plan.pages
          ∙ same_kept use_of (no_name (codes "\\special{ref:use ")) (all_items g plan) (flat_of g plan) kept;
      none = λ name. (
        λ e. sym (labels name) ∙ (page_none name g.blocks 1 plan.pages).0 e,
        λ e. (page_none name g.blocks 1 plan.pages).1 (labels name ∙ e),
      );
    }
