-- A first fit has no more pages than its galley has items, and each has one column.
use Rattle.std.proofs.Common.{◌≡◌, ap, sym, subst, refl, arith, ℕ, zero, suc, ◌+◌, ◌≤◌, Bool, true, false, List, [], ◌∷◌, ◌++◌, length, length-append, drop}
use Rattle.std.specs.Prelude.{if◌then◌else◌, reverse}
use Rattle.std.proofs.lemmas.List.{length-map, reverse-append}
use Rattle.std.proofs.lemmas.List.Sums.{sum_by-cons}
use Rattle.pg_list.specs.Counts.{block_size, item_count}
use Rattle.pg_list.specs.GalleyValue.{GalleyValue}
use Rattle.pg_list.specs.Places.{picked_items}
use Rattle.pg_list.specs.declared.blocks.Block.{Block}
use Rattle.pg_list.specs.declared.blocks.Block.TheVariants.{One, Choice}
use Rattle.pg_list.specs.declared.item.Item.{Item}
use Rattle.pg_list.proofs.Sizes.{picked_le}
use Rattle.pg_list.specs.Break.{is_spent}
use Rattle.pg_list.specs.Flat.{FlatItem, flat, flat_items_from, variant_flat_items}
use Rattle.pg_breaks.proofs.Walk.{variant_length}
use Rattle.pg_plan.specs.Order.{columns_of}
use Rattle.pg_plan.specs.declared.pages.Page.{Page}
use Rattle.pg_style.specs.Values.{StyleValue}
use Rattle.pg_rules.specs.Ranges.{AreInRange}
use Rattle.pg_greedy.specs.Ahead.{first_fit, pages_from, taken}
use Rattle.pg_greedy.specs.FirstFit.{fit_page}
use Rattle.pg_greedy.specs.Laws.{FirstFitIsOne}
use Rattle.pg_judge.proofs.PageCounts.{columns_more}
use Rattle.law_course.specs.SizeLaws.{FirstFitsAreShort, IsShortPlan}

-- ---- no more items stand in the flat list than are counted

items_few : (n : ℕ) (blocks : List Block) → length (flat_items_from n blocks []) ≤ item_count blocks
items_few n [] = omega arith
items_few n (One item ∷ blocks) =
    let sum = sum_by-cons block_size (One item) blocks in
    let rest = items_few (n + 1) blocks in
    omega (arith, sum, rest)
items_few n (Choice variants ∷ blocks) =
    let items = picked_items (Choice variants) 0 in
    let sum = sum_by-cons block_size (Choice variants) blocks in
    let both = length-append (variant_flat_items n 0 items) (flat_items_from (n + 1) blocks []) in
    let long = variant_length n 0 items in
    let few = picked_le (Choice variants) 0 in
    let rest = items_few (n + 1) blocks in
    omega (arith, sum, both, long, few, rest)

-- ---- the pages

-- one more page of one column, behind others
one_more : (pages : List Page) (style : StyleValue) (from to : ℕ) →
    length (columns_of (pages ++ fit_page style from to ∷ [])) ≡ length (columns_of pages) + 1
one_more [] style from to = columns_more (fit_page style from to) []
one_more (page ∷ pages) style from to =
    let more = columns_more page (pages ++ fit_page style from to ∷ []) in
    let less = columns_more page pages in
    let rest = one_more pages style from to in
    omega (arith, more, less, rest)

pages_few : (style : StyleValue) (most : ℕ) (items : List Item) (from : ℕ) →
    length (pages_from style most items from) ≤ most
pages_few style zero items from = omega arith
pages_few style (suc most) items from =
    by (is_spent items 0) (pages_few style most (drop (taken style items) items) (from + taken style items))
  where
    by : (spent : Bool) →
        length (pages_from style most (drop (taken style items) items) (from + taken style items)) ≤ most →
        length (if spent then [] else fit_page style from (from + taken style items)
        ∷ pages_from style most (drop (taken style items) items) (from + taken style items)) ≤ suc most
    by true rest = omega arith
    by false rest = omega (arith, rest)

columns_few : (style : StyleValue) (most : ℕ) (items : List Item) (from : ℕ) →
    length (columns_of (reverse (pages_from style most items from))) ≡ length (pages_from style most items from)
columns_few style zero items from = refl
columns_few style (suc most) items from =
    by (is_spent items 0) (pages_from style most (drop (taken style items) items) (from + taken style items))
    (columns_few style most (drop (taken style items) items) (from + taken style items))
  where
    turned : (page : Page) (pages : List Page) → reverse (page ∷ pages) ≡ reverse pages ++ page ∷ []
    turned page pages = reverse-append (page ∷ []) pages

    by : (spent : Bool) (pages : List Page) → length (columns_of (reverse pages)) ≡ length pages →
        length (columns_of (reverse (if spent then [] else fit_page style from (from + taken style items) ∷ pages)))
        ≡ length (if spent then [] else fit_page style from (from + taken style items) ∷ pages)
    by true pages rest = refl
    by false pages rest =
        let last = one_more (reverse pages) style from (from + taken style items) in
        let is = ap (λ (xs : List Page). length (columns_of xs))
        (turned (fit_page style from (from + taken style items)) pages) in
        omega (arith, last, is, rest)

computed_short : (g : GalleyValue) (s : StyleValue) → item_count g.blocks ≤ 1048576 → IsShortPlan (first_fit g s)
unfolding first_fit
computed_short g s limit =
    let long : length (flat g.blocks []) ≡ length (flat_items_from 0 g.blocks []) =
    length-map (flat_items_from 0 g.blocks []) (λ (it : FlatItem). it.item) in
    let few = items_few 0 g.blocks in
    let pages = pages_few s (length (flat g.blocks [])) (flat g.blocks []) 0 in
    let columns = columns_few s (length (flat g.blocks [])) (flat g.blocks []) 0 in
    record {
      pages = omega (arith, limit, long, few, pages);
      columns = omega (arith, limit, long, few, pages, columns);
    }

pub fits_short : (g : GalleyValue) (s : StyleValue) → AreInRange g s → FirstFitIsOne g s → FirstFitsAreShort g s
fits_short g s range one plan fit = subst IsShortPlan (sym (one.only plan fit)) (computed_short g s range.limit)
