-- What is printed of columns that stand is in range.
use Rattle.std.proofs.Common.{◌≡◌, refl, sym, ap, ◌<◌, ◌≤◌, ◌+◌, ◌^◌, ℕ, zero, suc, Bool, true, false, List, [], ◌∷◌, ◌++◌, length, arith}
use Rattle.std.specs.Prelude.{◌==◌, ◌&&◌, nat_le, is_some, slice_get, Option, Some, None, if◌then◌else◌}
use Rattle.std.specs.List.{AllByRecursion}
use Rattle.std.specs.Option.{option_map_or}
use Rattle.pg_lemmas.proofs.Bools.{both_of}
use Rattle.std.proofs.lemmas.Bool.{eqb-true}
use Rattle.pg_list.specs.declared.blocks.Block.{Block}
use Rattle.pg_list.specs.declared.blocks.Block.TheVariants.{One, Choice}
use Rattle.pg_list.specs.declared.variants.Variant.{Variant}
use Rattle.pg_list.specs.Shapes.{IsBlock}
use Rattle.pg_plan.specs.declared.pages.PageMove.{PageMove}
use Rattle.pg_style.specs.Ranges.{IsStyle}
use Rattle.pg_style.specs.Values.{StyleValue}
use Rattle.pg_list.specs.Flat.{picked_variants, blocks_at}
use Rattle.pg_style.specs.declared.style.Area.{Area}
use Rattle.pg_rules.specs.Floats.{total_count, is_area_allowed, float_numbers, takes_top, takes_bottom, takes_wide, takes_in_column}
use Rattle.pg_rules.specs.ColumnRules.{does_fit, column_variants}
use Rattle.pg_rules.specs.Legal.{has_run, has_wide_counts}
use Rattle.pg_rules.specs.Room.{Document, ColumnContext, is_text, size_of, at_size, is_top_allowed, is_bottom_allowed}
use Rattle.law_columns.proofs.ColumnCounts.{total_cons}
use Rattle.law_words.specs.Ranges.{AllBelow}
pub use Rattle.pg_lemmas.proofs.Lists.{all_drop}
use Rattle.pg_list.proofs.Places.{picked_few}
use Rattle.std.proofs.lemmas.Bool.{leb-true}

-- ---- counts and runs

few_each : (xs : List ℕ) → total_count xs ≤ 4 → AllBelow (2 ^ 16) xs
few_each [] h = tt
few_each (x ∷ xs) h =
    let e = total_cons x xs in
    (omega (arith, e), few_each xs (omega (arith, e)))

area_few : (style : StyleValue) (takes : Area → Bool) (limit : ℕ) (counts : List ℕ) → limit ≤ 4 →
    is_area_allowed style takes limit counts ≡ true → AllBelow (2 ^ 16) counts
area_few style takes limit counts small h =
    let p = both_of ((length counts == length (float_numbers style)) && nat_le (total_count counts) limit) _ h in
    let q = both_of (length counts == length (float_numbers style)) (nat_le (total_count counts) limit) p.0 in
    few_each counts (omega (arith, leb-true (total_count counts) limit q.1))

pub wide_few : (doc : Document) (column : ℕ) (m : PageMove) → doc.style.wide.count ≤ 4 →
    has_wide_counts doc column m ≡ true → AllBelow (2 ^ 16) m.wide
wide_few doc column m small h =
    by (column == 1) (both_of (length m.wide == length (float_numbers doc.style)) _ h).1
  where
    by : (b : Bool) → (if b then is_area_allowed doc.style takes_wide doc.style.wide.count m.wide
        else total_count m.wide == 0) ≡ true → AllBelow (2 ^ 16) m.wide
    by true e = area_few doc.style takes_wide doc.style.wide.count m.wide small e
    by false e = let z : total_count m.wide ≡ 0 = eqb-true (total_count m.wide) 0 e in
        few_each m.wide (omega (arith, z))

pub top_few : (it : ColumnContext) → IsStyle it.document.style → is_top_allowed it ≡ true →
    AllBelow (2 ^ 16) it.column.top
top_few it range h = by (is_text it) h
  where
    by : (b : Bool) → (if b then is_area_allowed it.document.style takes_top it.document.style.top.count it.column.top
        else is_area_allowed it.document.style takes_in_column it.document.style.float_column.count
        it.column.top) ≡ true →
        AllBelow (2 ^ 16) it.column.top
    by true e = area_few it.document.style takes_top it.document.style.top.count it.column.top range.top_in.count_in e
    by false e = area_few it.document.style takes_in_column it.document.style.float_column.count it.column.top
        range.float_column_in.count_in e

pub bottom_few : (it : ColumnContext) → IsStyle it.document.style → is_bottom_allowed it ≡ true →
    AllBelow (2 ^ 16) it.column.bottom
bottom_few it range h = by (is_text it) h
  where
    by : (b : Bool) →
        (if b then is_area_allowed it.document.style takes_bottom it.document.style.bottom.count it.column.bottom
        else is_area_allowed it.document.style takes_in_column it.document.style.float_column.count
        it.column.bottom) ≡ true →
        AllBelow (2 ^ 16) it.column.bottom
    by true e = area_few it.document.style takes_bottom it.document.style.bottom.count it.column.bottom
        range.bottom_in.count_in e
    by false e = area_few it.document.style takes_in_column it.document.style.float_column.count it.column.bottom
        range.float_column_in.count_in e

pub some_within : {X : Type 0} (xs : List X) (n : ℕ) → is_some (slice_get xs n) ≡ true → n < length xs
some_within [] n h = absurd cc
some_within (x ∷ xs) zero h = omega arith
some_within (x ∷ xs) (suc n) h = let r : n < length xs = some_within xs n h in omega arith

pub run_few : (style : StyleValue) → IsStyle style → (must : Option ℕ) (m : PageMove) → has_run style must m ≡ true →
    m.run < 2 ^ 8
run_few style range must m h =
    let p = both_of (is_some (slice_get style.runs m.run)) _ h in
    let w = some_within style.runs m.run p.0 in
    omega (arith, w, range.runs_in.few)

-- ---- picks

pick_few : (variants : List Variant) (picks rest : List ℕ) (pick : ℕ) (found : List Variant) →
    length variants ≤ 5 → length found ≤ length picks →
    length (option_map_or (λ (variant : Variant). variant ∷ []) (slice_get variants pick) [] ++ found)
    ≡ suc (length picks) →
    (pick < 5) × (length found ≡ length picks)
pick_few variants picks rest pick found small less e = by (slice_get variants pick) refl e
  where
    by : (o : Option Variant) → o ≡ slice_get variants pick →
        length (option_map_or (λ (variant : Variant). variant ∷ []) o [] ++ found) ≡ suc (length picks) →
        (pick < 5) × (length found ≡ length picks)
    by None is f = absurd (omega arith)
    by (Some v) is f =
        let w = some_within variants pick (ap is_some (sym is)) in
        (omega (arith, w), omega arith)

picks_few : (blocks : List Block) (picks : List ℕ) → AllByRecursion IsBlock blocks →
    length (picked_variants blocks picks) ≡ length picks → AllBelow (2 ^ 32) picks
picks_few [] [] a e = tt
picks_few [] (pick ∷ picks) a e = absurd (omega arith)
picks_few (One item ∷ blocks) picks a e = picks_few blocks picks a.1 e
picks_few (Choice variants ∷ blocks) [] a e = tt
picks_few (Choice variants ∷ blocks) (pick ∷ picks) a e =
    let h = pick_few variants picks picks pick (picked_variants blocks picks) a.0.shape.few (picked_few blocks picks)
    e in
    (omega (arith, h.0), picks_few blocks picks a.1 h.1)

-- what the test at the number of a column's items says
pub size_there : (it : ColumnContext) (test : ℕ → Bool) → at_size it test ≡ true →
    (n : ℕ) × ((size_of it ≡ Some n) × (test n ≡ true))
size_there it test h = by (size_of it) refl h
  where
    by : (o : Option ℕ) → o ≡ size_of it → option_map_or test o false ≡ true →
        (n : ℕ) × ((size_of it ≡ Some n) × (test n ≡ true))
    by None is e = absurd cc
    by (Some n) is e = (n, (sym is, e))

pub column_picks_few : (it : ColumnContext) → AllByRecursion IsBlock it.document.blocks → does_fit it ≡ true →
    AllBelow (2 ^ 32) it.column.picks
column_picks_few it a h =
    let s = size_there it _ h in
    let t = both_of _ (length (column_variants it) == length it.column.picks) s.1.1 in
    picks_few (blocks_at it.document.blocks it.column.from) it.column.picks
    (all_drop IsBlock (if it.column.from.index == 0 then it.column.from.block else it.column.from.block + 1)
    it.document.blocks a)
    (eqb-true (length (column_variants it)) (length it.column.picks) t.1)
