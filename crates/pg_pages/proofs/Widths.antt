-- Set widths and the excess of a text are small.
use Rattle.std.proofs.Common.{◌≡◌, ◌∙◌, ap, ◌+◌, ◌^◌, ◌≤◌, ◌<◌, arith, List, [], ◌∷◌, ◌++◌, length, length-append, map, Bool, true, false}
use Rattle.std.specs.Prelude.{if◌then◌else◌, nat_abs, ℤ, ◌-ℤ◌}
use Rattle.std.specs.List.{AllByRecursion, flat_map}
use Rattle.std.proofs.lemmas.Int.{ints}
use Rattle.pg_list.specs.Ranges.{IsItemInRange}
use Rattle.pg_list.specs.declared.item.Item.{Item}
use Rattle.pg_list.specs.declared.item.Item.TheVariants.{BoxItem, Rule, Glue, Kern, Penalty, Insert, Carry}
use Rattle.pg_glue.specs.declared.Elastic.{Elastic}
use Rattle.pg_glue.specs.declared.Sense.{Sense}
use Rattle.pg_glue.specs.declared.Sense.TheVariants.{Stretch, Shrink}
use Rattle.pg_glue.specs.Widths.{amounts, chosen, set_widths, IsPrintable}
use Rattle.pg_lemmas.proofs.Lists.{all_append}
use Rattle.pg_pages.specs.SetGlue.{elastic, gap_elastic, glue_between, own_sizes, own_width, stays_short, widths_by}
use Rattle.pg_style.specs.Ranges.{IsGap}
use Rattle.pg_style.specs.Values.{StyleValue}
use Rattle.pg_style.specs.declared.style.Gap.{Gap}
use Rattle.law_columns.proofs.Gives.{shrink_part}
use Rattle.std.proofs.lemmas.List.{length-map}
use Rattle.pg_pages.proofs.Printed.{elastics_few}
use Rattle.std.specs.Prelude.{◌&&◌, not, int_lt}
use Rattle.pg_glue.proofs.Small.{IsEntry, widths_small}

-- ---- widths

elastics_are : (sense : Sense) (items : List Item) → AllByRecursion IsItemInRange items →
    AllByRecursion IsEntry (flat_map (elastic sense) items)
elastics_are sense [] all = tt
elastics_are Stretch (Glue width stretch order shrink body ∷ items) all =
    ((all.0.0, all.0.1), elastics_are Stretch items all.1)
elastics_are Shrink (Glue width stretch order shrink body ∷ items) all =
    ((all.0.0, all.0.2), elastics_are Shrink items all.1)
elastics_are sense (BoxItem height depth body ∷ items) all = elastics_are sense items all.1
elastics_are sense (Rule height depth body ∷ items) all = elastics_are sense items all.1
elastics_are sense (Kern width body ∷ items) all = elastics_are sense items all.1
elastics_are sense (Penalty value body ∷ items) all = elastics_are sense items all.1
elastics_are sense (Insert class size body ∷ items) all = elastics_are sense items all.1
elastics_are sense (Carry body ∷ items) all = elastics_are sense items all.1

gaps_are : (sense : Sense) (gaps : List Gap) → AllByRecursion IsGap gaps →
    AllByRecursion IsEntry (map (gap_elastic sense) gaps)
gaps_are sense [] all = tt
gaps_are Stretch (gap ∷ gaps) all = ((all.0.size_in.1, all.0.stretch_in.1), gaps_are Stretch gaps all.1)
gaps_are Shrink (gap ∷ gaps) all = ((all.0.size_in.1, (shrink_part gap all.0).1), gaps_are Shrink gaps all.1)

map_long : (sense : Sense) (gaps : List Gap) → length (map (gap_elastic sense) gaps) ≡ length gaps
map_long sense gaps = length-map gaps (gap_elastic sense)

-- one part behind the other
pub between_from : (sense : Sense) (above : List Gap) (items : List Item) (below : List Gap) (l m n o : List Elastic) →
    l ≡ [] → m ≡ l ++ map (gap_elastic sense) above → n ≡ m ++ flat_map (elastic sense) items →
    o ≡ n ++ map (gap_elastic sense) below → o ≡ glue_between sense above items below
between_from sense above items below l m n o p q r s = s
    ∙ ap (λ (xs : List Elastic). xs ++ map (gap_elastic sense) below) (r
    ∙ ap (λ (xs : List Elastic). xs ++ flat_map (elastic sense) items) (q
    ∙ ap (λ (xs : List Elastic). xs ++ map (gap_elastic sense) above) p))

-- as many as gaps and items at most
pub between_few : (sense : Sense) (above : List Gap) (items : List Item) (below : List Gap) →
    length (glue_between sense above items below) ≤ length above + length items + length below
between_few sense above items below =
    let a = length-append (map (gap_elastic sense) above ++ flat_map (elastic sense) items)
    (map (gap_elastic sense) below) in
    let b = length-append (map (gap_elastic sense) above) (flat_map (elastic sense) items) in
    let c = map_long sense above in
    let d = map_long sense below in
    let e = elastics_few sense items in omega (arith, a, b, c, d, e)

between_are : (sense : Sense) (above : List Gap) (items : List Item) (below : List Gap) → AllByRecursion IsGap above →
    AllByRecursion IsItemInRange items → AllByRecursion IsGap below →
    AllByRecursion IsEntry (glue_between sense above items below)
between_are sense above items below a i b =
    all_append IsEntry (map (gap_elastic sense) above ++ flat_map (elastic sense) items) (map (gap_elastic sense) below)
    (all_append IsEntry (map (gap_elastic sense) above) (flat_map (elastic sense) items) (gaps_are sense above a)
    (elastics_are sense items i)) (gaps_are sense below b)

-- set widths can be printed
set_printable : (sense : Sense) (excess : ℤ) (list : List Elastic) → nat_abs excess < 2 ^ 52 → length list ≤ 2 ^ 21 →
    AllByRecursion IsEntry list → AllByRecursion IsPrintable (set_widths list excess sense)
set_printable sense excess list h few all =
    widths_small sense excess (chosen list) (amounts (chosen list) list) [] list h (omega (arith, few)) tt all

-- and so can own widths
pub own_printable : (items : List Item) → AllByRecursion IsItemInRange items →
    AllByRecursion IsPrintable (flat_map own_width items)
own_printable [] all = tt
own_printable (Glue width stretch order shrink body ∷ items) all =
    (small width all.0.0, own_printable items all.1)
  where
    small : (w : ℤ) → nat_abs w < 2 ^ 30 → IsPrintable w
    small w h = (omega (arith, ints, h), omega (arith, ints, h))
own_printable (BoxItem height depth body ∷ items) all = own_printable items all.1
own_printable (Rule height depth body ∷ items) all = own_printable items all.1
own_printable (Kern width body ∷ items) all = own_printable items all.1
own_printable (Penalty value body ∷ items) all = own_printable items all.1
own_printable (Insert class size body ∷ items) all = own_printable items all.1
own_printable (Carry body ∷ items) all = own_printable items all.1

pub sizes_printable : (gaps : List Gap) → AllByRecursion IsGap gaps → AllByRecursion IsPrintable (own_sizes gaps)
sizes_printable [] all = tt
sizes_printable (gap ∷ gaps) all = (small gap.size all.0.size_in.1, sizes_printable gaps all.1)
  where
    small : (w : ℤ) → nat_abs w < 2 ^ 30 → IsPrintable w
    small w h = (omega (arith, ints, h), omega (arith, ints, h))

-- the set widths of a text whose excess is small
pub by_printable : (style : StyleValue) (above : List Gap) (items : List Item) (below : List Gap) (goal total : ℤ)
    (is_spent : Bool) → AllByRecursion IsGap above → AllByRecursion IsItemInRange items → AllByRecursion IsGap below →
    length above + length items + length below ≤ 2 ^ 21 → nat_abs (goal -ℤ total) < 2 ^ 52 →
    AllByRecursion IsPrintable (widths_by style above items below goal total is_spent)
by_printable style above items below goal total is_spent a i b few small =
    by (int_lt total goal && not (stays_short style items is_spent)) (int_lt goal total)
  where
    back : nat_abs (total -ℤ goal) < 2 ^ 52
    back = omega (arith, ints, small)

    by : (x y : Bool) → AllByRecursion IsPrintable
        (if x then set_widths (glue_between Stretch above items below) (goal -ℤ total) Stretch
        else (if y then set_widths (glue_between Shrink above items below) (total -ℤ goal) Shrink
        else (own_sizes above ++ flat_map own_width items ++ own_sizes below)))
    by true y = set_printable Stretch (goal -ℤ total) (glue_between Stretch above items below) small
        (let k = between_few Stretch above items below in omega (arith, k, few)) (between_are Stretch above items below a i b)
    by false true = set_printable Shrink (total -ℤ goal) (glue_between Shrink above items below) back
        (let k = between_few Shrink above items below in omega (arith, k, few)) (between_are Shrink above items below a i b)
    by false false = all_append IsPrintable (own_sizes above ++ flat_map own_width items) (own_sizes below)
        (all_append IsPrintable (own_sizes above) (flat_map own_width items) (sizes_printable above a)
        (own_printable items i)) (sizes_printable below b)
