-- Set widths of a line are small.
use Rattle.std.proofs.Common.{◌^◌, ◌≤◌, ◌<◌, arith, List, [], ◌∷◌, length, Bool, true, false}
use Rattle.std.specs.Prelude.{if◌then◌else◌, int_lt, nat_abs, ℤ, ◌-ℤ◌}
use Rattle.std.specs.List.{AllByRecursion, flat_map}
use Rattle.std.proofs.lemmas.Int.{ints}
use Rattle.pg_glue.specs.declared.Sense.{Sense}
use Rattle.pg_glue.specs.declared.Sense.TheVariants.{Stretch, Shrink}
use Rattle.pg_glue.specs.Widths.{amounts, chosen, set_widths, IsPrintable}
use Rattle.pg_hlist.specs.declared.item.HItem.{HItem}
use Rattle.pg_hlist.specs.declared.item.HItem.TheVariants.{BoxItem, Glue, Kern, Penalty}
use Rattle.pg_hlist.specs.Items.{IsInRange}
use Rattle.law_lines.specs.declared.rule.LineRule.{LineRule}
use Rattle.law_lines.specs.Boxes.{elastic, glue_widths, own_width}
use Rattle.law_lines.specs.ParagraphsLaws.{IsRule}
use Rattle.law_lines.specs.Lines.{line_total}
use Rattle.pg_lines.specs.Printed.{widths_by}
use Rattle.pg_lines.proofs.SumsLaws.{sums_small}
use Rattle.pg_glue.proofs.Small.{IsEntry, widths_small}

-- ---- widths

elastics_are : (sense : Sense) (items : List HItem) → AllByRecursion IsInRange items →
    AllByRecursion IsEntry (flat_map (elastic sense) items)
elastics_are sense [] all = tt
elastics_are Stretch (Glue width stretch order shrink body ∷ items) all =
    ((all.0.0, all.0.1), elastics_are Stretch items all.1)
elastics_are Shrink (Glue width stretch order shrink body ∷ items) all =
    ((all.0.0, all.0.2), elastics_are Shrink items all.1)
elastics_are sense (BoxItem width height depth body ∷ items) all = elastics_are sense items all.1
elastics_are sense (Kern width body ∷ items) all = elastics_are sense items all.1
elastics_are sense (Penalty value body ∷ items) all = elastics_are sense items all.1

-- no more glue than items
pub elastics_few : (sense : Sense) (items : List HItem) → length (flat_map (elastic sense) items) ≤ length items
elastics_few sense [] = omega arith
elastics_few sense (Glue width stretch order shrink body ∷ items) =
    let k = elastics_few sense items in omega (arith, k)
elastics_few sense (BoxItem width height depth body ∷ items) = let k = elastics_few sense items in omega (arith, k)
elastics_few sense (Kern width body ∷ items) = let k = elastics_few sense items in omega (arith, k)
elastics_few sense (Penalty value body ∷ items) = let k = elastics_few sense items in omega (arith, k)

set_printable : (sense : Sense) (excess : ℤ) (items : List HItem) → nat_abs excess < 2 ^ 52 → length items ≤ 2 ^ 11 →
    AllByRecursion IsInRange items → AllByRecursion IsPrintable (set_widths (flat_map (elastic sense) items) excess sense)
set_printable sense excess items h few all =
    widths_small sense excess (chosen (flat_map (elastic sense) items))
    (amounts (chosen (flat_map (elastic sense) items)) (flat_map (elastic sense) items)) []
    (flat_map (elastic sense) items) h (let k = elastics_few sense items in omega (arith, k, few)) tt
    (elastics_are sense items all)

own_printable : (items : List HItem) → AllByRecursion IsInRange items →
    AllByRecursion IsPrintable (flat_map own_width items)
own_printable [] all = tt
own_printable (Glue width stretch order shrink body ∷ items) all =
    (small width all.0.0, own_printable items all.1)
  where
    small : (w : ℤ) → nat_abs w < 2 ^ 30 → IsPrintable w
    small w h = (omega (arith, ints, h), omega (arith, ints, h))
own_printable (BoxItem width height depth body ∷ items) all = own_printable items all.1
own_printable (Kern width body ∷ items) all = own_printable items all.1
own_printable (Penalty value body ∷ items) all = own_printable items all.1

-- the set widths of a line can be printed
pub by_printable : (items : List HItem) (width total : ℤ) → AllByRecursion IsInRange items → length items ≤ 2 ^ 11 →
    nat_abs width < 2 ^ 42 → nat_abs total < 2 ^ 42 → AllByRecursion IsPrintable (widths_by items width total)
by_printable items width total all few w t = by (int_lt total width) (int_lt width total)
  where
    by : (a b : Bool) → AllByRecursion IsPrintable (if a then set_widths (flat_map (elastic Stretch) items)
        (width -ℤ total) Stretch
        else (if b then set_widths (flat_map (elastic Shrink) items) (total -ℤ width) Shrink
        else flat_map own_width items))
    by true b = set_printable Stretch (width -ℤ total) items (omega (arith, ints, w, t)) few all
    by false true = set_printable Shrink (total -ℤ width) items (omega (arith, ints, w, t)) few all
    by false false = own_printable items all

pub line_printable : (rule : LineRule) (line : List HItem) → IsRule rule → AllByRecursion IsInRange line →
    length line ≤ 2 ^ 11 → AllByRecursion IsPrintable (glue_widths rule line)
line_printable rule line r all few = by_printable line rule.width (line_total line) all few
    (omega (arith, ints, r.some, r.low)) (sums_small line all few).total
