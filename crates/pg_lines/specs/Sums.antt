-- The sums over the items of a line.
use Rattle.std.specs.Prelude.{ℕ, ◌^◌, ◌<◌, ◌==◌, ◌&&◌, not, if◌then◌else◌, List, ℤ, pos, ◌+ℤ◌, ◌-ℤ◌, int_lt, nat_abs, unsigned_abs, Bool}
use Rattle.pg_list.specs.declared.item.Order.{Order}
use Rattle.pg_list.specs.declared.item.Order.TheVariants.{Finite, Fil, Fill, Filll}
use Rattle.pg_list.specs.Badness.{badness}
use Rattle.pg_list.specs.Totals.{shrink, stretch}
use Rattle.pg_hlist.specs.declared.item.HItem.{HItem}
use Rattle.pg_hlist.specs.declared.item.HItem.TheVariants.{BoxItem, Glue, Kern, Penalty}
use Rattle.pg_hlist.specs.Items.{as_items}
use Rattle.law_lines.specs.Lines.{line_total}
use Rattle.pg_lines.specs.declared.sums.LineSums.{LineSums}

-- their widths, their stretch by order, and their shrink
abbrev pub sums_of : List HItem → LineSums
sums_of items = record {
  total = line_total items;
  finite = stretch Finite (as_items items);
  fil = stretch Fil (as_items items);
  fill = stretch Fill (as_items items);
  filll = stretch Filll (as_items items);
  shrink = shrink (as_items items);
}

abbrev pub wider : LineSums → ℤ → LineSums
wider sums width = record sums { total = sums.total +ℤ width }

abbrev pub stretched : LineSums → Order → ℤ → LineSums
stretched sums Finite amount = record sums { finite = sums.finite +ℤ amount }
stretched sums Fil amount = record sums { fil = sums.fil +ℤ amount }
stretched sums Fill amount = record sums { fill = sums.fill +ℤ amount }
stretched sums Filll amount = record sums { filll = sums.filll +ℤ amount }

abbrev pub shrinking : LineSums → ℤ → LineSums
shrinking sums amount = record sums { shrink = sums.shrink +ℤ amount }

-- one item more
abbrev pub sums_with : LineSums → HItem → LineSums
sums_with sums (BoxItem width height depth body) = wider sums width
sums_with sums (Glue width stretch order amount body) = shrinking (stretched (wider sums width) order stretch) amount
sums_with sums (Kern width body) = wider sums width
sums_with sums (Penalty value body) = sums

-- how badly a line of these sums fills a width
abbrev pub is_infinite : LineSums → Bool
is_infinite sums =
    not ((unsigned_abs sums.fil == 0) && (unsigned_abs sums.fill == 0) && (unsigned_abs sums.filll == 0))

abbrev pub sums_badness : ℤ → LineSums → ℕ
sums_badness width sums =
    if int_lt sums.total width
    then (if is_infinite sums then 0 else badness (width -ℤ sums.total) sums.finite)
    else badness (sums.total -ℤ width) sums.shrink

-- sums that leave room for more
pub record AreSmall (sums : LineSums) : Type 0 where
  pub total : nat_abs sums.total < 2 ^ 42
  pub finite : nat_abs sums.finite < 2 ^ 42
  pub fil : nat_abs sums.fil < 2 ^ 42
  pub fill : nat_abs sums.fill < 2 ^ 42
  pub filll : nat_abs sums.filll < 2 ^ 42
  pub shrink : nat_abs sums.shrink < 2 ^ 42
