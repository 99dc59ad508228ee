-- What items behind a box or rule add to totals, whatever the totals are.
use Rattle.std.specs.Prelude.{if◌then◌else◌, Some, None, unwrap_or, ℤ, pos, ◌+ℤ◌, ◌-ℤ◌}
use Rattle.std.specs.Int.{int_min}
use Rattle.pg_list.specs.declared.item.Item.{Item}
use Rattle.pg_list.specs.declared.item.Item.TheVariants.{BoxItem, Rule, Glue, Kern}
use Rattle.pg_list.specs.declared.item.Order.TheVariants.{Finite, Fil, Fill, Filll}
use Rattle.pg_list.specs.Totals.{is_same_order}
use Rattle.pg_sums.specs.declared.totals.Totals.{Totals}
use Rattle.pg_hops.specs.declared.shift.Shift.{Shift}

-- what no items add
abbrev pub no_shift : Shift
no_shift = record {
  height = pos 0;
  depth = None;
  finite = pos 0;
  fil = pos 0;
  fill = pos 0;
  filll = pos 0;
  shrink = pos 0;
}

-- with one more box or rule
abbrev pub with_box_behind : ℤ → Shift → ℤ → ℤ → Shift
with_box_behind maxdepth s height depth = record {
  height = (s.height +ℤ height) +ℤ depth;
  depth = Some (int_min maxdepth depth);
  finite = s.finite;
  fil = s.fil;
  fill = s.fill;
  filll = s.filll;
  shrink = s.shrink;
}

-- with one more item; a depth above glue or a kern no longer hangs
abbrev pub with_shift : ℤ → Shift → Item → Shift
with_shift maxdepth s (BoxItem height depth body) = with_box_behind maxdepth s height depth
with_shift maxdepth s (Rule height depth body) = with_box_behind maxdepth s height depth
with_shift maxdepth s (Glue width amount order less body) = record {
  height = s.height +ℤ width;
  depth = Some (pos 0);
  finite = s.finite +ℤ (if is_same_order Finite order then amount else pos 0);
  fil = s.fil +ℤ (if is_same_order Fil order then amount else pos 0);
  fill = s.fill +ℤ (if is_same_order Fill order then amount else pos 0);
  filll = s.filll +ℤ (if is_same_order Filll order then amount else pos 0);
  shrink = s.shrink +ℤ less;
}
with_shift maxdepth s (Kern width body) = record {
  height = s.height +ℤ width;
  depth = Some (pos 0);
  finite = s.finite;
  fil = s.fil;
  fill = s.fill;
  filll = s.filll;
  shrink = s.shrink;
}
with_shift maxdepth s _ = s

-- totals with what is added
abbrev pub shifted : Totals → Shift → Totals
shifted t s = record {
  total = ((t.total +ℤ t.depth) +ℤ s.height) -ℤ unwrap_or s.depth t.depth;
  depth = unwrap_or s.depth t.depth;
  has_box = t.has_box;
  finite = t.finite +ℤ s.finite;
  fil = t.fil +ℤ s.fil;
  fill = t.fill +ℤ s.fill;
  filll = t.filll +ℤ s.filll;
  shrink = t.shrink +ℤ s.shrink;
}
