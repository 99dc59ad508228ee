-- The laws of this crate.
use Rattle.std.proofs.Common.{◌<◌, ◌^◌, arith}
use Rattle.std.specs.Prelude.{reverse, length, nat_abs}
use Rattle.pg_list.specs.GalleyValue.{GalleyValue}
use Rattle.pg_plan.specs.Order.{columns}
use Rattle.pg_style.specs.Values.{StyleValue}
use Rattle.pg_rules.specs.Legal.{breach, document, unless, ends_spent, has_dealt_all}
use Rattle.pg_rules.specs.History.{placed_of}
use Rattle.law_columns.proofs.Faults.{sound_of}
use Rattle.pg_rules.specs.Ranges.{AreInRange}
use Rattle.law_read_back.specs.OutputLaws.{PagesReadBack, StatesAreInRange}
use Rattle.law_read_back.proofs.Moves.{moves_printed}
use Rattle.law_read_back.proofs.States.{labels_printed}
use Rattle.law_read_back.proofs.PagesRead.{pages_read}

pub pages_read_back : (galley : GalleyValue) (style : StyleValue) → AreInRange galley style →
    nat_abs galley.width < 2 ^ 30 → PagesReadBack galley style
unfolding breach
pages_read_back galley style range width plan cost fitness labels legal wide few small each =
    let doc = document galley style in
    let s = sound_of doc (reverse plan.pages) (columns plan)
    (unless (ends_spent doc (columns plan)) (length (columns plan)))
    (unless (has_dealt_all doc (placed_of doc.style (columns plan))) (length (columns plan))) legal.unbroken in
    pages_read galley style plan cost fitness labels s.filled
    (record {
      pages = omega (arith, few);
      cost_in = wide;
      width = omega (arith, width);
      moves = moves_printed doc range.style_in range.blocks range.limit (columns plan) s.stand;
    }) small each

pub states_are_in_range : (galley : GalleyValue) (style : StyleValue) → AreInRange galley style →
    StatesAreInRange galley style
states_are_in_range galley style range labels few h =
    labels_printed (document galley style) range.style_in range.blocks range.limit few labels h
