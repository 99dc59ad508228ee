-- Whether a span fits a galley.
use Rattle.std.specs.Prelude.{◌≡◌, ℕ, Bool, false, ◌==◌, ◌&&◌, List, length}
use Rattle.std.specs.Option.{option_map_or}
use Rattle.pg_list.specs.declared.blocks.Block.{Block}
use Rattle.pg_list.specs.declared.galley.Place.{Place}
use Rattle.pg_list.specs.Flat.{blocks_at, flat_items_at, fronts, picked_variants, steps_to}
use Rattle.pg_rules.specs.Room.{ColumnContext}
use Rattle.pg_column.specs.declared.span.Span.{Span}

-- each pick names a variant of its choice
abbrev pub are_named : List Block → Place → List ℕ → Bool
are_named blocks from picks = length (picked_variants (blocks_at blocks from) picks) == length picks

-- the end is a place that follows the start, past a front for each pick, and each pick names a variant
abbrev pub does_fit_from : List Block → Place → List ℕ → Place → Bool
does_fit_from blocks from picks to = option_map_or
    (λ (n : ℕ). (fronts (flat_items_at blocks from picks) n == length picks) && are_named blocks from picks)
    (steps_to blocks (flat_items_at blocks from picks) to) false

-- the same of a span
abbrev pub does_span_fit : List Block → Span → Bool
does_span_fit blocks span = does_fit_from blocks span.from span.picks span.to

-- the text of a column is this span
pub record HasSpan (it : ColumnContext) (span : Span) : Type 0 where
  pub from : it.column.from ≡ span.from
  pub to : it.column.to ≡ span.to
  pub picks : it.column.picks ≡ span.picks
