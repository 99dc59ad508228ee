-- The layouts behind counts that are placed.
use Rattle.std.specs.Prelude.{ℕ, [], List, map}
use Rattle.std.specs.List.{flat_map}
use Rattle.pg_style.specs.Values.{StyleValue}
use Rattle.pg_rules.specs.Floats.{plus_counts, takes_bottom, takes_in_column, takes_top}
use Rattle.pg_rules.specs.Room.{Document}
use Rattle.pg_layouts.specs.declared.kind.ColumnKind.{ColumnKind}
use Rattle.pg_layouts.specs.declared.kind.ColumnKind.TheVariants.{Floats, Text}
use Rattle.pg_layouts.specs.declared.layout.Layout.{Layout}
use Rattle.pg_layouts.specs.Layouts.{area_lists, layout_of, zeros}

-- those with these floats at the top of a text
abbrev pub bottoms_behind : StyleValue → List ℕ → List ℕ → ℕ → List ℕ → List ℕ → List Layout
bottoms_behind style before ceiling run wide top =
    map (layout_of run wide top)
    (area_lists style takes_bottom style.bottom.count (plus_counts style before top) ceiling)

-- the one with these floats in a column without text
abbrev pub floats_alone : ℕ → List ℕ → List ℕ → List ℕ → Layout
floats_alone run wide none top = layout_of run wide top none

-- those with these floats across the page, where so many are placed with them
abbrev pub areas_behind : ColumnKind → StyleValue → List ℕ → List ℕ → ℕ → List ℕ → List Layout
areas_behind Text style before ceiling run wide =
    flat_map (bottoms_behind style before ceiling run wide) (area_lists style takes_top style.top.count before ceiling)
areas_behind Floats style before ceiling run wide =
    map (floats_alone run wide (zeros style))
    (area_lists style takes_in_column style.float_column.count before ceiling)

-- those with these floats across the page
abbrev pub with_areas : ColumnKind → StyleValue → List ℕ → List ℕ → ℕ → List ℕ → List Layout
with_areas kind style placed ceiling run wide = areas_behind kind style (plus_counts style placed wide) ceiling run wide

-- those of a run, for these wide counts
abbrev pub of_run : ColumnKind → StyleValue → List ℕ → List ℕ → List (List ℕ) → ℕ → List Layout
of_run kind style placed ceiling wides run = flat_map (with_areas kind style placed ceiling run) wides

-- a style with no galley
abbrev pub bare : StyleValue → Document
bare style = record { blocks = []; style = style }
