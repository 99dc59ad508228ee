-- Galleys are equal in one way at most, and so are styles and counts.
use Rattle.std.specs.Coded.{Coded-set}
use Rattle.pg_list.specs.GalleyValue.{GalleyValue}
use Rattle.pg_list.specs.contracts.galley.Galley as galley_row
use Rattle.pg_sources.specs.contracts.place_counts.PlaceCounts as counts_row
use Rattle.pg_sources.specs.declared.place_counts.PlaceCounts.{PlaceCounts}
use Rattle.pg_style.specs.Values.{StyleValue}
use Rattle.pg_style.specs.contracts.style.Style as style_row

pub galley_set : IsSet GalleyValue
galley_set = Coded-set galley_row.the_row.coded

pub style_set : IsSet StyleValue
style_set = Coded-set style_row.the_row.coded

pub counts_set : IsSet PlaceCounts
counts_set = Coded-set counts_row.the_row.coded
