-- The document of a galley under a style.
use Rattle.law_moves.specs.Listed.{beyond}
use Rattle.pg_list.specs.Barrier.{text_block}
use Rattle.pg_list.specs.declared.galley.Place.{Place}
use Rattle.pg_rules.specs.Floats.{called, flushed}
use Rattle.pg_rules.specs.Legal.{document}
use Rattle.pg_rules.specs.Room.{Document}
use Rattle.pg_sources.specs.declared.calls.Before.{Before}
use Rattle.pg_sources.specs.declared.place_counts.PlaceCounts.{PlaceCounts}
use Rattle.pg_sources.specs.declared.sources.Sources.{Sources}

-- the galley's blocks and the style
abbrev pub doc_of : Sources → Document
doc_of sources = document sources.galley.now sources.style.now

-- how many floats of each class are called before a place, and how many before the last barrier in front of it
abbrev pub before_of : Document → Place → Before
before_of doc at = record {
  called = called doc.blocks doc.style at;
  flushed = flushed doc.blocks doc.style at.block;
}

-- how many floats of each class are called before a place, before the last barrier in front of the block at which a text from
-- there begins, and before all blocks that a column from there does not reach
abbrev pub counts_of : Document → Place → PlaceCounts
counts_of doc from = record {
  called = called doc.blocks doc.style from;
  flushed = flushed doc.blocks doc.style (text_block doc.blocks from);
  most = called doc.blocks doc.style (beyond doc from);
}
