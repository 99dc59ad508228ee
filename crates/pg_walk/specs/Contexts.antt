-- What walks go over.
use Rattle.pg_hops.specs.Index.{AreHops}
use Rattle.pg_rules.specs.Legal.{document}
use Rattle.pg_rules.specs.Room.{Document}
use Rattle.pg_walk.specs.declared.context.Context.{Context}

-- the galley's blocks and the style
abbrev pub doc_of : Context → Document
doc_of context = document context.galley.now context.style.now

-- the index is of the galley and style
abbrev pub IsContext : Context → Type 0
IsContext context = AreHops context.galley.now.blocks context.style.now.maxdepth context.index.now
