use Rattle.std.proofs.Common.{◌∙◌, sym}
use Rattle.pg_hops.proofs.Telling.{told_break}
use Rattle.pg_hops.proofs.cursor.Cursor.is_break.Goals as goal

pub returns-in-Some : goal.returns-in-Some
returns-in-Some c =
    told_break c.args.galley.now.blocks c.shaped.ensures c.args.self.now c.args.item.now c.requires c.in-Some.is_break
    (sym c.told.ensures ∙ c.in-Some.is)
