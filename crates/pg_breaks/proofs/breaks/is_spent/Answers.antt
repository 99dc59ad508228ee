use Rattle.std.proofs.Common.{rules, ◌≡◌, ◌∙◌}
use Rattle.std.specs.Prelude.{nat_le}
use Rattle.pg_breaks.specs.Near.{place_spent}
use Rattle.pg_breaks.proofs.Answers.{spent-whole, spent-column}
use Rattle.pg_breaks.proofs.breaks.is_spent.Goals as goal

pub returns-clause-whole : goal.returns-clause-whole
returns-clause-whole c = λ picks k named e.
    let spent : nat_le c.solid.result c.args.place.block ≡ place_spent c.args.galley.now.blocks c.args.place = search rules in
    spent ∙ spent-whole c.args.galley.now.blocks c.blocks_of-shaped.ensures.shape c.args.place picks k named e

pub returns-clause-column : goal.returns-clause-column
returns-clause-column c = λ start picks n named e.
    let spent : nat_le c.solid.result c.args.place.block ≡ place_spent c.args.galley.now.blocks c.args.place = search rules in
    spent ∙ spent-column c.args.galley.now.blocks c.blocks_of-shaped.ensures.shape c.args.place start picks n named e
