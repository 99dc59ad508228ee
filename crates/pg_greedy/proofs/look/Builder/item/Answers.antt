use Rattle.std.proofs.Common.{◌∙◌}
use Rattle.pg_greedy.proofs.Places.{few_behind, in_range, item_here}
use Rattle.pg_greedy.proofs.look.Builder.item.Goals as goal

pub returns-clause-item : goal.returns-clause-item
returns-clause-item c = c.item_at.ensures
    ∙ item_here c.args.self.now c.requires.builder c.args.from c.args.count c.place_at.result c.place_at.ensures

pub returns-clause-range : goal.returns-clause-range
returns-clause-range c = in_range c.args.self.now c.blocks_of-shaped.ensures.shape c.place_at.result c.item_at.result
    c.item_at.ensures

pub returns-clause-few : goal.returns-clause-few
returns-clause-few c = few_behind c.args.self.now c.requires.builder c.args.from c.args.count
    c.blocks_of-shaped.ensures.few c.item_at.result (c.item_at.ensures
    ∙ item_here c.args.self.now c.requires.builder c.args.from c.args.count c.place_at.result c.place_at.ensures)
