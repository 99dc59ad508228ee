use Rattle.std.proofs.Common.{◌≤◌, sym, subst, List}
use Rattle.pg_list.specs.Counts.{block_size, item_limit}
use Rattle.pg_list.specs.declared.blocks.Block.TheVariants.{Choice}
use Rattle.pg_list.specs.declared.variants.Variant.{Variant}
use Rattle.law_lines.proofs.Shapes.{variants_choice}
use Rattle.pg_lines.specs.Answers.{Varies}
use Rattle.pg_lines.proofs.Going.{made_more}
use Rattle.pg_lines.proofs.LineSizes.{variants_few}
use Rattle.pg_lines.proofs.galley.Made.add.Goals as goal

pub count_with-count-requires-clause-more : goal.count_with-count-requires-clause-more
count_with-count-requires-clause-more g c = subst (λ (vs : List Variant). block_size (Choice vs) ≤ item_limit)
    (sym c.as_slice.ensures.value)
    (variants_few c.args.rule.now c.args.items.now c.requires.para c.in-Some.variants.items
    (subst (Varies c.args.rule.now c.args.items.now) c.in-Some.is c.in-Ok.ensures))

pub push_paragraph-requires : goal.push_paragraph-requires
push_paragraph-requires g c = variants_choice c.args.rule.now c.args.items.now c.requires.para.ranges
    c.in-Some.variants.items (subst (Varies c.args.rule.now c.args.items.now) c.in-Some.is c.in-Ok.ensures)

pub returns-clause-made : goal.returns-clause-made
returns-clause-made g c = made_more c.args.self.now c.push_paragraph.new.blocks c.in-Some.variants.items
    c.as_slice.result.now c.count_with-count.result c.requires.made
    (variants_choice c.args.rule.now c.args.items.now c.requires.para.ranges
    c.in-Some.variants.items (subst (Varies c.args.rule.now c.args.items.now) c.in-Some.is c.in-Ok.ensures))
    c.as_slice.ensures.value c.count_with-count.ensures c.if-count-gt-ITEM_LIMIT.false c.in-Ok-push_paragraph.ensures
