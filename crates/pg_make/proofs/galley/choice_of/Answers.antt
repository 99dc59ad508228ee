use Rattle.std.proofs.Common.{rules, ◌≡◌}
use Rattle.pg_list.specs.Shapes.{IsChoice}
use Rattle.pg_make.specs.Generated.{made_variants}
use Rattle.pg_make.proofs.Paragraphs.{pushed_choice}
use Rattle.pg_make.proofs.galley.choice_of.Goals as goal

are : (c : goal.In_ok-push-3) → c.push-3.new.self.items ≡ made_variants c.args.paragraph × IsChoice c.push-3.new.self.items
are c = pushed_choice c.args.paragraph _ _ _ _ c.in_ok-variant_of.field-0 c.in_ok-variant_of-2.field-0
    c.in_ok-variant_of-3.field-0 c.new-variants.ensures.items c.in_ok-push.ensures.items c.in_ok-push-2.ensures.items
    c.in_ok-push-3.ensures.items (search rules) c.in_ok-variant_of.ensures.range c.in_ok-variant_of-2.ensures.range
    c.in_ok-variant_of-3.ensures.range

pub of-requires : goal.of-requires
of-requires c = (are c).1
