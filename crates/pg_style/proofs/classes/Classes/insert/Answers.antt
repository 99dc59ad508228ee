use Rattle.std.proofs.Common.{rules}
use Rattle.pg_style.proofs.ClassLemmas.{put_in, keeps_on}
use Rattle.pg_style.proofs.classes.Classes.insert.Goals as goal

pub returns : goal.returns
returns c =
    put_in c.self.inside.classes c.copy_within.new.self c.args.self.now c.self.inside.count c.count_below-index.result c.args.class
    c.self.view_is (search rules) c.self.invariant.1 c.requires.few c.copy_within.ensures.after
    c.count_below-index.ensures.count c.count_below-index.ensures.within

pub invariant_of-self : goal.invariant_of-self
invariant_of-self c =
    keeps_on c.self.inside.classes c.args.self.now _ c.self.inside.count c.args.class
    (put_in c.self.inside.classes c.copy_within.new.self c.args.self.now c.self.inside.count c.count_below-index.result c.args.class
    c.self.view_is (search rules) c.self.invariant.1 c.requires.few c.copy_within.ensures.after
    c.count_below-index.ensures.count c.count_below-index.ensures.within)
    c.self.view_is (search rules) c.self.invariant.1 c.requires.few c.self.invariant.0 c.requires.range c.requires.new_number
