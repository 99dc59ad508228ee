use Rattle.std.proofs.Common.{ap}
use Rattle.pg_table.proofs.Bucketed.{none_left, next_stands, none_apart}
use Rattle.pg_table.proofs.bucket.Bucket.pop.Goals as goal

pub returns-then-is_empty-clause-items : goal.returns-then-is_empty-clause-items
returns-then-is_empty-clause-items g c =
    none_left c.self.inside.others.items c.args.self.now.items c.self.inside.last c.take.new.self c.take.result
    (ap (λ v. v.items) c.self.view_is) c.take.ensures.after c.take.ensures.value

pub returns-then-is_empty-clause-none : goal.returns-then-is_empty-clause-none
returns-then-is_empty-clause-none g c =
    none_apart c.self.inside.others.items c.args.self.now.items c.self.inside.last c.take.result
    (ap (λ v. v.items) c.self.view_is) c.self.invariant c.take.ensures.value

pub returns-clause-items : goal.returns-clause-items
returns-clause-items g c =
    next_stands c.self.inside.others.items c.pop-next.new.self.items c.args.self.now.items c.self.inside.last
    c.pop-next.result c.replace.result c.replace.new.dest
    (ap (λ v. v.items) c.self.view_is) c.pop-next.ensures.items c.replace.ensures.after c.replace.ensures.value

pub returns-clause-none : goal.returns-clause-none
returns-clause-none g c =
    none_apart c.self.inside.others.items c.args.self.now.items c.self.inside.last c.replace.result
    (ap (λ v. v.items) c.self.view_is) c.self.invariant c.replace.ensures.value
