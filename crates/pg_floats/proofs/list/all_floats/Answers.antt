use Rattle.std.proofs.Common.{◌++◌, sym, subst, List}
use Rattle.pg_list.specs.Shapes.{IsBlock}
use Rattle.pg_style.specs.declared.style.Class.{Class}
use Rattle.pg_floats.specs.AreFloats.{IsWithinLimit}
use Rattle.pg_floats.specs.Callouts.{lists_from}
use Rattle.pg_floats.proofs.InParts.{all_last, all_middle}
use Rattle.pg_floats.proofs.Lists.{has_floats, makes_list}
use Rattle.pg_floats.proofs.list.all_floats.Goals as goal

pub unknown-requires-clause-fresh : goal.unknown-requires-clause-fresh
unknown-requires-clause-fresh c =
    all_middle IsBlock c.args.before.now c.args.fresh.now c.args.behind.now c.requires.shape

pub unknown-requires-clause-behind : goal.unknown-requires-clause-behind
unknown-requires-clause-behind c =
    all_last IsBlock c.args.before.now c.args.fresh.now c.args.behind.now c.requires.shape

pub returns-in-None : goal.returns-in-None
returns-in-None c =
    makes_list c.listed.result (c.args.before.now ++ c.args.fresh.now ++ c.args.behind.now) c.args.style.now
    (sym c.in-None.ensures)
    (has_floats c.listed.result (c.args.before.now ++ c.args.fresh.now ++ c.args.behind.now) c.args.style.now
    c.requires.shape c.classes_of.ensures.range
    (subst (λ (classes : List Class). IsWithinLimit c.listed.result
    (lists_from (c.args.before.now ++ c.args.fresh.now ++ c.args.behind.now) classes))
    c.classes_of.ensures.classes c.listed.ensures))
