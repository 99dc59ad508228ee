use Rattle.std.proofs.Common.{rules, ◌≡◌, subst, Some, false}
use Rattle.pg_hops.specs.Index.{AreRowHops}
use Rattle.pg_hops.specs.declared.index.Row.{Row}
use Rattle.pg_hops.specs.declared.index.Row.TheVariants.{Single}
use Rattle.pg_hops.proofs.index.with_leap.Goals as goal

pub far_row-requires : goal.far_row-requires
far_row-requires c =
    let is : c.args.row ≡ Single (Some c.in-Single-Some.hop) = search rules in
    (subst (AreRowHops c.args.galley.now.blocks c.args.style.now.maxdepth c.args.block) is c.requires false 0 0).0
