use Rattle.std.proofs.Common.{subst, Option, IfSome, ℕ, inl}
use Rattle.pg_rules.specs.Legal.{document}
use Rattle.law_walk.specs.Reached.{quiet, tallest}
use Rattle.pg_walk.specs.Blocks.{IsAlone}
use Rattle.pg_walk.proofs.reach.reach_told.Goals as goal

pub one_more-requires-clause-greatest : goal.one_more-requires-clause-greatest
one_more-requires-clause-greatest c =
    let doc = document c.args.galley.now c.args.style.now in
    inl (subst (λ (o : Option ℕ). IfSome o (IsAlone (quiet doc) (tallest c.args.style.now) c.args.from)) c.in-Some.is
    c.requires.told)
