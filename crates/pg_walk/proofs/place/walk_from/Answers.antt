use Rattle.std.proofs.Common.{refl, rules, ◌∙◌, w64}
use Rattle.std.proofs.lemmas.Int.{to_z-of_z}
use Rattle.pg_rules.specs.Legal.{document}
use Rattle.pg_walk.proofs.Behind.{alone_at}
use Rattle.pg_walk.proofs.First.{has_start, tells_alone}
use Rattle.pg_walk.proofs.place.walk_from.Goals as goal

pub walk_on_from-requires-clause-top : goal.walk_on_from-requires-clause-top
walk_on_from-requires-clause-top c = to_z-of_z w64 c.tallest.result (record { sfits = search rules }) ∙ c.tallest.ensures

pub walk_on_from-requires-clause-ends : goal.walk_on_from-requires-clause-ends
walk_on_from-requires-clause-ends c =
    alone_at (document c.args.galley.now c.args.style.now) _ _ refl c.args.from c.in_ok-found.found
    c.first_stretch.new.found c.in_ok-found.ensures c.in_ok-walked.ensures.ends

pub walk_on_from-requires-clause-start : goal.walk_on_from-requires-clause-start
walk_on_from-requires-clause-start c =
    has_start (document c.args.galley.now c.args.style.now) _ c.args.from c.in_ok-walked.walked
    c.state_behind-start.result c.state_behind-start.ensures c.in_ok-walked.ensures.walked

pub walk_on_from-requires-clause-told : goal.walk_on_from-requires-clause-told
walk_on_from-requires-clause-told c =
    tells_alone (document c.args.galley.now c.args.style.now) _ c.args.from c.in_ok-walked.walked
    c.state_behind-start.result c.quiet_greatest-told.result c.state_behind-start.ensures c.quiet_greatest-told.ensures
    c.in_ok-walked.ensures.walked
