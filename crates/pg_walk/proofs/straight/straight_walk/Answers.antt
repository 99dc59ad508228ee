use Rattle.std.proofs.Common.{rules, subst, ◌∙◌, ℤ, w64}
use Rattle.std.proofs.lemmas.Int.{to_z-of_z}
use Rattle.pg_rules.specs.Legal.{document}
use Rattle.law_walk.specs.Reached.{tallest}
use Rattle.pg_walk.specs.Blocks.{HasWalked}
use Rattle.pg_walk.proofs.InRoom.{first_best}
use Rattle.pg_walk.proofs.straight.straight_walk.Goals as goal

pub returns-clause-room : goal.returns-clause-room
returns-clause-room c = c.in_ok-walked.ensures.ends.room

pub returns-clause-ends : goal.returns-clause-ends
returns-clause-ends c =
    let top = to_z-of_z w64 c.tallest.result (record { sfits = search rules }) ∙ c.tallest.ensures in
    first_best c.args.galley.now c.args.style.now _ (tallest c.args.style.now) top c.args.from c.args.none
    c.first_stretch.new.found c.requires.galley c.requires.none c.in_ok-walked.ensures.ends

pub returns-clause-walked : goal.returns-clause-walked
returns-clause-walked c =
    let top = to_z-of_z w64 c.tallest.result (record { sfits = search rules }) ∙ c.tallest.ensures in
    subst (λ (z : ℤ). HasWalked (document c.args.galley.now c.args.style.now) z c.args.from c.in_ok-walked.walked) top
    c.in_ok-walked.ensures.walked
