use Rattle.std.proofs.Common.{rules, subst, sym, ◌∙◌, ℤ, w64}
use Rattle.std.proofs.lemmas.Int.{to_z-of_z}
use Rattle.law_walk.specs.Laws.{AreUpTo}
use Rattle.pg_walk.proofs.Several.{up_to}
use Rattle.pg_walk.proofs.rooms.top_of.Goals as goal

pub returns-in-len1-up : goal.returns-in-len1-up
returns-in-len1-up c =
    subst (λ (z : ℤ). AreUpTo z c.args.rooms.now)
    (sym (to_z-of_z w64 c.greatest_of.result (record { sfits = search rules }) ∙ c.greatest_of.ensures))
    (up_to _ c.args.rooms.now)
