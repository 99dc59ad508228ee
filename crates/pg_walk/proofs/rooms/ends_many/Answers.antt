use Rattle.std.proofs.Common.{rules, subst, sym, ℤ, w64, to_z, of_z}
use Rattle.std.specs.List.{AllByRecursion}
use Rattle.std.proofs.lemmas.Int.{to_z-of_z}
use Rattle.pg_rules.specs.Legal.{document}
use Rattle.pg_candidates.specs.Nears.{AreNearFrom, IsWithin}
use Rattle.pg_walk.proofs.Several.{for_each, within}
use Rattle.pg_walk.proofs.rooms.ends_many.Goals as goal

pub returns : goal.returns
returns c =
    let doc = document c.args.galley.now c.args.style.now in
    let top = to_z-of_z w64 c.top_of.result (record { sfits = search rules }) in
    let most = to_z-of_z w64 c.stretch_of.result (record { sfits = search rules }) in
    for_each c.ends_near.result doc c.args.from c.top_of.result c.stretch_of.result c.args.rooms.now c.in_ok-nears.nears
    c.top_of.ensures
    (subst (λ (z : ℤ). AllByRecursion (IsWithin z) c.args.rooms.now) (sym c.stretch_of.ensures.value)
    (within _ c.args.rooms.now c.requires.rooms))
    (subst (λ (z : ℤ). AreNearFrom doc c.args.from c.top_of.result z c.in_ok-nears.nears) most
    (subst (λ (z : ℤ). AreNearFrom doc c.args.from z (to_z w64 (of_z w64 c.stretch_of.result)) c.in_ok-nears.nears) top c.in_ok-nears.ensures))
    c.ends_near.ensures
