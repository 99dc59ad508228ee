use Rattle.std.proofs.Common.{sym, subst, ◌∙◌, ◌<◌, ◌^◌}
use Rattle.std.specs.Prelude.{nat_abs}
use Rattle.pg_style.specs.declared.style.Give.{Give}
use Rattle.pg_rules.specs.Legal.{document}
use Rattle.pg_pages.specs.Seated.{seated}
use Rattle.pg_pages.proofs.Rooms.{given_from, given_is, given_small}
use Rattle.pg_pages.proofs.seats.give_of.Goals as goal

pub returns-clause-value : goal.returns-clause-value
returns-clause-value c =
    let it = seated (document c.args.galley.now c.args.style.now) c.args.seat.now c.args.column.now in
    let are = given_from it c.stays_in_range.ensures c.requires.may c.args.below.now _ _ c.requires.below
    (c.top_give-top.ensures.stretch _ _ c.requires.floats) (c.top_give-top.ensures.shrink _ _ c.requires.floats)
    (c.bottom_give-bottom.ensures.stretch _ _ c.requires.floats)
    (c.bottom_give-bottom.ensures.shrink _ _ c.requires.floats) in
    c.plus.ensures.value ∙ given_is it c.stays_in_range.ensures c.requires.may _ _ are

pub returns-clause-size : goal.returns-clause-size
returns-clause-size c =
    let it = seated (document c.args.galley.now c.args.style.now) c.args.seat.now c.args.column.now in
    let are = given_from it c.stays_in_range.ensures c.requires.may c.args.below.now _ _ c.requires.below
    (c.top_give-top.ensures.stretch _ _ c.requires.floats) (c.top_give-top.ensures.shrink _ _ c.requires.floats)
    (c.bottom_give-bottom.ensures.stretch _ _ c.requires.floats)
    (c.bottom_give-bottom.ensures.shrink _ _ c.requires.floats) in
    let small = given_small it c.stays_in_range.ensures c.requires.may _ _ are in (
      subst (λ (give : Give). nat_abs give.stretch < 2 ^ 40) (sym c.plus.ensures.value) small.0,
      subst (λ (give : Give). nat_abs give.shrink < 2 ^ 40) (sym c.plus.ensures.value) small.1,
    )
