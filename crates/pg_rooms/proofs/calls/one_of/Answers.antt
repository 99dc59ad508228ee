use Rattle.std.proofs.Common.{refl, subst, Option}
use Rattle.std.specs.Prelude.{IfSome}
use Rattle.pg_list.specs.declared.galley.Place.{Place}
use Rattle.pg_rooms.specs.Calls.{IsLike}
use Rattle.pg_rooms.proofs.calls.one_of.Goals as goal

pub returns-in-Some : goal.returns-in-Some
returns-in-Some c = λ doc first next.
    subst (λ (o : Option Place). IfSome o (λ like. IsLike doc like c.args.place)) c.in-Some.is first

pub returns-in-Some-next : goal.returns-in-Some-next
returns-in-Some-next c = λ doc first next.
    subst (λ (o : Option Place). IfSome o (λ like. IsLike doc like c.args.place)) c.in-Some-next.is next

pub returns-in-None-next : goal.returns-in-None-next
returns-in-None-next c = λ doc first next. record { same = refl }
