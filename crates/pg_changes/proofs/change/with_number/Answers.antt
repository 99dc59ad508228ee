use Rattle.std.proofs.Common.{◌≡◌, subst, sym, pos}
use Rattle.std.specs.Prelude.{IfSome}
use Rattle.pg_style.specs.Values.{StyleValue}
use Rattle.pg_changes.specs.Numbers.{lengthened, limited, with_kind_by, with_number}
use Rattle.pg_changes.specs.declared.number.Number.{Number}
use Rattle.pg_changes.proofs.change.with_number.Goals as goal

pub returns-in-Limit : goal.returns-in-Limit
returns-in-Limit c =
    subst (λ (number : Number). IfSome c.with_limit.result
    (λ (made : StyleValue). made ≡ with_number c.args.style.now number c.args.value)) (sym c.in-Limit.is)
    (subst (λ (s : StyleValue). IfSome c.with_limit.result
    (λ (made : StyleValue). made ≡ with_kind_by (limited (pos c.args.value)) s c.in-Limit.index)) c.copied-made.ensures
    c.with_limit.ensures)

pub returns-in-Distance : goal.returns-in-Distance
returns-in-Distance c =
    subst (λ (number : Number). IfSome c.with_distance.result
    (λ (made : StyleValue). made ≡ with_number c.args.style.now number c.args.value)) (sym c.in-Distance.is)
    (subst (λ (s : StyleValue). IfSome c.with_distance.result
    (λ (made : StyleValue). made ≡ with_kind_by (lengthened c.args.value) s c.in-Distance.index)) c.copied-made.ensures
    c.with_distance.ensures)
