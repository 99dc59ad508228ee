use Rattle.std.proofs.Common.{subst}
use Rattle.pg_list.specs.GalleyValue.{GalleyValue}
use Rattle.pg_style.specs.Values.{StyleValue}
use Rattle.pg_make.specs.Made.{made_style}
use Rattle.pg_session.specs.Sessions.{IsNew}
use Rattle.pg_course.proofs.MadeFloats.{IsMemory, only_memory}
use Rattle.pg_course.proofs.make.session_of.Goals as goal

pub unreachable-requires : goal.unreachable-requires
unreachable-requires c = subst IsMemory c.in-Err-Class.field-0-is
    (only_memory c.args.count c.in_ok-galley.galley c.make_style.result c.in-Err-Class.field-0 c.requires
    c.in_ok-galley.ensures c.make_style.ensures c.in-Err-Class.ensures)

pub unreachable-requires-in-Err-Limit : goal.unreachable-requires-in-Err-Limit
unreachable-requires-in-Err-Limit c = subst IsMemory c.in-Err-Limit.field-0-is
    (only_memory c.args.count c.in_ok-galley.galley c.make_style.result c.in-Err-Limit.field-0 c.requires
    c.in_ok-galley.ensures c.make_style.ensures c.in-Err-Limit.ensures)

pub returns-in-Ok : goal.returns-in-Ok
returns-in-Ok c =
    subst (λ (galley : GalleyValue). IsNew galley made_style c.in-Ok.session) c.in_ok-galley.ensures
    (subst (λ (style : StyleValue). IsNew c.in_ok-galley.galley style c.in-Ok.session) c.make_style.ensures
    c.in-Ok.ensures.0)
