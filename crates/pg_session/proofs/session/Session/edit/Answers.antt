use Rattle.std.proofs.Common.{◌≡◌, subst, sym, take, List, None, ℕ}
use Rattle.pg_floats.specs.FloatsValue.{ClassFloatsValue}
use Rattle.pg_session.specs.Edits.{Refuses, edit_fault}
use Rattle.pg_session.specs.Kept.{seen}
use Rattle.pg_session.specs.SessionValue.{SessionValue}
use Rattle.pg_session.specs.Sessions.{IsEdited}
use Rattle.pg_session.proofs.Edited.{is_edited, session_edited, session_still}
use Rattle.pg_session.proofs.Faults.{earlier_fault, handed_on}
use Rattle.pg_session.proofs.session.Session.edit.Goals as goal

pub returns-in_err-floats-clause-cause : goal.returns-in_err-floats-clause-cause
returns-in_err-floats-clause-cause c =
    subst (λ (x : SessionValue). Refuses c.from_residual.result (edit_fault x.galley x.style c.args.edit.now))
    c.self.view_is
    (handed_on (List ClassFloatsValue) c.from_residual.result c.in_err-floats.field-0.0
    (edit_fault c.self.inside.galley c.self.inside.style c.args.edit.now) c.from_residual.ensures.1
    c.in_err-floats.ensures.cause)

pub returns-in_err-splice_in-clause-cause : goal.returns-in_err-splice_in-clause-cause
returns-in_err-splice_in-clause-cause c =
    subst (λ (x : SessionValue).
    Refuses c.from_residual-in_err-splice_in.result (edit_fault x.galley x.style c.args.edit.now)) c.self.view_is
    (earlier_fault c.self.inside.galley c.self.inside.style c.args.edit.now (Unit {0})
    c.from_residual-in_err-splice_in.result c.in_err-splice_in.field-0.0
    c.from_residual-in_err-splice_in.ensures.1 c.in_err-splice_in.ensures.cause)

pub invariant_of-self : goal.invariant_of-self
invariant_of-self c = session_still c.self.inside.galley c.splice_in.new.galley c.self.inside.style
    c.self.inside.floats c.self.inside.index c.self.inside.kept c.in_err-splice_in.ensures.err c.self.invariant

pub invariant_of-self-2 : goal.invariant_of-self-2
invariant_of-self-2 c = session_edited c.self.inside.galley c.splice_in.new.galley c.self.inside.style
    c.self.inside.floats c.in_ok-floats.floats c.args.edit.now c.self.inside.kept c.touch.new.self
    c.touched_block-block.result c.in_ok-splice_in.ensures.ok
    (c.touched_block-block.ensures c.self.inside.galley c.tail-before.ensures c.in_ok-splice_in.ensures.ok)
    c.touch.ensures c.in_ok-floats.ensures.ok c.self.inside.index c.mend.new.self c.self.invariant
    c.stay_in_range.ensures
    (c.edits_leave_right.ensures.right c.self.inside.galley c.args.edit.now c.self.invariant.range
    c.in_ok-splice_in.ensures.ok)
    (c.mend.ensures c.self.inside.galley.blocks
    (subst (λ (n : ℕ). take n c.self.inside.galley.blocks ≡ take n c.splice_in.new.galley.blocks)
    (sym (c.touched_block-block.ensures c.self.inside.galley c.tail-before.ensures c.in_ok-splice_in.ensures.ok))
    (c.edits_leave_right.ensures.front c.self.inside.galley c.args.edit.now c.in_ok-splice_in.ensures.ok)))

pub returns-clause-cause : goal.returns-clause-cause
returns-clause-cause c =
    subst (λ (x : SessionValue). edit_fault x.galley x.style c.args.edit.now ≡ None) c.self.view_is
    c.in_ok-floats.ensures.cause

pub returns-clause-ok : goal.returns-clause-ok
returns-clause-ok c = subst (λ (x : SessionValue). IsEdited x c.args.edit.now
    (seen c.splice_in.new.galley c.self.inside.style c.in_ok-floats.floats c.touch.new.self)) c.self.view_is
    (is_edited c.self.inside.galley c.splice_in.new.galley c.self.inside.style c.self.inside.floats
    c.in_ok-floats.floats c.args.edit.now c.self.inside.kept c.touch.new.self c.touched_block-block.result
    c.in_ok-splice_in.ensures.ok
    (c.touched_block-block.ensures c.self.inside.galley c.tail-before.ensures c.in_ok-splice_in.ensures.ok)
    c.touch.ensures c.in_ok-floats.ensures.ok)
