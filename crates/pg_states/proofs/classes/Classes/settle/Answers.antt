use Rattle.std.proofs.Common.{rules, ◌≡◌, ◌-◌, ◌∙◌, ap, refl, subst, sym, drop, ℕ}
use Rattle.pg_floats.proofs.Ranges.{not_all}
use Rattle.pg_rules.specs.Floats.{entry}
use Rattle.pg_states.specs.Lines.{with_zeros, young_in}
use Rattle.pg_states.specs.Settling.{AreSettled, line_by}
use Rattle.pg_states.proofs.Ahead.{next_ahead, own_line}
use Rattle.pg_states.proofs.Empty.{next_empty, same_ahead}
use Rattle.pg_states.proofs.Next.{next_settled, own_young}
use Rattle.pg_states.proofs.classes.Classes.settle.Goals as goal

pub returns-then-not-branch : goal.returns-then-not-branch
returns-then-not-branch c =
    let line = own_line c.args.self.now.waits.now c.args.ages.now c.loop-slot.slot c.loop-slot.ahead.now
    (with_zeros c.line-line.result.waited.now c.line-line.result.fresh)
    (entry c.args.self.now.reached.now c.loop-slot.slot - entry c.args.self.now.called.now c.loop-slot.slot)
    c.loop-slot.invariant.1 c.line-line.ensures in
    not_all (young_in c.args.style.now (line_by c.args.self.now c.args.ages.now) c.args.self.now.placed.now
    c.args.self.now.after.now c.args.pages) c.args.slots c.loop-slot.slot c.loop-slot-test.true
    (sym (own_young c.args.style.now (line_by c.args.self.now c.args.ages.now) c.args.self.now.placed.now
    c.args.self.now.after.now c.args.pages c.loop-slot.slot
    (with_zeros c.line-line.result.waited.now c.line-line.result.fresh) c.short_table-table.result.now
    c.taken-taken.result line c.short_table-table.ensures.table c.taken-taken.ensures.value)
    ∙ (sym c.in_ok-push_left.ensures.young ∙ c.if-not-branch.true))

pub loop-slot-preserved-then-is_line_empty : goal.loop-slot-preserved-then-is_line_empty
loop-slot-preserved-then-is_line_empty c =
    let empty = sym c.is_line_empty.ensures ∙ c.if-is_line_empty.true in (
      next_empty c.args.style.now c.args.self.now.waits.now c.args.ages.now c.args.self.now.called.now
          c.args.self.now.reached.now c.args.self.now.placed.now c.args.self.now.after.now c.args.pages
          c.loop-slot.slot c.loop-slot.left c.loop-slot.price empty c.loop-slot.invariant.0,
      same_ahead c.args.self.now.waits.now c.args.ages.now c.args.self.now.called.now c.args.self.now.reached.now
          c.loop-slot.slot c.loop-slot.ahead.now empty c.loop-slot.invariant.1,
    )

pub loop-slot-preserved : goal.loop-slot-preserved
loop-slot-preserved c =
    let line = own_line c.args.self.now.waits.now c.args.ages.now c.loop-slot.slot c.loop-slot.ahead.now
    (with_zeros c.line-line.result.waited.now c.line-line.result.fresh)
    (entry c.args.self.now.reached.now c.loop-slot.slot - entry c.args.self.now.called.now c.loop-slot.slot)
    c.loop-slot.invariant.1 c.line-line.ensures in (
      next_settled c.args.style.now (line_by c.args.self.now c.args.ages.now) c.args.self.now.placed.now
          c.args.self.now.after.now c.args.pages c.loop-slot.slot
          (with_zeros c.line-line.result.waited.now c.line-line.result.fresh) c.short_table-table.result.now
          c.taken-taken.result line c.short_table-table.ensures.table c.taken-taken.ensures.value c.loop-slot.left
          c.push_left.new.left c.loop-slot.price c.price.result _ c.loop-slot.invariant.0
          (sym c.if-not-branch.false ∙ c.in_ok-push_left.ensures.young)
          (c.in_ok-push_left.ensures.left c.if-not-branch.false) c.price.ensures.value c.price.ensures.small refl,
      next_ahead c.args.self.now.waits.now c.args.ages.now c.loop-slot.slot c.loop-slot.ahead.now
          c.behind-ahead.result.now c.loop-slot.invariant.1
          (c.behind-ahead.ensures ∙ ap (λ (n : ℕ). drop n c.loop-slot.ahead.now) c.waiting.ensures),
    )

pub returns : goal.returns
returns c =
    let e : c.loop-slot.slot ≡ c.args.slots = search rules in
    subst (λ (n : ℕ). AreSettled c.args.style.now (line_by c.args.self.now c.args.ages.now) c.args.self.now.placed.now
    c.args.self.now.after.now c.args.pages n c.loop-slot.left c.loop-slot.price) e c.loop-slot.invariant.0
