use Rattle.std.proofs.Common.{◌≡◌, ◌≤◌, ◌∙◌, ◌+◌, ◌-◌, sym, ap, subst, arith, length, List, ℕ}
use Rattle.std.specs.Prelude.{◌++◌, ◌∷◌, [], Contains}
use Rattle.pg_lines.specs.declared.ends.LineEnd.{LineEnd}
use Rattle.pg_lines.specs.Ends.{ends_from}
use Rattle.pg_lines.specs.Moves.{ends_at, low_by}
use Rattle.pg_lines.proofs.LowLaws.{all_told, told_end, told_more}
use Rattle.pg_lines.proofs.Moves.{listed_at}
use Rattle.pg_lines.proofs.fewest.fewest_lines.Goals as goal

pub back-init : goal.back-init
back-init c = told_end c.args.space.now.rule.now c.args.space.now.items.now c.push.new.self.items
    (c.in_ok-push.ensures.items ∙ ap (λ (xs : List ℕ). xs ++ 0 ∷ []) c.new-low.ensures.items)

pub back-preserved : goal.back-preserved
back-preserved c =
    let space = c.args.space.now in
    let within = c.back.invariant.within in
    let lists : c.ends_at.result.now ≡ ends_from space.rule.now space.items.now (c.back.place - 1) =
    c.ends_at.ensures ∙ ap (λ (ls : List (List LineEnd)). ends_at ls (c.back.place - 1)) c.requires.lists
    ∙ listed_at space.rule.now space.items.now (c.back.place - 1) (omega (arith, within)) in
    told_more space.rule.now space.items.now c.back.low.items c.push-in-back.new.self.items c.back.place
    c.fewest_over-fewest.result c.back.invariant c.back-test.true c.in_ok-push-2.ensures.items
    (λ e a. subst (λ (low : List ℕ). c.fewest_over-fewest.result ≤ low_by (length space.items.now) low e.place + 1)
    c.as_slice.ensures.value
    (c.fewest_over-fewest.ensures e (subst (λ (es : List LineEnd). Contains es e) (sym lists) a)))

pub returns : goal.returns
returns c = all_told c.args.space.now.rule.now c.args.space.now.items.now c.back.low.items c.back.place c.back.invariant
    (omega (arith, c.back-test.false))
