use Rattle.std.proofs.Common.{◌+◌, ◌∙◌, ap, refl, subst, ℕ, List, map}
use Rattle.std.specs.List.Sorted.{IsPermutation}
use Rattle.pg_plan.specs.declared.pages.PageMove.{PageMove}
use Rattle.pg_plan.specs.declared.states.State.{State}
use Rattle.law_space.specs.SpaceLaws.{label_of}
use Rattle.pg_table.specs.declared.table.Entry.{Entry}
use Rattle.pg_session.proofs.Above.{labels_reach}
use Rattle.pg_session.proofs.Reaching.{reaching_same}
use Rattle.pg_session.specs.declared.kept.Kept.{Kept}
use Rattle.pg_session.proofs.solving.renew.Goals as goal

pub returns-clause-known : goal.returns-clause-known
returns-clause-known g c =
    let frontier = (c.filled_table_tells_all.ensures c.refill.new.kept.table c.in_ok-refill.ensures.filled.filled).frontier
    c.in_ok-kept.field-0
    (subst (λ (es : List (Entry State PageMove)). IsPermutation (map label_of es) c.in_ok-kept.field-0)
    c.labels.ensures c.in_ok-kept.ensures.all) c.in_ok-kept.ensures.order in
    record {
      filled = c.in_ok-refill.ensures.filled.filled;
      frontier = frontier;
      reaches = labels_reach c.args.pages.now.galley.now c.args.pages.now.style.now c.in_ok-kept.field-0 c.requires.range frontier;
      solved = refl;
      untouched = ap (λ (kept : Kept). kept.touched) c.in_ok-refill.ensures.filled.is;
    }

pub returns-clause-counted : goal.returns-clause-counted
returns-clause-counted g c = c.in_ok-refill.ensures.counted
    ∙ ap (λ (n : ℕ). c.args.steps.now + n) (reaching_same c.args.pages.now.galley.now c.args.pages.now.style.now c.args.kept.now.touched
    c.refill.new.kept.table c.in_ok-kept.field-0 c.in_ok-refill.ensures.filled.filled
    (subst (λ (es : List (Entry State PageMove)). IsPermutation (map label_of es) c.in_ok-kept.field-0)
    c.labels.ensures c.in_ok-kept.ensures.all))
