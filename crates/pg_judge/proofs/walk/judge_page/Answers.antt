use Rattle.std.proofs.Common.{rules, arith, sym, ap, subst, ◌∙◌, ◌≡◌, ◌≤◌, ◌∷◌, ◌++◌, ◌-◌, List, drop, get_or, length, take}
use Rattle.std.specs.Prelude.{reverse}
use Rattle.std.proofs.lemmas.Result.{IfOk-from_err}
use Rattle.pg_lemmas.proofs.Lists.{no_items}
use Rattle.pg_plan.specs.declared.pages.Column.{Column}
use Rattle.pg_plan.specs.declared.pages.PageMove.{PageMove}
use Rattle.pg_plan.specs.Order.{no_floats, page_moves}
use Rattle.pg_judge.specs.Bases.{doc_of}
use Rattle.pg_judge.specs.Progress.{IsProgress, the_move}
use Rattle.pg_judge.proofs.Step.{on_ok}
use Rattle.pg_judge.proofs.Walks.{later_long, page_over}
use Rattle.pg_judge.proofs.walk.judge_page.Goals as goal

pub returns-clause-next : goal.returns-clause-next
returns-clause-next c = on_ok c.judge_later.result c.judge_later.ensures.next (λ next ms p.
    let page = c.args.page.now in
    let none : c.in_ok-none.none ≡ no_floats page.wide = search rules in
    let long = subst (λ (xs : List Column). 1 ≤ length xs) c.as_slice.ensures c.in-len1-up.len_at_least in
    let first = c.first-item.is ∙ ap (λ (xs : List Column). get_or xs 0 c.first-item.result) c.as_slice.ensures in
    subst (λ (xs : List PageMove). IsProgress (doc_of c.args.basis.now) xs c.judge_later.new.progress)
    (page_over page page.columns _ c.first-item.result c.in_ok-none.none long first
    (ap (λ (xs : List Column). take (length xs - 1) (drop 1 xs)) c.as_slice.ensures) none ms)
    (next (the_move c.first-item.result page.run page.wide ∷ ms) (c.in_ok-judge.ensures.next ms p)))

pub returns-in_default-clause-kept : goal.returns-in_default-clause-kept
returns-in_default-clause-kept c = c.requires.kept

pub returns-in_default-clause-number : goal.returns-in_default-clause-number
returns-in_default-clause-number c =
    let long = ap (λ (xs : List Column). length xs) c.as_slice.ensures in
    omega (arith, long, c.in_default.len_below)

pub returns-in_default-clause-next : goal.returns-in_default-clause-next
returns-in_default-clause-next c = λ ms p.
    let page = c.args.page.now in
    let long = ap (λ (xs : List Column). length xs) c.as_slice.ensures in
    let none = no_items page.columns (omega (arith, long, c.in_default.len_below)) in
    subst (λ (xs : List Column). IsProgress (doc_of c.args.basis.now) (reverse (page_moves page xs) ++ ms)
    c.args.progress.now) (sym none) p

pub judge-requires-clause-list : goal.judge-requires-clause-list
judge-requires-clause-list c = c.requires.list

pub judge-requires-clause-kept : goal.judge-requires-clause-kept
judge-requires-clause-kept c = c.requires.kept

pub judge-requires-clause-number : goal.judge-requires-clause-number
judge-requires-clause-number c = omega (arith, c.requires.number)

pub returns-in_err-judge-clause-kept : goal.returns-in_err-judge-clause-kept
returns-in_err-judge-clause-kept c = IfOk-from_err c.from_residual.result _ c.from_residual.ensures.0

pub returns-in_err-judge-clause-number : goal.returns-in_err-judge-clause-number
returns-in_err-judge-clause-number c = IfOk-from_err c.from_residual.result _ c.from_residual.ensures.0

pub returns-in_err-judge-clause-next : goal.returns-in_err-judge-clause-next
returns-in_err-judge-clause-next c = IfOk-from_err c.from_residual.result _ c.from_residual.ensures.0

pub returns-in_err-none-clause-kept : goal.returns-in_err-none-clause-kept
returns-in_err-none-clause-kept c =
    IfOk-from_err c.from_residual-in_err-none.result _ c.from_residual-in_err-none.ensures.0

pub returns-in_err-none-clause-number : goal.returns-in_err-none-clause-number
returns-in_err-none-clause-number c =
    IfOk-from_err c.from_residual-in_err-none.result _ c.from_residual-in_err-none.ensures.0

pub returns-in_err-none-clause-next : goal.returns-in_err-none-clause-next
returns-in_err-none-clause-next c =
    IfOk-from_err c.from_residual-in_err-none.result _ c.from_residual-in_err-none.ensures.0

pub judge_later-requires-clause-list : goal.judge_later-requires-clause-list
judge_later-requires-clause-list c = c.requires.list

pub judge_later-requires-clause-kept : goal.judge_later-requires-clause-kept
judge_later-requires-clause-kept c = c.in_ok-judge.ensures.kept

pub judge_later-requires-clause-number : goal.judge_later-requires-clause-number
judge_later-requires-clause-number c =
    let n = c.in_ok-judge.ensures.number in
    let later = later_long c.as_slice.result.now c.args.page.now.columns c.as_slice.ensures c.in-len1-up.len_at_least in
    omega (arith, c.requires.number, n, later)

pub returns-clause-kept : goal.returns-clause-kept
returns-clause-kept c = c.judge_later.ensures.kept

pub returns-clause-number : goal.returns-clause-number
returns-clause-number c = on_ok c.judge_later.result c.judge_later.ensures.number (λ m.
    let n = c.in_ok-judge.ensures.number in
    let later = later_long c.as_slice.result.now c.args.page.now.columns c.as_slice.ensures c.in-len1-up.len_at_least in
    omega (arith, m, n, later))
