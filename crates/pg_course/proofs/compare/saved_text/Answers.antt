use Rattle.std.proofs.Common.{◌≡◌, ◌++◌, ℕ, subst}
use Rattle.pg_greedy.specs.Compare.{best_line}
use Rattle.pg_course.proofs.Fits.{both_lines}
use Rattle.pg_course.proofs.compare.saved_text.Goals as goal

pub returns : goal.returns
returns c =
    both_lines c.args.basis.now.galley.now c.args.basis.now.style.now c.args.first.now c.args.plan.now c.args.cost.now
    c.new-text.result.items c.print_first.new.out.items c.print_best.new.out.items c.requires.fit c.requires.best
    c.requires.cost c.new-text.ensures.items c.in_ok-print_first.ensures
    (subst (λ (n : ℕ). c.print_best.new.out.items ≡ c.print_first.new.out.items ++ best_line n c.args.cost.now)
    c.page_count.ensures c.in_ok-print_best.ensures.ok)
