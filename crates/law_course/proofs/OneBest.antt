-- Of the paginations of a galley at most one is best.
use Rattle.std.proofs.Common.{◌≡◌, ◌∙◌, refl, sym, ap, arith}
use Rattle.std.specs.Prelude.{ℤ, ◌≤ℤ◌, None, reverse}
use Rattle.std.specs.Ordering.{ordering_reverse}
use Rattle.std.specs.declared.cmp.Ordering.{Ordering}
use Rattle.std.specs.declared.cmp.Ordering.TheVariants.{Less, Equal, Greater}
use borrow.Author.Differences.{ints}
use Rattle.pg_list.specs.GalleyValue.{GalleyValue}
use Rattle.pg_plan.specs.Order.{columns, plan_cmp}
use Rattle.pg_plan.specs.declared.pages.Pagination.{Pagination}
use Rattle.pg_style.specs.Values.{StyleValue}
use Rattle.pg_rules.specs.Cost.{cost}
use Rattle.pg_rules.specs.Legal.{Legal, breach, document, misfilled}
use Rattle.law_columns.proofs.BeginningContracts.{plans_total, tells_apart}
use Rattle.law_columns.proofs.Faults.{sound_of}
use Rattle.law_course.specs.MarkLaws.{BestIsOne}
use Rattle.law_places.proofs.Tests.{both_same}

pages_filled : (g : GalleyValue) (s : StyleValue) (p : Pagination) → Legal g s p →
    misfilled s.columns (reverse p.pages) ≡ None
unfolding breach
pages_filled g s p legal = (sound_of (document g s) (reverse p.pages) (columns p) _ _ legal.unbroken).filled

pub best_one : (g : GalleyValue) (s : StyleValue) → BestIsOne g s
best_one g s p q a b = by (plan_cmp p q) refl
  where
    same : cost g s p ≡ cost g s q
    same = both_same (cost g s p) (cost g s q) (a.least q b.legal) (b.least p a.legal)

    by : (o : Ordering) → plan_cmp p q ≡ o → p ≡ q
    by Less e = absurd (b.first p a.legal same e)
    by Equal e = tells_apart s p q (pages_filled g s p a.legal) (pages_filled g s q b.legal) e
    by Greater e = absurd (a.first q b.legal (sym same) (plans_total.antisymm q p ∙ ap ordering_reverse e))
