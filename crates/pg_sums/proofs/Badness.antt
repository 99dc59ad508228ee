-- How badly kept totals fill a goal.
use Rattle.std.proofs.Common.{◌≡◌, refl, Bool, List, ℤ}
use Rattle.pg_list.specs.declared.item.Item.{Item}
use Rattle.pg_list.specs.Badness.{fill_badness, has_infinite}
use Rattle.pg_list.specs.Totals.{total}
use Rattle.pg_sums.specs.AreSums.{AreTotals}
use Rattle.pg_sums.specs.Step.{badness_by}
use Rattle.pg_sums.specs.declared.totals.Totals.{Totals}

pub badness_is : (topskip maxdepth : ℤ) (items : List Item) (t : Totals) → AreTotals topskip maxdepth items t →
    (spent spent' : Bool) (goal goal' more more' less less' : ℤ) → spent' ≡ spent → goal' ≡ goal → more' ≡ more →
    less' ≡ less → badness_by spent' goal' more' less' t
    ≡ fill_badness spent goal (total topskip maxdepth items) (has_infinite items) more less
badness_is topskip maxdepth items t are spent spent' goal goal' more more' less less' p q r s =
    rw (
      p,
      q,
      r,
      s,
      ← are.total_is,
      ← are.fil_is,
      ← are.fill_is,
      ← are.filll_is,
    ) refl
