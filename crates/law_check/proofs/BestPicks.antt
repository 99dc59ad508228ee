-- The test of closure is decided by best picks.
use Rattle.std.proofs.Common.{ℕ, List}
use Rattle.pg_list.specs.GalleyValue.{GalleyValue}
use Rattle.pg_list.specs.declared.galley.Place.{Place}
use Rattle.pg_plan.specs.declared.states.Label.{Label}
use Rattle.pg_style.specs.Values.{StyleValue}
use Rattle.pg_rules.specs.Follow.{Follow}
use Rattle.pg_rules.specs.Legal.{document}
use Rattle.pg_rules.specs.Ranges.{AreInRange}
use Rattle.law_space.specs.PageSpace.{FollowBest}
use Rattle.law_check.specs.Gaps.{Gap}
use Rattle.law_check.proofs.Cover.{best_gap, steps_all, steps_best}
use Rattle.law_check.specs.Faults.{IsOpen}
use Rattle.law_check.specs.CheckLaws.{BestPicksFault, BestPicksPass}
use Rattle.law_check.specs.Tests.{Steps}

open_other : (f h : Steps) (labels : List Label) →
    ((label : Label) (to : Place) → Gap f labels label to → Gap h labels label to) →
    ((label : Label) (to : Place) → Gap h labels label to → Gap f labels label to) → (number : ℕ) (to : Place) →
    IsOpen f labels number to → IsOpen h labels number to
open_other f h labels there back number to o = record {
  first = record {
    index = o.first.index;
    numbered = o.first.numbered;
    label = o.first.label;
    at = o.first.at;
    holds = record { to = o.first.holds.to; gap = there o.first.label o.first.holds.to o.first.holds.gap };
    before = λ i other less at has. o.first.before i other less at
        (record { to = has.to; gap = back other has.to has.gap });
  };
  gap = there o.first.label to o.gap;
  least = λ other less gap. o.least other less (back o.first.label other gap);
}

module _ (g : GalleyValue) (s : StyleValue) (range : AreInRange g s) where
  pub best_pass : BestPicksPass g s
  best_pass labels = (steps_best g s range labels, steps_all g s range labels)

  pub best_fault : BestPicksFault g s
  best_fault labels number to = (
    open_other (Follow (document g s)) (FollowBest (document g s)) labels
        (λ label at gap. (best_gap g s range labels label at).0 gap)
        (λ label at gap. (best_gap g s range labels label at).1 gap) number to,
    open_other (FollowBest (document g s)) (Follow (document g s)) labels
        (λ label at gap. (best_gap g s range labels label at).1 gap)
        (λ label at gap. (best_gap g s range labels label at).0 gap) number to,
  )
