-- What is told of a galley whose labels are not listed.
use Rattle.std.proofs.Common.{◌≡◌, ◌∙◌, ap, subst, sym, ℕ, ◌+◌, ◌≤◌, List, inr, length, map, true, arith}
use Rattle.std.specs.List.Sorted.{IsPermutation, IsSortedByKey}
use Rattle.std.proofs.lemmas.List.{length-map}
use Rattle.std.proofs.lemmas.List.Sorted.{length_permutation}
use Rattle.pg_floats.specs.FloatsValue.{ClassFloatsValue}
use Rattle.pg_list.specs.GalleyValue.{GalleyValue}
use Rattle.pg_plan.specs.declared.states.Label.{Label}
use Rattle.pg_style.specs.Values.{StyleValue}
use Rattle.pg_space.proofs.Ordered.{listed}
use Rattle.pg_rules.specs.Frontier.{Frontier, state_cmp}
use Rattle.pg_rules.specs.Legal.{document}
use Rattle.pg_rules.specs.Ranges.{AreInRange}
use Rattle.pg_space.specs.PagesLawful.{key_test, pages_lawful}
use Rattle.pg_space.specs.Solves.{Solves}
use Rattle.law_space.specs.SpaceLaws.{TellsAll, label_of}
use Rattle.law_space.specs.PageSpace.{page_meaning}
use Rattle.pg_table.proofs.BelowLemmas.{right_below_all}
use Rattle.pg_table.specs.Searching.{count_reaching}
use Rattle.pg_session.proofs.Above.{labels_reach}
use Rattle.pg_session.proofs.Reaching.{reaching_same}
use Rattle.pg_session.specs.Kept.{IsFilled, IsKnown, IsRight, seen}
use Rattle.pg_session.specs.Reached.{HaveReach}
use Rattle.pg_session.specs.Sessions.{IsPaginated, above_all, label_reach, labels_reaching}
use Rattle.pg_session.specs.declared.kept.Kept.{Kept}
use Rattle.pg_session.specs.declared.told.Told.{Told}

module _ (g : GalleyValue) (s : StyleValue) (old new : Kept) (filled : IsFilled g s old new) where
  untouched : new.touched ≡ above_all
  untouched = ap (λ (k : Kept). k.touched) filled.is

  -- it is right below the touched block, as it is below any
  pub filled_right : AreInRange g s → IsRight g s new
  filled_right range = inr (right_below_all key_test (page_meaning (document g s)) (pages_lawful g s range) new.table
      new.touched filled.filled)

  -- and where the galley was solved, it still is
  pub filled_known : (old.solved ≡ true → IsKnown g s old) → new.solved ≡ true → IsKnown g s new
  filled_known was e = record {
    filled = filled.filled;
    frontier = subst (Frontier g s) (sym (ap (λ (k : Kept). k.labels) filled.is))
        (was (sym (ap (λ (k : Kept). k.solved) filled.is) ∙ e)).frontier;
    reaches = subst (λ (labels : List Label). HaveReach g s labels (label_reach g s))
        (sym (ap (λ (k : Kept). k.labels) filled.is)) (was (sym (ap (λ (k : Kept). k.solved) filled.is) ∙ e)).reaches;
    solved = e;
    untouched = untouched;
  }

  -- what is told with it
  pub is_paginated : (floats : List ClassFloatsValue) (told : Told) (before after : ℕ) → AreInRange g s →
      TellsAll g s new.table → Solves g s told.outcome → told.labels ≡ length new.table → (old.solved ≡ true → after ≡ before) →
      after ≤ before + count_reaching old.touched new.table →
      IsPaginated (seen g s floats old) told (seen g s floats new) before after
  is_paginated floats told before after range tells solves counted still bounded = by (listed new.table)
    where
      by : (labels : List Label) × (IsPermutation (map label_of new.table) labels
          × IsSortedByKey (λ (label : Label). label.state) state_cmp labels) →
          IsPaginated (seen g s floats old) told (seen g s floats new) before after
      by (labels, (all, sorted)) = record {
        solves = solves;
        labels = labels;
        frontier = tells.frontier labels all sorted;
        reaches = labels_reach g s labels range (tells.frontier labels all sorted);
        counted = counted ∙ (sym (length-map new.table label_of)
            ∙ sym (length_permutation (map label_of new.table) labels all));
        is = ap (seen g s floats) filled.is;
        still = still;
        bounded = let same : count_reaching old.touched new.table ≡ labels_reaching old.touched g s labels =
            reaching_same g s old.touched new.table labels filled.filled all in omega (arith, bounded, same);
      }
