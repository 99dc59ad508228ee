-- What the test of closure in code says of the labels of pages.
use Rattle.std.proofs.Common.{◌≡◌, refl, sym, subst, ◌⊎◌, inl, inr, ℕ, ◌+◌, List, [], length, Bool, Some}
use Rattle.std.specs.Prelude.{slice_get, ℤ, pos, ◌+ℤ◌}
use Rattle.std.specs.Bool.{Decides}
use Rattle.std.proofs.lemmas.Option.{slice_get_within}
use Rattle.pg_list.specs.declared.galley.Place.{Place}
use Rattle.pg_plan.specs.declared.states.Label.{Label}
use Rattle.pg_plan.specs.declared.states.State.{State}
use Rattle.pg_rules.specs.Closed.{Covers}
use Rattle.pg_rules.specs.Room.{Document}
use Rattle.pg_rules.specs.States.{state_at}
use Rattle.pg_table.proofs.Lists.{at_contains}
use Rattle.law_space.specs.PageSpace.{FollowBest, page_meaning}
use Rattle.pg_cover.specs.Covered.{CoveredBy, IsFirstOpen, NoneOpenBefore, OpenTo}
use Rattle.law_check.specs.Gaps.{Gap}
use Rattle.law_check.proofs.Complete.{decide_covers}
use Rattle.law_check.specs.Faults.{IsOpen}
use Rattle.law_check.specs.Tests.{CoversStart, CoversSteps}

module _ (doc : Document) (labels : List Label) where
  pub to_covers : (v : State) (c : ℤ) → CoveredBy (page_meaning doc) labels v c → Covers labels v c
  to_covers v c k = record {
    label = k.label;
    listed = k.listed;
    no_worse = k.does.no_worse;
    no_dearer = k.does.no_dearer;
  }

  pub from_covers : (v : State) (c : ℤ) → Covers labels v c → CoveredBy (page_meaning doc) labels v c
  from_covers v c k = record {
    label = k.label;
    listed = k.listed;
    does = record { no_worse = k.no_worse; no_dearer = k.no_dearer };
  }

  -- whether the start is covered at the cost 0
  pub start_decided : (b : Bool) (start : State) (c : ℤ) → start ≡ state_at doc [] → c ≡ pos 0 →
      Decides b (CoveredBy (page_meaning doc) labels start c) → Decides b (CoversStart doc labels)
  start_decided b start c same free d = (
    λ t. to_covers (state_at doc []) (pos 0) (moved (d.0 t)),
    λ k. d.1 (moved_back (from_covers (state_at doc []) (pos 0) k)),
  )
    where
      moved : CoveredBy (page_meaning doc) labels start c →
          CoveredBy (page_meaning doc) labels (state_at doc []) (pos 0)
      moved k = subst (λ (x : ℤ). CoveredBy (page_meaning doc) labels (state_at doc []) x) free
          (subst (λ (u : State). CoveredBy (page_meaning doc) labels u c) same k)

      moved_back : CoveredBy (page_meaning doc) labels (state_at doc []) (pos 0) →
          CoveredBy (page_meaning doc) labels start c
      moved_back k = subst (λ (x : ℤ). CoveredBy (page_meaning doc) labels start x) (sym free)
          (subst (λ (u : State). CoveredBy (page_meaning doc) labels u (pos 0)) (sym same) k)

  to_gap : (label : Label) (to : Place) → OpenTo (page_meaning doc) labels label to →
      Gap (FollowBest doc) labels label to
  to_gap label to o = record {
    move = o.move;
    next = o.next;
    cost = o.pays;
    follow = o.follow;
    ends = o.ends;
    uncovered = λ k. o.uncovered (from_covers o.next (label.cost +ℤ o.pays) k);
  }

  from_gap : (label : Label) (to : Place) → Gap (FollowBest doc) labels label to →
      OpenTo (page_meaning doc) labels label to
  from_gap label to o = record {
    move = o.move;
    next = o.next;
    pays = o.cost;
    follow = o.follow;
    ends = o.ends;
    uncovered = λ k. o.uncovered (to_covers o.next (label.cost +ℤ o.cost) k);
  }

  -- where no label is open, whatever follows a label with best picks is covered
  pub none_open : NoneOpenBefore (page_meaning doc) labels (length labels) → CoversSteps (FollowBest doc) labels
  none_open none label move next pays listed follow =
      by (decide_covers labels next (label.cost +ℤ pays)) (at_contains labels label listed)
    where
      by : Covers labels next (label.cost +ℤ pays) ⊎ (Covers labels next (label.cost +ℤ pays) → ⊥) →
          (i : ℕ) × (slice_get labels i ≡ Some label) → Covers labels next (label.cost +ℤ pays)
      by (inl k) at = k
      by (inr n) (i, at) = absurd (none i label (slice_get_within labels i label at) at move.column.to
          (from_gap label move.column.to (record {
            move = move;
            next = next;
            cost = pays;
            follow = follow;
            ends = refl;
            uncovered = n;
          })))

  -- the first label that is open, and the least place where a column of it ends
  pub first_open : (index : ℕ) (to : Place) → IsFirstOpen (page_meaning doc) labels index to →
      IsOpen (FollowBest doc) labels (index + 1) to
  first_open index to o = record {
    first = record {
      index = index;
      numbered = refl;
      label = o.label;
      at = o.at;
      holds = record { to = to; gap = to_gap o.label to o.is_open.0 };
      before = λ i other less at has. o.before i other less at has.to (from_gap other has.to has.gap);
    };
    gap = to_gap o.label to o.is_open.0;
    least = λ other less gap. o.is_open.1 other less (from_gap o.label other gap);
  }
