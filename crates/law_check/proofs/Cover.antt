-- Closed labels cover every beginning; best picks close them.
use Rattle.std.proofs.Common.{◌≡◌, sym, ap, subst, ◌∙◌, ◌⊎◌, inl, inr, List, [], ◌∷◌, true, arith}
use Rattle.std.specs.Prelude.{Contains, ℤ, pos, ◌+ℤ◌, ◌≤ℤ◌, ◌<ℤ◌}
use Rattle.std.proofs.lemmas.Int.{ints}
use Rattle.pg_list.specs.GalleyValue.{GalleyValue}
use Rattle.pg_plan.specs.declared.pages.PageMove.{PageMove}
use Rattle.pg_plan.specs.declared.pages.Pagination.{Pagination}
use Rattle.pg_plan.specs.declared.states.Label.{Label}
use Rattle.pg_plan.specs.declared.states.State.{State}
use Rattle.pg_plan.specs.Order.{columns}
use Rattle.pg_style.specs.Values.{StyleValue}
use Rattle.pg_rules.specs.Closed.{Closed, Covers}
use Rattle.pg_rules.specs.Cost.{cost}
use Rattle.pg_rules.specs.Follow.{Follow}
use Rattle.pg_rules.specs.IsState.{IsState}
use Rattle.pg_rules.specs.Legal.{Legal, document}
use Rattle.pg_rules.specs.NoWorse.{is_same_key}
use Rattle.pg_rules.specs.States.{state_of, is_done}
use Rattle.pg_table.specs.Narrower.{Instead}
use Rattle.pg_table.specs.Space.{Lawful, Run}
use Rattle.pg_table.proofs.Runs.{own}
use Rattle.law_columns.specs.FollowsToo.{FollowsToo}
use Rattle.pg_rules.specs.Ranges.{AreInRange}
use Rattle.law_columns.proofs.ColumnContracts.{no_worse_follow, no_worse_done}
use Rattle.law_columns.proofs.BeginningContracts.{facts, some}
use Rattle.law_columns.proofs.Prefixes.{legal_done, legal_prefix}
use Rattle.law_space.specs.PageSpace.{FollowBest, wide_meaning}
use Rattle.law_space.proofs.Bounds.{pages_lawful}
use Rattle.law_space.proofs.SpaceContracts.{best_exist}
use Rattle.law_space.proofs.Solve.{prefix_run}
use Rattle.law_check.specs.Gaps.{ClosedByBest, Gap}
use Rattle.law_check.specs.LabelLaws.{ClosedBound, ClosedNone, BestPicksClose, BestPicksGap}

pub covers_dearer : (labels : List Label) (v : State) (c d : ℤ) → c ≤ℤ d → Covers labels v c → Covers labels v d
covers_dearer labels v c d h k = record {
  label = k.label;
  listed = k.listed;
  no_worse = k.no_worse;
  no_dearer = let p : k.label.cost ≤ℤ c = k.no_dearer in omega (arith, ints);
}

cheaper : (c d : ℤ) (b : Type 0) → (c <ℤ d) ⊎ ((c ≡ d) × b) → c ≤ℤ d
cheaper c d b (inl h) = omega (arith, ints)
cheaper c d b (inr h) = let e : c ≡ d = h.0 in omega (arith, ints)

module _ (g : GalleyValue) (s : StyleValue) (range : AreInRange g s) where
  law : Lawful is_same_key (wide_meaning (document g s))
  law = pages_lawful g s range

  -- ---- every beginning is covered

  cover_next : (labels : List Label) → Closed g s labels → (m : PageMove) (u v : State) (n k c : ℤ) →
      IsState (document g s) u → Follow (document g s) u m v k → c ≡ n +ℤ k → Covers labels u n →
      Covers labels v c
  cover_next labels closed m u v n k c own_u follow sum here =
      let t : FollowsToo (document g s) here.label.state m v k =
      no_worse_follow g s range here.label.state u m v k own_u here.no_worse follow in
      let next : Covers labels t.to (here.label.cost +ℤ t.cost) =
      closed.steps here.label m t.to t.cost here.listed t.follow in
      let own_label : IsState (document g s) here.label.state = closed.states here.label here.listed in
      let own_to : IsState (document g s) t.to = law.own_next here.label.state m t.to t.cost own_label t.follow in
      let own_v : IsState (document g s) v = law.own_next u m v k own_u follow in
      record {
        label = next.label;
        listed = next.listed;
        no_worse = law.transitive next.label.state t.to v (closed.states next.label next.listed) own_to own_v
            next.no_worse t.no_worse;
        no_dearer = let a : next.label.cost ≤ℤ (here.label.cost +ℤ t.cost) = next.no_dearer in
            let b : here.label.cost ≤ℤ n = here.no_dearer in let d : t.cost ≤ℤ k = t.cheap in
            omega (arith, ints);
      }

  pub cover_run : (labels : List Label) → Closed g s labels → (ms : List PageMove) (v : State) (c : ℤ) →
      Run (wide_meaning (document g s)) ms v c → Covers labels v c
  cover_run labels closed [] v c (e, z) =
      subst (λ (x : ℤ). Covers labels v x) (sym z)
      (subst (λ (x : State). Covers labels x (pos 0)) (sym e) closed.start)
  cover_run labels closed (m ∷ ms) v c (u, (n, k, (run, follow, sum))) =
      cover_next labels closed m u v n k c (own is_same_key (wide_meaning (document g s)) law ms u n run) follow
      sum (cover_run labels closed ms u n run)

  -- a finished label costs no more than the pagination
  pub record Finished (labels : List Label) (n : ℤ) : Type 0 where
    pub label : Label
    pub listed : Contains labels label
    pub finished : is_done (document g s) label.state ≡ true
    pub no_dearer : label.cost ≤ℤ n

  pub finished_label : (labels : List Label) → Closed g s labels → (plan : Pagination) → Legal g s plan →
      Finished labels (cost g s plan)
  finished_label labels closed plan legal =
      let c : Covers labels (state_of g s plan) (cost g s plan) =
      cover_run labels closed (columns plan) (state_of g s plan) (cost g s plan)
      (prefix_run g s (facts g s range) (some g s range) plan
      (legal_prefix g s (facts g s range) (some g s range) plan legal)) in
      record {
        label = c.label;
        listed = c.listed;
        finished = no_worse_done g s range c.label.state (state_of g s plan) c.no_worse
            (legal_done g s (facts g s range) (some g s range) plan legal);
        no_dearer = c.no_dearer;
      }

  pub closed_bound : ClosedBound g s
  closed_bound labels n plan closed cheap legal =
      let f : Finished labels (cost g s plan) = finished_label labels closed plan legal in
      let h : n ≤ℤ f.label.cost = cheap f.label f.listed f.finished in
      let k : f.label.cost ≤ℤ cost g s plan = f.no_dearer in
      omega (arith, ints)

  pub closed_none : ClosedNone g s
  closed_none labels plan closed none legal =
      let f : Finished labels (cost g s plan) = finished_label labels closed plan legal in
      none f.label f.listed f.finished

  -- ---- best picks

  pub steps_best : (labels : List Label) →
      ((label : Label) (m : PageMove) (v : State) (k : ℤ) → Contains labels label →
      Follow (document g s) label.state m v k → Covers labels v (label.cost +ℤ k)) → (label : Label) (m : PageMove)
      (v : State) (k : ℤ) → Contains labels label → FollowBest (document g s) label.state m v k →
      Covers labels v (label.cost +ℤ k)
  steps_best labels h label m v k listed f = h label m v k listed f.follow

  pub steps_all : (labels : List Label) →
      ((label : Label) (m : PageMove) (v : State) (k : ℤ) → Contains labels label →
      FollowBest (document g s) label.state m v k → Covers labels v (label.cost +ℤ k)) → (label : Label)
      (m : PageMove) (v : State) (k : ℤ) → Contains labels label → Follow (document g s) label.state m v k →
      Covers labels v (label.cost +ℤ k)
  steps_all labels h label m v k listed f =
      let i : Instead (wide_meaning (document g s)) (FollowBest (document g s)) label.state m v k =
      best_exist (document g s) label.state m v k f in
      covers_dearer labels v (label.cost +ℤ i.cost) (label.cost +ℤ k)
      (let h : i.cost ≤ℤ k = cheaper i.cost k _ i.undercuts in omega (arith, ints))
      (h label i.move v i.cost listed i.follow)

  pub best_close : BestPicksClose g s
  best_close labels = (to, back)
    where
      to : Closed g s labels → ClosedByBest g s labels
      to c = record {
        states = c.states;
        start = c.start;
        steps = steps_best labels c.steps;
      }

      back : ClosedByBest g s labels → Closed g s labels
      back c = record {
        states = c.states;
        start = c.start;
        steps = steps_all labels c.steps;
      }

  ends_at : (u : State) (m : PageMove) (v : State) (c : ℤ) → Follow (document g s) u m v c → v.place ≡ m.column.to
  ends_at u m v c f = ap (λ (x : State). x.place) f.leads

  pub best_gap : BestPicksGap g s
  best_gap labels label at = (to, back)
    where
      to : Gap (Follow (document g s)) labels label at → Gap (FollowBest (document g s)) labels label at
      to p =
          let i : Instead (wide_meaning (document g s)) (FollowBest (document g s)) label.state p.move p.next p.cost =
          best_exist (document g s) label.state p.move p.next p.cost p.follow in
          record {
            move = i.move;
            next = p.next;
            cost = i.cost;
            follow = i.follow;
            ends = sym (ends_at label.state i.move p.next i.cost i.follow.follow)
                ∙ (ends_at label.state p.move p.next p.cost p.follow ∙ p.ends);
            uncovered = λ k. p.uncovered (covers_dearer labels p.next (label.cost +ℤ i.cost) (label.cost +ℤ p.cost)
                (let h : i.cost ≤ℤ p.cost = cheaper i.cost p.cost _ i.undercuts in omega (arith, ints)) k);
          }

      back : Gap (FollowBest (document g s)) labels label at → Gap (Follow (document g s)) labels label at
      back p = record {
        move = p.move;
        next = p.next;
        cost = p.cost;
        follow = p.follow.follow;
        ends = p.ends;
        uncovered = p.uncovered;
      }
